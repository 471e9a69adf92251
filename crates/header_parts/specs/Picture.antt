-- The elements of a slice header that tell its picture and the picture's order (ITU-T H.264, 7.3.3 and 7.4.3).
use Rattle.std.specs.Prelude.{◌≡◌, ℕ, ℤ, pos, negsuc, ◌+◌, ◌<◌, ◌^◌, ◌==◌, Bool, false, not, ◌&&◌, List, [], ◌∷◌, length, if◌then◌else◌}
use Rattle.std.specs.List.{flat_map, AllByRecursion}
use Rattle.bit_texts.specs.Bits.{binary}
use Rattle.exp_golomb.specs.Code as code
use Rattle.exp_golomb.specs.Code.{Flag, U, Ue, Se, IsIn}
use Rattle.exp_golomb.specs.Syntax.{Syntax, Done, ◌>>=◌, u, se, series, joined}
use Rattle.param_sets.specs.declared.pps.Pps.{Pps}
use Rattle.param_sets.specs.declared.sps.Sps.{Sps}
use Rattle.header_parts.specs.ActiveSets.{Active}
use Rattle.header_parts.specs.Refusal.{Refusal}
use Rattle.header_parts.specs.NalHeader.{is_idr}
use Rattle.header_parts.specs.When.{element_when, code_when, IsInWhen}
use Rattle.header_parts.specs.declared.parts.PictureNumber.{PictureNumber}
use Rattle.header_parts.specs.declared.parts.PictureOrder.{PictureOrder}

-- ---- the picture

unfoldable pub picture_number : Sps → ℕ → Syntax Refusal PictureNumber
picture_number sps nal = do
  frame_num ← u (sps.log2_max_frame_num_minus4 + 4)
  field_pic_flag ← element_when (not sps.frame_mbs_only_flag) Flag false
  bottom_field_flag ← element_when field_pic_flag Flag false
  idr_pic_id ← element_when (is_idr nal) (Ue 65535) 0
  Done (record { frame_num = frame_num; field_pic_flag = field_pic_flag; bottom_field_flag = bottom_field_flag; idr_pic_id = idr_pic_id })

abbrev pub picture_text : Sps → ℕ → PictureNumber → List Bool
picture_text sps nal p = joined (
    binary (sps.log2_max_frame_num_minus4 + 4) p.frame_num
    ∷ code_when (not sps.frame_mbs_only_flag) Flag p.field_pic_flag
    ∷ code_when p.field_pic_flag Flag p.bottom_field_flag
    ∷ code_when (is_idr nal) (Ue 65535) p.idr_pic_id
    ∷ [])

-- That frame_num is 0 in an IDR picture isn't judged here.
pub record PictureFits (sps : Sps) (nal : ℕ) (p : PictureNumber) : Type 0 where
  pub frame_num : p.frame_num < 2 ^ (sps.log2_max_frame_num_minus4 + 4)
  pub field_pic_flag : IsInWhen (not sps.frame_mbs_only_flag) Flag false p.field_pic_flag
  pub bottom_field_flag : IsInWhen p.field_pic_flag Flag false p.bottom_field_flag
  pub idr_pic_id : IsInWhen (is_idr nal) (Ue 65535) 0 p.idr_pic_id

-- ---- its order

-- the order of the two fields of a frame is told, by delta_pic_order_cnt_bottom or delta_pic_order_cnt[ 1 ]
abbrev pub tells_bottom : Pps → Bool → Bool
tells_bottom pps field_pic_flag = pps.bottom_field_pic_order_in_frame_present_flag && not field_pic_flag

abbrev pub has_bottom : Active → Bool → Bool
has_bottom active field_pic_flag = (active.sps.pic_order_cnt_type == 0) && tells_bottom active.pps field_pic_flag

-- how many of delta_pic_order_cnt[ 0 ] and [ 1 ] stand
abbrev pub delta_count : Active → Bool → ℕ
delta_count active field_pic_flag =
    if (active.sps.pic_order_cnt_type == 1) && not active.sps.delta_pic_order_always_zero_flag then (if tells_bottom active.pps field_pic_flag then 2 else 1) else 0

abbrev pub delta_pic_order_cnt : Syntax Refusal ℤ
delta_pic_order_cnt = se (negsuc 2147483646) (pos 2147483647)

unfoldable pub picture_order : Active → Bool → Syntax Refusal PictureOrder
picture_order active field_pic_flag = do
  pic_order_cnt_lsb ← element_when (active.sps.pic_order_cnt_type == 0) (U (active.sps.log2_max_pic_order_cnt_lsb_minus4 + 4)) 0
  delta_pic_order_cnt_bottom ← element_when (has_bottom active field_pic_flag) (Se (negsuc 2147483646) (pos 2147483647)) (pos 0)
  deltas ← series (delta_count active field_pic_flag) 0 (λ place. delta_pic_order_cnt)
  Done (record { pic_order_cnt_lsb = pic_order_cnt_lsb; delta_pic_order_cnt_bottom = delta_pic_order_cnt_bottom; delta_pic_order_cnt = deltas })

abbrev pub order_text : Active → Bool → PictureOrder → List Bool
order_text active field_pic_flag o = joined (
    code_when (active.sps.pic_order_cnt_type == 0) (U (active.sps.log2_max_pic_order_cnt_lsb_minus4 + 4)) o.pic_order_cnt_lsb
    ∷ code_when (has_bottom active field_pic_flag) (Se (negsuc 2147483646) (pos 2147483647)) o.delta_pic_order_cnt_bottom
    ∷ flat_map code.se o.delta_pic_order_cnt
    ∷ [])

-- the range of se(v)
abbrev pub IsDelta : ℤ → Type 0
IsDelta delta = IsIn (Se (negsuc 2147483646) (pos 2147483647)) delta

pub record OrderFits (active : Active) (field_pic_flag : Bool) (o : PictureOrder) : Type 0 where
  pub pic_order_cnt_lsb : IsInWhen (active.sps.pic_order_cnt_type == 0) (U (active.sps.log2_max_pic_order_cnt_lsb_minus4 + 4)) 0 o.pic_order_cnt_lsb
  pub delta_pic_order_cnt_bottom :
      IsInWhen (has_bottom active field_pic_flag) (Se (negsuc 2147483646) (pos 2147483647)) (pos 0) o.delta_pic_order_cnt_bottom
  pub count : length o.delta_pic_order_cnt ≡ delta_count active field_pic_flag
  pub delta_pic_order_cnt : AllByRecursion IsDelta o.delta_pic_order_cnt
