-- Parts of a slice header are read from its text, and what is read has that text.
use Rattle.std.proofs.Common.{◌≡◌, ℕ, zero, suc, ℤ, pos, negsuc, ◌+◌, Bool, true, false, not, eqb, List, [], ◌∷◌, ◌++◌, length, refl, sym, ap, subst, ◌∙◌, append_assoc}
use Rattle.std.specs.List.{flat_map, AllByRecursion}
use Rattle.bit_texts.specs.Texts.{AreTurns}
use Rattle.exp_golomb.specs.Code.{Kind, Value, Flag, U, Ue, Se, se}
use Rattle.exp_golomb.specs.Syntax.{Syntax, Done, Found, Spells, outcome_of, series}
use Rattle.exp_golomb.proofs.Fronts.{in_u}
use Rattle.exp_golomb.proofs.Written.{element_again, done_again, holds_in_range, part_again}
use Rattle.param_sets.proofs.Spelled.{found_then, found_in_range, same_found, Begins, begins, begins_then, begins_last, u_below, series_spelled, series_again}
use Rattle.param_sets.specs.declared.pps.Pps.{Pps}
use Rattle.param_sets.specs.declared.sps.Sps.{Sps}
use Rattle.header_parts.specs.Refusal.{Refusal}
use Rattle.header_parts.specs.NalHeader.{is_idr}
use Rattle.header_parts.specs.When.{element_when, code_when, IsInWhen}
use Rattle.header_parts.specs.ActiveSets.{Active}
use Rattle.header_parts.specs.Picture.{picture_number, has_bottom, delta_count, delta_pic_order_cnt, picture_order, picture_text, order_text, PictureFits, OrderFits, IsDelta}
use Rattle.header_parts.specs.QuantisationAndFilter.{has_offsets, slice_qp_y, is_qp, slice_qp, deblocking, deblocking_text, DeblockingFits}
use Rattle.header_parts.specs.declared.parts.PictureNumber.{PictureNumber}
use Rattle.header_parts.specs.declared.parts.PictureOrder.{PictureOrder}
use Rattle.header_parts.specs.declared.parts.Deblocking.{Deblocking}

-- ---- an element under a condition

pub when_spelled : (present : Bool) (kind : Kind) (absent : Value kind) (bits : List Bool) (value : Value kind) (rest : List Bool) → Spells (element_when present kind absent) bits (Found value rest)
    → IsInWhen present kind absent value × Begins (code_when present kind value) bits rest
unfolding element_when
when_spelled true kind absent bits value rest (read, after, in_range, text, k) =
    let same = same_found value read rest after (Found value rest) refl k in
    rw (same.0, same.1) (in_range, begins text)
when_spelled false kind absent bits value rest k =
    let same = same_found value absent rest bits (Found value rest) refl k in
    (same.0, begins (sym same.1))

pub when_again : (present : Bool) (kind : Kind) (absent value : Value kind) (rest : List Bool) → IsInWhen present kind absent value
    → outcome_of (element_when present kind absent) (code_when present kind value ++ rest) ≡ Found value rest
unfolding element_when
when_again true kind absent value rest h = element_again kind Done value rest h ∙ done_again value rest
when_again false kind absent value rest h = done_again absent rest ∙ ap (λ (v : Value kind). Found v rest) (sym h)

-- ---- the picture

pub picture_spelled : (sps : Sps) (nal : ℕ) (bits : List Bool) (p : PictureNumber) (rest : List Bool) → Spells (picture_number sps nal) bits (Found p rest)
    → PictureFits sps nal p × Begins (picture_text sps nal p) bits rest
unfolding picture_number
picture_spelled sps nal bits p rest h =
    let a = found_then (element_when (not sps.frame_mbs_only_flag) Flag false) _ h.1 p rest h.4 in
    let b = found_then (element_when a.0 Flag false) _ a.1 p rest a.3 in
    let c = found_then (element_when (is_idr nal) (Ue 65535) 0) _ b.1 p rest b.3 in
    let field = when_spelled (not sps.frame_mbs_only_flag) Flag false h.1 a.0 a.1 a.2 in
    let bottom = when_spelled a.0 Flag false a.1 b.0 b.1 b.2 in
    let idr = when_spelled (is_idr nal) (Ue 65535) 0 b.1 c.0 c.1 c.2 in
    let same = same_found p _ rest _ (Found p rest) refl c.3 in
    done _ _ same.0 same.1 (
      record { frame_num = u_below _ h.0 h.2; field_pic_flag = field.0; bottom_field_flag = bottom.0; idr_pic_id = idr.0 },
      begins_then (begins h.3) (begins_then field.1 (begins_then bottom.1 (begins_last idr.1))),
    )
  where
    done : (q : PictureNumber) (tail : List Bool) → p ≡ q → rest ≡ tail → PictureFits sps nal q × Begins (picture_text sps nal q) bits tail → PictureFits sps nal p × Begins (picture_text sps nal p) bits rest
    done q tail e k so = rw (e, k) so

pub picture_again : (sps : Sps) (nal : ℕ) (p : PictureNumber) (rest : List Bool) → PictureFits sps nal p → outcome_of (picture_number sps nal) (picture_text sps nal p ++ rest) ≡ Found p rest
unfolding picture_number
picture_again sps nal p rest fits =
    simp append_assoc (
    element_again (U (sps.log2_max_frame_num_minus4 + 4)) _ p.frame_num _ (in_u _ _ fits.frame_num)
    ∙ part_again (element_when (not sps.frame_mbs_only_flag) Flag false) _ p.field_pic_flag _ _ (when_again (not sps.frame_mbs_only_flag) Flag false p.field_pic_flag _ fits.field_pic_flag)
    ∙ part_again (element_when p.field_pic_flag Flag false) _ p.bottom_field_flag _ _ (when_again p.field_pic_flag Flag false p.bottom_field_flag _ fits.bottom_field_flag)
    ∙ part_again (element_when (is_idr nal) (Ue 65535) 0) _ p.idr_pic_id _ _ (when_again (is_idr nal) (Ue 65535) 0 p.idr_pic_id _ fits.idr_pic_id)
    ∙ done_again p rest)

-- ---- the picture order count

delta_spelled : (place : ℕ) (bits : List Bool) (x : ℤ) (rest : List Bool) → Spells delta_pic_order_cnt bits (Found x rest) → IsDelta x × (bits ≡ se x ++ rest)
delta_spelled place bits x rest (value, after, in_range, text, k) =
    let same = same_found x value rest after (Found x rest) refl k in
    rw (same.0, same.1) (in_range, text)

delta_again : (place : ℕ) (x : ℤ) (rest : List Bool) → IsDelta x → outcome_of delta_pic_order_cnt (se x ++ rest) ≡ Found x rest
delta_again place x rest h = element_again (Se (negsuc 2147483646) (pos 2147483647)) Done x rest h ∙ done_again x rest

turns_deltas : (count place : ℕ) (xs : List ℤ) → AreTurns (λ p. IsDelta) (λ p x. p + 1) count place xs → (length xs ≡ count) × AllByRecursion IsDelta xs
unfolding AreTurns
turns_deltas zero place [] h = (refl, tt)
turns_deltas zero place (x ∷ xs) h = absurd h
turns_deltas (suc count) place [] h = absurd h
turns_deltas (suc count) place (x ∷ xs) h = let more = turns_deltas count (place + 1) xs h.1 in (ap suc more.0, (h.0, more.1))

deltas_turns : (place : ℕ) (xs : List ℤ) → AllByRecursion IsDelta xs → AreTurns (λ p. IsDelta) (λ p x. p + 1) (length xs) place xs
unfolding AreTurns
deltas_turns place [] h = tt
deltas_turns place (x ∷ xs) h = (h.0, deltas_turns (place + 1) xs h.1)

abbrev deltas : ℕ → Syntax Refusal (List ℤ)
deltas count = series count 0 (λ place. delta_pic_order_cnt)

deltas_again : (count : ℕ) (xs : List ℤ) (rest : List Bool) → length xs ≡ count → AllByRecursion IsDelta xs → outcome_of (deltas count) (flat_map se xs ++ rest) ≡ Found xs rest
deltas_again count xs rest e h = series_again (λ p. IsDelta) se (λ place. delta_pic_order_cnt) delta_again count 0 xs rest (subst (λ n. AreTurns (λ p. IsDelta) (λ p x. p + 1) n 0 xs) e (deltas_turns 0 xs h))

abbrev Lsb : Active → Kind
Lsb active = U (active.sps.log2_max_pic_order_cnt_lsb_minus4 + 4)

abbrev Any : Kind
Any = Se (negsuc 2147483646) (pos 2147483647)

pub order_spelled : (active : Active) (field : Bool) (bits : List Bool) (o : PictureOrder) (rest : List Bool) → Spells (picture_order active field) bits (Found o rest)
    → OrderFits active field o × Begins (order_text active field o) bits rest
unfolding picture_order
order_spelled active field bits o rest h =
    let a = found_then (element_when (eqb active.sps.pic_order_cnt_type 0) (Lsb active) 0) _ bits o rest h in
    let b = found_then (element_when (has_bottom active field) Any (pos 0)) _ a.1 o rest a.3 in
    let c = found_then (deltas (delta_count active field)) _ b.1 o rest b.3 in
    let lsb = when_spelled (eqb active.sps.pic_order_cnt_type 0) (Lsb active) 0 bits a.0 a.1 a.2 in
    let bottom = when_spelled (has_bottom active field) Any (pos 0) a.1 b.0 b.1 b.2 in
    let list = series_spelled (λ p. IsDelta) se (λ place. delta_pic_order_cnt) delta_spelled (delta_count active field) 0 b.1 c.0 c.1 c.2 in
    let each = turns_deltas (delta_count active field) 0 c.0 list.0 in
    let same = same_found o _ rest _ (Found o rest) refl c.3 in
    done _ _ same.0 same.1 (
      record { pic_order_cnt_lsb = lsb.0; delta_pic_order_cnt_bottom = bottom.0; count = each.0; delta_pic_order_cnt = each.1 },
      begins_then lsb.1 (begins_then bottom.1 (begins_last (begins list.1))),
    )
  where
    done : (q : PictureOrder) (tail : List Bool) → o ≡ q → rest ≡ tail → OrderFits active field q × Begins (order_text active field q) bits tail → OrderFits active field o × Begins (order_text active field o) bits rest
    done q tail e k so = rw (e, k) so

pub order_again : (active : Active) (field : Bool) (o : PictureOrder) (rest : List Bool) → OrderFits active field o → outcome_of (picture_order active field) (order_text active field o ++ rest) ≡ Found o rest
unfolding picture_order
order_again active field o rest fits =
    simp append_assoc (
    part_again (element_when (eqb active.sps.pic_order_cnt_type 0) (Lsb active) 0) _ o.pic_order_cnt_lsb _ _ (when_again (eqb active.sps.pic_order_cnt_type 0) (Lsb active) 0 o.pic_order_cnt_lsb _ fits.pic_order_cnt_lsb)
    ∙ part_again (element_when (has_bottom active field) Any (pos 0)) _ o.delta_pic_order_cnt_bottom _ _ (when_again (has_bottom active field) Any (pos 0) o.delta_pic_order_cnt_bottom _ fits.delta_pic_order_cnt_bottom)
    ∙ part_again (deltas (delta_count active field)) _ o.delta_pic_order_cnt _ _ (deltas_again (delta_count active field) o.delta_pic_order_cnt _ fits.count fits.delta_pic_order_cnt)
    ∙ done_again o rest)

-- ---- the quantisation

pub qp_spelled : (pps : Pps) (bits : List Bool) (delta : ℤ) (rest : List Bool) → Spells (slice_qp pps) bits (Found delta rest)
    → IsDelta delta × (is_qp (slice_qp_y pps delta) ≡ true) × Begins (se delta) bits rest
unfolding slice_qp
qp_spelled pps bits delta rest (value, after, in_range, text, k) =
    let known = found_in_range {E = Refusal} {A = ℤ} (is_qp (slice_qp_y pps value)) _ after delta rest k in
    let same = same_found delta value rest after (Found delta rest) refl known.1 in
    rw (same.0, same.1) (in_range, known.0, begins text)

pub qp_again : (pps : Pps) (delta : ℤ) (rest : List Bool) → IsDelta delta → is_qp (slice_qp_y pps delta) ≡ true → outcome_of (slice_qp pps) (se delta ++ rest) ≡ Found delta rest
unfolding slice_qp
qp_again pps delta rest in_range known = element_again Any _ delta rest in_range ∙ holds_in_range _ _ rest known ∙ done_again delta rest

-- ---- the deblocking filter

abbrev Offset : Kind
Offset = Se (negsuc 5) (pos 6)

pub filter_spelled : (present : Bool) (bits : List Bool) (d : Deblocking) (rest : List Bool) → Spells (deblocking present) bits (Found d rest)
    → DeblockingFits present d × Begins (deblocking_text present d) bits rest
unfolding deblocking
filter_spelled present bits d rest h =
    let a = found_then (element_when present (Ue 2) 0) _ bits d rest h in
    let b = found_then (element_when (has_offsets present a.0) Offset (pos 0)) _ a.1 d rest a.3 in
    let c = found_then (element_when (has_offsets present a.0) Offset (pos 0)) _ b.1 d rest b.3 in
    let idc = when_spelled present (Ue 2) 0 bits a.0 a.1 a.2 in
    let alpha = when_spelled (has_offsets present a.0) Offset (pos 0) a.1 b.0 b.1 b.2 in
    let beta = when_spelled (has_offsets present a.0) Offset (pos 0) b.1 c.0 c.1 c.2 in
    let same = same_found d _ rest _ (Found d rest) refl c.3 in
    done _ _ same.0 same.1 (
      record { disable_deblocking_filter_idc = idc.0; slice_alpha_c0_offset_div2 = alpha.0; slice_beta_offset_div2 = beta.0 },
      begins_then idc.1 (begins_then alpha.1 (begins_last beta.1)),
    )
  where
    done : (q : Deblocking) (tail : List Bool) → d ≡ q → rest ≡ tail → DeblockingFits present q × Begins (deblocking_text present q) bits tail → DeblockingFits present d × Begins (deblocking_text present d) bits rest
    done q tail e k so = rw (e, k) so

pub filter_again : (present : Bool) (d : Deblocking) (rest : List Bool) → DeblockingFits present d → outcome_of (deblocking present) (deblocking_text present d ++ rest) ≡ Found d rest
unfolding deblocking
filter_again present d rest fits =
    simp append_assoc (
    part_again (element_when present (Ue 2) 0) _ d.disable_deblocking_filter_idc _ _ (when_again present (Ue 2) 0 d.disable_deblocking_filter_idc _ fits.disable_deblocking_filter_idc)
    ∙ part_again (element_when (has_offsets present d.disable_deblocking_filter_idc) Offset (pos 0)) _ d.slice_alpha_c0_offset_div2 _ _ (when_again (has_offsets present d.disable_deblocking_filter_idc) Offset (pos 0) d.slice_alpha_c0_offset_div2 _ fits.slice_alpha_c0_offset_div2)
    ∙ part_again (element_when (has_offsets present d.disable_deblocking_filter_idc) Offset (pos 0)) _ d.slice_beta_offset_div2 _ _ (when_again (has_offsets present d.disable_deblocking_filter_idc) Offset (pos 0) d.slice_beta_offset_div2 _ fits.slice_beta_offset_div2)
    ∙ done_again d rest)
