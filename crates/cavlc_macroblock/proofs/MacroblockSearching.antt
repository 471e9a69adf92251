-- The macroblocks that have a text can be searched: each of their elements has finitely many values.
use Rattle.std.proofs.Common.{◌≡◌, ◌⊎◌, inl, inr, ℕ, suc, ◌+◌, ◌-◌, ◌*◌, ◌/◌, ◌<◌, ◌≤◌, ℤ, pos, negsuc, ◌≤ℤ◌, Bool, true, false, List, [], length, take, drop, get_or, replicate, refl, sym, ap, subst, ◌∙◌, arith}
use Rattle.std.specs.Prelude.{All, IsTrue, if◌then◌else◌, ◌&&◌, nat_lt, slice_index, slice_index_or}
use Rattle.std.proofs.lemmas.Int.{ints}
use Rattle.std.proofs.lemmas.List.{get_or_default}
use Rattle.std.proofs.lemmas.List.Elements.{All-from_recursion, recursion_from_All}
use Rattle.bit_texts.specs.Texts.{IsWhen}
use Rattle.h264_types.specs.Sent.{mode_count, sends_pattern, sends_qp_delta, sends_t8}
use Rattle.h264_types.specs.Kind.{is_intra, is_i_nxn, is_i_16x16, is_i_pcm, has_sub_macroblocks}
use Rattle.h264_types.specs.Macroblock.{no_elements, pattern_of}
use Rattle.h264_types.specs.Partition.{partition_of, part_of}
use Rattle.h264_types.specs.Valid.{sub_bound, list_is_used, mvd_of, IsListSent, IsMacroblock}
use Rattle.h264_types.specs.declared.macroblock.Mb.{Mb}
use Rattle.h264_types.specs.declared.macroblock.MbKind.{MbKind}
use Rattle.h264_types.specs.declared.macroblock.Pattern.{Pattern}
use Rattle.h264_types.specs.declared.slice_shape.SliceShape.{SliceShape}
use Rattle.cavlc_inter.specs.Parts.{is_sent, repeated, IsElement, and_next, AreElements}
use Rattle.cavlc_inter.proofs.InterValid.{difference_of}
use Rattle.h264_types.proofs.Lists.{HasLists}
use Rattle.cavlc_inter.specs.InterPrediction.{AreSubs, IsDifference, IsVector, no_vector, has_ref, has_mvd, parts_of, refs_of, mvds_of, greatest_of, active_refs, IsInter}
use Rattle.cavlc_inter.proofs.SubLaws.{small_bound}
use Rattle.h264_types.specs.Sizes.{HasSizes}
use Rattle.cavlc_mb_residual.specs.MacroblockResidual.{IsResidual}
use Rattle.h264_types.proofs.Lists.{two_all}
use Rattle.cavlc_mb_residual.proofs.ResidualSearching.{Levels, AreAll, all_searched, all_are, residual_decided}
use Rattle.cavlc_mb_residual.proofs.Searching.{Searches, Found, Decided, AreMany, images_searched, same_searched, conditions_searched, sums_searched, pairs_searched, below_searched, at_most_searched, between_searched, many_searched, same_decided, both_decided, most_decided, numbers_decided, bools_decided, signed_decided, lists_decided, when_decided, turns_decided}
use Rattle.cavlc_macroblock.specs.Macroblock.{IsIPcm, i_pcm}
use Rattle.cavlc_macroblock.specs.MacroblockLayer.{IsFlag, AreModes, no_pattern, IsPattern, IsQpDelta}
use Rattle.cavlc_macroblock.specs.MbType.{first_intra, type_of, IsTypeIn}
use Rattle.cavlc_macroblock.specs.Reading.{IsPredicted, IsSent}
use Rattle.cavlc_macroblock.proofs.Layers.{Typed, typed_of}
use Rattle.cavlc_macroblock.proofs.TypeLaws.{in_slice, type_at, at_type, typed_again, most}
use Rattle.h264_types.proofs.Lists.{lists_of}
use Rattle.cavlc_macroblock.proofs.ValidLaws.{from_modes, sent_valid, some_bound}

-- ---- what is decided of the elements

patterns_decided : (p q : Pattern) → Decided (p ≡ q)
patterns_decided p q =
    same_decided (λ h. ap (λ l. record p { luma = l }) h.0 ∙ ap (λ c. record q { chroma = c }) h.1) (λ e. (ap (λ (x : Pattern). x.luma) e, ap (λ (x : Pattern). x.chroma) e))
    (both_decided (numbers_decided p.luma q.luma) (numbers_decided p.chroma q.chroma))

between_decided : (low high : ℕ) (d : ℤ) → Decided ((negsuc low ≤ℤ d) × (d ≤ℤ pos high))
between_decided low high (pos n) = same_decided (λ (h : n ≤ high). (omega (arith, ints), omega (arith, ints))) (λ h. let most = h.1 in omega (arith, ints)) (most_decided n high)
between_decided low high (negsuc n) = same_decided (λ (h : n ≤ low). (omega (arith, ints), omega (arith, ints))) (λ h. let least = h.0 in omega (arith, ints)) (most_decided n low)

implied_decided : (b c : Bool) → Decided (IsTrue b → IsTrue c)
implied_decided false c = inl (λ e. absurd cc)
implied_decided true true = inl (λ e. refl)
implied_decided true false = inr (λ h. let bad = h refl in absurd cc)

modes_decided : (t8 : Bool) (modes : List ℕ) → Decided (AreModes t8 modes)
modes_decided t8 modes =
    let n = mode_count t8 in
    same_decided (λ h. record { sent = h.0; others = h.1 }) (λ is. (is.sent, is.others))
    (both_decided (turns_decided (λ (_ : ℕ) mode. mode ≤ 8) (λ s _. s) (λ s mode. most_decided mode 8) n 0 (take n modes)) (lists_decided numbers_decided (drop n modes) (replicate (16 - n) 0)))

elements_decided : {A : Type 0} (count : ℕ) (part : ℕ → ℕ) (has : ℕ → Bool) (none : A) (Is : A → Type 0) → ((a b : A) → Decided (a ≡ b)) → ((a : A) → Decided (Is a)) → (xs : List A) → Decided (AreElements count part has none Is xs)
elements_decided count part has none Is same each xs =
    turns_decided (IsElement part has none Is) and_next (λ before x. when_decided (is_sent part has (length before)) (repeated part none before) Is x (same x (repeated part none before)) (each x)) count [] xs

vector_decided : (vector : List ℤ) → Decided (IsVector vector)
vector_decided vector =
    same_decided (λ h. record { size = h.0; x = h.1.0; y = h.1.1 }) (λ is. (is.size, (is.x, is.y)))
    (both_decided (numbers_decided (length vector) 2) (both_decided (between_decided 32766 32767 (slice_index_or vector 0 (pos 0))) (between_decided 32766 32767 (slice_index_or vector 1 (pos 0)))))

inter_decided : (kind : MbKind) (ref0 : Bool) (active : List ℕ) (mb : Mb) → Decided (IsInter kind ref0 active mb)
inter_decided kind ref0 active mb =
    same_decided (λ h. record { subs = h.0; refs_l0 = h.1.0; refs_l1 = h.1.1.0; mvd_l0 = h.1.1.1.0; mvd_l1 = h.1.1.1.1.0; lists = h.1.1.1.1.1 }) (λ is. (is.subs, (is.refs_l0, (is.refs_l1, (is.mvd_l0, (is.mvd_l1, is.lists))))))
    (both_decided (when_decided (has_sub_macroblocks kind) (replicate 4 0) (AreSubs kind) mb.subs (lists_decided numbers_decided mb.subs (replicate 4 0)) (turns_decided (λ (_ : ℕ) sub. sub ≤ sub_bound kind) (λ s _. s) (λ s sub. most_decided sub (sub_bound kind)) 4 0 mb.subs))
    (both_decided (refs 0) (both_decided (refs 1) (both_decided (mvds 0) (both_decided (mvds 1) (both_decided (numbers_decided (length mb.refs) 2) (numbers_decided (length mb.mvd) 2)))))))
  where
    refs : (x : ℕ) → Decided (AreElements 4 (partition_of kind) (has_ref (parts_of kind mb) x (greatest_of ref0 active x)) 0 (λ i. i ≤ greatest_of ref0 active x) (refs_of x mb))
    refs x = elements_decided 4 (partition_of kind) (has_ref (parts_of kind mb) x (greatest_of ref0 active x)) 0 (λ i. i ≤ greatest_of ref0 active x) numbers_decided (λ i. most_decided i (greatest_of ref0 active x)) (refs_of x mb)

    mvds : (x : ℕ) → Decided (AreElements 16 (part_of kind mb.subs) (has_mvd (parts_of kind mb) x) no_vector IsVector (mvds_of x mb))
    mvds x = elements_decided 16 (part_of kind mb.subs) (has_mvd (parts_of kind mb) x) no_vector IsVector (lists_decided signed_decided) vector_decided (mvds_of x mb)

-- a macroblock of a type that isn't I_PCM, whose absent elements are so
pub record IsRest (shape : SliceShape) (bound : ℕ) (type : Typed) (mb : Mb) : Type 0 where
  pub other : is_i_pcm type.0 ≡ false
  pub t8 : IsTrue mb.t8 → IsTrue (sends_t8 shape mb)
  pub modes : IsWhen (is_i_nxn type.0) (replicate 16 0) (AreModes mb.t8) mb.modes
  pub chroma_mode : IsWhen (is_intra type.0) 0 (λ mode. mode ≤ 3) mb.chroma_mode
  pub inter : IsInter type.0 type.1 (active_refs shape mb) mb
  pub pattern : IsWhen (sends_pattern type.0) no_pattern IsPattern mb.pattern
  pub qp_delta : IsWhen (sends_qp_delta type.0 mb.pattern) (pos 0) IsQpDelta mb.qp_delta
  pub residual : IsResidual (is_i_16x16 type.0) (pattern_of mb) bound mb

rest_decided : (shape : SliceShape) (bound : ℕ) (type : Typed) (mb : Mb) → Decided (IsRest shape bound type mb)
rest_decided shape bound type mb =
    same_decided
    (λ h. record { other = h.0; t8 = h.1.0; modes = h.1.1.0; chroma_mode = h.1.1.1.0; inter = h.1.1.1.1.0; pattern = h.1.1.1.1.1.0; qp_delta = h.1.1.1.1.1.1.0; residual = h.1.1.1.1.1.1.1 })
    (λ is. (is.other, (is.t8, (is.modes, (is.chroma_mode, (is.inter, (is.pattern, (is.qp_delta, is.residual))))))))
    (both_decided (bools_decided (is_i_pcm type.0) false)
    (both_decided (implied_decided mb.t8 (sends_t8 shape mb))
    (both_decided (when_decided (is_i_nxn type.0) (replicate 16 0) (AreModes mb.t8) mb.modes (lists_decided numbers_decided mb.modes (replicate 16 0)) (modes_decided mb.t8 mb.modes))
    (both_decided (when_decided (is_intra type.0) 0 (λ mode. mode ≤ 3) mb.chroma_mode (numbers_decided mb.chroma_mode 0) (most_decided mb.chroma_mode 3))
    (both_decided (inter_decided type.0 type.1 (active_refs shape mb) mb)
    (both_decided (when_decided (sends_pattern type.0) no_pattern IsPattern mb.pattern (patterns_decided mb.pattern no_pattern) (both_decided (most_decided (suc mb.pattern.luma) 16) (most_decided (suc mb.pattern.chroma) 3)))
    (both_decided (when_decided (sends_qp_delta type.0 mb.pattern) (pos 0) IsQpDelta mb.qp_delta (signed_decided mb.qp_delta (pos 0)) (between_decided 25 25 mb.qp_delta))
    (residual_decided (is_i_16x16 type.0) (pattern_of mb) bound mb))))))))

-- ---- all elements that a macroblock may have, each in a range

flags_searched : Searches IsFlag
flags_searched test = by (test true) (test false) refl refl
  where
    by : (a b : Bool) → test true ≡ a → test false ≡ b → Found IsFlag test
    by true b e f = inl (true, tt, e)
    by false true e f = inl (false, tt, f)
    by false false e f = inr none
      where
        none : (v : Bool) → IsFlag v → test v ≡ false
        none true h = e
        none false h = f

pub patterns_searched : Searches IsPattern
patterns_searched =
    images_searched (λ (v : ℕ × ℕ). (v.0 < 16) × (v.1 < 3)) IsPattern (λ v. record { luma = v.0; chroma = v.1 }) (λ v h. (h.0, h.1))
    (λ p h. ((p.luma, p.chroma), (h.0, h.1), refl))
    (pairs_searched (λ luma. luma < 16) (λ (luma : ℕ) chroma. chroma < 3) (below_searched 16) (λ luma. below_searched 3))

abbrev Modes : List ℕ → Type 0
Modes modes = AreMany (λ mode. mode ≤ 8) 16 modes

abbrev Subs : List ℕ → Type 0
Subs subs = AreMany (λ sub. sub ≤ 12) 4 subs

abbrev Refs : ℕ → List (List ℕ) → Type 0
Refs greatest refs = AreMany (AreMany (λ i. i ≤ greatest) 4) 2 refs

abbrev Vector : List ℤ → Type 0
Vector v = AreMany IsDifference 2 v

abbrev Mvds : List (List (List ℤ)) → Type 0
Mvds mvds = AreMany (AreMany Vector 16) 2 mvds

abbrev Parts : Type 0
Parts = Bool × (List ℕ × (ℕ × (List ℕ × (List (List ℕ) × (List (List (List ℤ)) × (Pattern × (ℤ × Levels)))))))

abbrev AreParts : ℕ → Parts → Type 0
AreParts greatest v =
    IsFlag v.0 × (Modes v.1.0 × ((v.1.1.0 ≤ 3) × (Subs v.1.1.1.0 × (Refs greatest v.1.1.1.1.0 × (Mvds v.1.1.1.1.1.0 × (IsPattern v.1.1.1.1.1.1.0 × (IsQpDelta v.1.1.1.1.1.1.1.0 × AreAll v.1.1.1.1.1.1.1.1)))))))

two_searched : {A B : Type 0} (Is : A → Type 0) (Is' : B → Type 0) → Searches Is → Searches Is' → Searches (λ (v : A × B). Is v.0 × Is' v.1)
two_searched Is Is' first second = pairs_searched Is (λ _. Is') first (λ _. second)

parts_searched : (greatest : ℕ) → Searches (AreParts greatest)
parts_searched greatest =
    two_searched IsFlag _ flags_searched
    (two_searched Modes _ (many_searched (λ mode. mode ≤ 8) (at_most_searched 8) 16)
    (two_searched (λ mode. mode ≤ 3) _ (at_most_searched 3)
    (two_searched Subs _ (many_searched (λ sub. sub ≤ 12) (at_most_searched 12) 4)
    (two_searched (Refs greatest) _ (many_searched (AreMany (λ i. i ≤ greatest) 4) (many_searched (λ i. i ≤ greatest) (at_most_searched greatest) 4) 2)
    (two_searched Mvds _ (many_searched (AreMany Vector 16) (many_searched Vector (many_searched IsDifference (between_searched 32766 32767) 2) 16) 2)
    (two_searched IsPattern _ patterns_searched
    (two_searched IsQpDelta AreAll (between_searched 25 25) all_searched)))))))

-- ---- a valid macroblock has elements in these ranges

most_refs : SliceShape → ℕ
most_refs shape = 2 * slice_index shape.refs 0 + 2 * slice_index shape.refs 1

used_bound : (used twice : Bool) (refs : ℕ) → (if used then refs * (if twice then 2 else 1) - 1 else 0) ≤ 2 * refs
used_bound true true refs = omega arith
used_bound true false refs = omega arith
used_bound false twice refs = omega arith

refs_in : (shape : SliceShape) (mb : Mb) → HasLists mb → IsListSent shape mb 0 → IsListSent shape mb 1 → Refs (most_refs shape) mb.refs
unfolding most_refs
refs_in shape mb lists l0 l1 = (lists.refs, two_all (AreMany (λ i. i ≤ most_refs shape) 4) [] mb.refs lists.refs (list 0 (omega arith) l0 (omega arith)) (list 1 (omega arith) l1 (omega arith)))
  where
    list : (x : ℕ) → x < 2 → IsListSent shape mb x → 2 * slice_index shape.refs x ≤ most_refs shape → AreMany (λ i. i ≤ most_refs shape) 4 (refs_of x mb)
    list x h is few = (
      lists.refs_of x h,
      recursion_from_All (λ i. i ≤ most_refs shape) (refs_of x mb) (λ k d below.
          let q : k < 4 = omega (arith, below, lists.refs_of x h) in
          omega (arith, get_or_default (refs_of x mb) k d 0 below, is.refs k q, used_bound (list_is_used mb x k) (shape.mbaff && mb.field) (slice_index shape.refs x), few)),
    )

mvd_most : (used : Bool) → (if used then 32767 else 0) ≤ 32767
mvd_most true = omega arith
mvd_most false = omega arith

mvds_in : (shape : SliceShape) (mb : Mb) → HasLists mb → IsListSent shape mb 0 → IsListSent shape mb 1 → Mvds mb.mvd
mvds_in shape mb lists l0 l1 = (lists.mvd, two_all (AreMany Vector 16) [] mb.mvd lists.mvd (list 0 (omega arith) l0) (list 1 (omega arith) l1))
  where
    vector : (x n : ℕ) → x < 2 → n < 16 → IsListSent shape mb x → Vector (mvd_of mb x n)
    vector x n h below is = (
      lists.vectors x n h below,
      recursion_from_All IsDifference (mvd_of mb x n) (λ k d inside.
          difference_of (get_or (mvd_of mb x n) k d) (omega (arith, is.mvd n below k d inside, mvd_most (list_is_used mb x (n / 4))))),
    )

    list : (x : ℕ) → x < 2 → IsListSent shape mb x → AreMany Vector 16 (mvds_of x mb)
    list x h is = (
      lists.mvds_of x h,
      recursion_from_All Vector (mvds_of x mb) (λ k d below.
          subst Vector (get_or_default (mvds_of x mb) k [] d below) (vector x k h (omega (arith, below, lists.mvds_of x h)) is)),
    )

subs_in : (mb : Mb) → length mb.subs ≡ 4 → All (λ sub. sub ≤ sub_bound mb.kind) mb.subs → Subs mb.subs
subs_in mb size small = (size, recursion_from_All (λ sub. sub ≤ 12) mb.subs (λ k d below. omega (arith, small k d below, small_bound mb.kind)))

modes_in : (mb : Mb) (sent : Bool) → length mb.modes ≡ 16 → IsWhen sent (replicate 16 0) (AreModes mb.t8) mb.modes → Modes mb.modes
modes_in mb sent size is = (
  size,
  recursion_from_All (λ mode. mode ≤ 8) mb.modes (λ k d below.
      omega (arith, get_or_default mb.modes k d 0 below, from_modes sent mb.t8 mb.modes size is k (omega (arith, below, size)), some_bound (sent && nat_lt k (mode_count mb.t8)))),
)

chroma_mode_in : (sent : Bool) (mode : ℕ) → IsWhen sent 0 (λ m. m ≤ 3) mode → mode ≤ 3
chroma_mode_in true mode is = is
chroma_mode_in false mode is = omega arith

pattern_in : (sent : Bool) (p : Pattern) → IsWhen sent no_pattern IsPattern p → IsPattern p
pattern_in true p is = is
pattern_in false p is = subst IsPattern (sym is) (omega arith, omega arith)

delta_in : (sent : Bool) (delta : ℤ) → IsWhen sent (pos 0) IsQpDelta delta → IsQpDelta delta
delta_in true delta is = is
delta_in false delta is = subst IsQpDelta (sym is) (omega (arith, ints), omega (arith, ints))

-- ---- macroblocks that aren't I_PCM

made : Bool → Typed → Parts → Mb
made field type v = record (no_elements type.0) {
  ref0 = type.1;
  field = field;
  t8 = v.0;
  modes = v.1.0;
  chroma_mode = v.1.1.0;
  subs = v.1.1.1.0;
  refs = v.1.1.1.1.0;
  mvd = v.1.1.1.1.1.0;
  pattern = v.1.1.1.1.1.1.0;
  qp_delta = v.1.1.1.1.1.1.1.0;
  dc = v.1.1.1.1.1.1.1.1.0;
  luma = v.1.1.1.1.1.1.1.1.1.0;
  chroma_dc = v.1.1.1.1.1.1.1.1.1.1.0;
  chroma_ac = v.1.1.1.1.1.1.1.1.1.1.1;
}

parts_of_mb : Mb → Parts
parts_of_mb mb = (mb.t8, (mb.modes, (mb.chroma_mode, (mb.subs, (mb.refs, (mb.mvd, (mb.pattern, (mb.qp_delta, (mb.dc, (mb.luma, (mb.chroma_dc, mb.chroma_ac)))))))))))

abbrev IsMade : SliceShape → Bool → ℕ → Typed × Parts → Type 0
IsMade shape field bound v = IsTypeIn shape.kind v.0 × (AreParts (most_refs shape) v.1 × IsRest shape bound v.0 (made field v.0 v.1))

types_searched : (shape : SliceShape) → Searches (IsTypeIn shape.kind)
types_searched shape =
    images_searched (λ n. n ≤ first_intra shape.kind + 25) (IsTypeIn shape.kind) (type_at shape.kind) (at_type shape.kind)
    (λ type is. (type_of shape.kind type.0 type.1, most shape.kind type.0 type.1 is.kind, sym (typed_again shape.kind type is))) (at_most_searched (first_intra shape.kind + 25))

made_searched : (shape : SliceShape) (field : Bool) (bound : ℕ) → Searches (IsMade shape field bound)
made_searched shape field bound =
    pairs_searched (IsTypeIn shape.kind) (λ type v. AreParts (most_refs shape) v × IsRest shape bound type (made field type v)) (types_searched shape)
    (λ type. conditions_searched (AreParts (most_refs shape)) (λ v. IsRest shape bound type (made field type v)) (λ v. rest_decided shape bound type (made field type v)) (parts_searched (most_refs shape)))

abbrev IsOther : SliceShape → Bool → ℕ → Mb → Type 0
IsOther shape field bound mb = IsTypeIn shape.kind (typed_of mb) × IsPredicted shape field bound mb

made_is : (shape : SliceShape) (field : Bool) (bound : ℕ) (v : Typed × Parts) → IsMade shape field bound v → IsOther shape field bound (made field v.0 v.1)
unfolding made
made_is shape field bound v h =
    let is = h.1.1 in (
      h.0,
      (
        is.other,
        record {
          absent = refl;
          t8 = is.t8;
          modes = is.modes;
          chroma_mode = is.chroma_mode;
          inter = is.inter;
          pattern = is.pattern;
          qp_delta = is.qp_delta;
          residual = is.residual;
        },
      ),
    )

is_made : (shape : SliceShape) (field : Bool) (bound : ℕ) → (field ≡ true → shape.mbaff ≡ true) → (mb : Mb) → IsOther shape field bound mb → (v : Typed × Parts) × IsMade shape field bound v × (mb ≡ made field v.0 v.1)
unfolding made parts_of_mb
is_made shape field bound pair mb h =
    let is = h.1.1 in
    let sizes : HasSizes mb = is.residual.sizes in
    let lists : HasLists mb = lists_of mb sizes in
    let valid : IsMacroblock shape mb = sent_valid shape field bound mb (record { kind = h.0.kind; sent = h.0.sent; ref0 = h.0.ref0; pair = pair; elements = inr h.1 }) in
    let rest : IsRest shape bound (typed_of mb) mb = record {
      other = h.1.0;
      t8 = is.t8;
      modes = is.modes;
      chroma_mode = is.chroma_mode;
      inter = is.inter;
      pattern = is.pattern;
      qp_delta = is.qp_delta;
      residual = is.residual;
    } in
    let parts : AreParts (most_refs shape) (parts_of_mb mb) = (
      tt,
      (
        modes_in mb (is_i_nxn mb.kind) sizes.modes is.modes,
        (
          chroma_mode_in (is_intra mb.kind) mb.chroma_mode is.chroma_mode,
          (
            subs_in mb sizes.subs valid.inter.subs,
            (
              refs_in shape mb lists valid.inter.l0 valid.inter.l1,
              (
                mvds_in shape mb lists valid.inter.l0 valid.inter.l1,
                (
                  pattern_in (sends_pattern mb.kind) mb.pattern is.pattern,
                  (delta_in (sends_qp_delta mb.kind mb.pattern) mb.qp_delta is.qp_delta, all_are (is_i_16x16 mb.kind) (pattern_of mb) bound mb is.residual),
                ),
              ),
            ),
          ),
        ),
      ),
    ) in
    ((typed_of mb, parts_of_mb mb), (h.0, (parts, subst (λ (m : Mb). IsRest shape bound (typed_of mb) m) is.absent rest)), is.absent)

-- ---- all macroblocks

samples_searched : (field : Bool) → Searches (IsIPcm field)
samples_searched field =
    images_searched (AreMany (λ sample. sample ≤ 255) 384) (IsIPcm field) (i_pcm field)
    (λ samples h. record { elements = refl; samples = record { count = h.0; bytes = All-from_recursion (λ sample. sample ≤ 255) samples h.1 } })
    (λ mb is. (mb.pcm, (is.samples.count, recursion_from_All (λ sample. sample ≤ 255) mb.pcm is.samples.bytes), is.elements))
    (many_searched (λ sample. sample ≤ 255) (at_most_searched 255) 384)

i_pcm_type : (shape : SliceShape) (field : Bool) (mb : Mb) → IsIPcm field mb → IsTypeIn shape.kind (typed_of mb)
i_pcm_type shape field mb is = subst (λ (m : Mb). IsTypeIn shape.kind (typed_of m)) (sym is.elements) (record { kind = in_slice shape.kind 25 (omega arith); sent = refl; ref0 = λ set. absurd cc })

-- those of a pair flag that the slice may have
paired_searched : (shape : SliceShape) (field : Bool) (bound : ℕ) → (field ≡ true → shape.mbaff ≡ true) → Searches (IsSent shape field bound)
paired_searched shape field bound pair =
    same_searched (λ mb. IsIPcm field mb ⊎ IsOther shape field bound mb) (IsSent shape field bound) into from
    (sums_searched (IsIPcm field) (IsOther shape field bound) (samples_searched field) (images_searched (IsMade shape field bound) (IsOther shape field bound) (λ v. made field v.0 v.1) (made_is shape field bound) (is_made shape field bound pair) (made_searched shape field bound)))
  where
    sent : (mb : Mb) → IsTypeIn shape.kind (typed_of mb) → IsIPcm field mb ⊎ IsPredicted shape field bound mb → IsSent shape field bound mb
    sent mb type elements = record { kind = type.kind; sent = type.sent; ref0 = type.ref0; pair = pair; elements = elements }

    into : (mb : Mb) → IsIPcm field mb ⊎ IsOther shape field bound mb → IsSent shape field bound mb
    into mb (inl is) = sent mb (i_pcm_type shape field mb is) (inl is)
    into mb (inr other) = sent mb other.0 (inr other.1)

    by : (mb : Mb) → IsSent shape field bound mb → IsIPcm field mb ⊎ IsPredicted shape field bound mb → IsIPcm field mb ⊎ IsOther shape field bound mb
    by mb is (inl pcm) = inl pcm
    by mb is (inr other) = inr (record { kind = is.kind; sent = is.sent; ref0 = is.ref0 }, other)

    from : (mb : Mb) → IsSent shape field bound mb → IsIPcm field mb ⊎ IsOther shape field bound mb
    from mb is = by mb is is.elements

-- Of the macroblocks that have a text one passes a test, or none does.
pub macroblock_searched : (shape : SliceShape) (field : Bool) (bound : ℕ) → Searches (IsSent shape field bound)
macroblock_searched shape field bound = by (implied_decided field shape.mbaff)
  where
    by : Decided (IsTrue field → IsTrue shape.mbaff) → Searches (IsSent shape field bound)
    by (inl pair) = paired_searched shape field bound pair
    by (inr other) = λ test. inr (λ v is. absurd (other is.pair))
