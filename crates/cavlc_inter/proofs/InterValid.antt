-- The predictions that have a text are the valid ones.
use Rattle.std.proofs.Common.{◌≡◌, ℕ, zero, suc, ◌+◌, ◌-◌, ◌*◌, ◌/◌, ◌%◌, ◌<◌, ◌≤◌, ℤ, pos, Bool, true, false, List, [], ◌∷◌, length, get_or, refl, sym, ap, subst, ◌∙◌, arith}
use Rattle.std.specs.Prelude.{All, IsTrue, if◌then◌else◌, ◌&&◌, ◌==◌, nat_lt, nat_le, replicate, slice_index, slice_index_or, unsigned_abs}
use Rattle.std.specs.List.{AllByRecursion, list_all}
use Rattle.std.proofs.lemmas.Bool.{false≢true, and_right, eqb-true}
use Rattle.std.proofs.lemmas.Bool.Decides.{nat_tests}
use Rattle.std.proofs.lemmas.Int.{ints}
use Rattle.std.proofs.lemmas.List.{get_or_default, get_or-replicate, same_lists}
use Rattle.std.proofs.lemmas.List.Folds.{list_all_at}
use Rattle.std.proofs.lemmas.List.Elements.{All-from_recursion, recursion_from_All, All-replicate, All-cons, All-nil}
use Rattle.bit_texts.specs.Texts.{IsWhen, AreTurns}
use Rattle.h264_types.specs.Kind.{has_sub_macroblocks}
use Rattle.h264_types.specs.Partition.{first_predictions, second_predictions, whole_predictions, sub_predictions, partition_of, prediction_of, uses_list, sub_part, part_of}
use Rattle.h264_types.specs.Valid.{is_ref0, sub_bound, list_is_used, ref_at, ref_bound, mvd_of, mvd_bound, IsWithin, IsListSent, IsInterPredicted}
use Rattle.h264_types.specs.declared.macroblock.MbKind.{MbKind}
use Rattle.h264_types.specs.declared.macroblock.MbKind.TheVariants.{Skip, Intra, P, B}
use Rattle.h264_types.specs.declared.macroblock.Mb.{Mb}
use Rattle.h264_types.specs.declared.partition.Prediction.{Prediction}
use Rattle.h264_types.specs.declared.partition.Prediction.TheVariants.{Unsent}
use Rattle.h264_types.specs.declared.slice_shape.SliceShape.{SliceShape}
use Rattle.cavlc_inter.specs.declared.parts.Parts.{Parts}
use Rattle.h264_types.proofs.Lists.{HasLists}
use Rattle.h264_types.proofs.Zeros.{zero_of}
use Rattle.cavlc_inter.specs.InterPrediction.{AreSubs, AreSubsIf, uses, greatest_ref, has_ref, AreRefs, IsDifference, IsVector, no_vector, has_mvd, AreMvds, parts_of, refs_of, mvds_of, IsInter, active_at, active_refs}
use Rattle.cavlc_inter.proofs.Codes.{two_are}
use Rattle.cavlc_inter.proofs.Places.{elements_are, elements_repeat, Respects, element_there, element_absent}

-- ---- places of one part are predicted alike

by_tests : (n : ℕ) (subs : List ℕ) (q r : ℕ) (b c d : Bool) → (if b then 0 else if c then q else if d then q / 2 else q % 2) ≡ (if b then 0 else if c then r else if d then r / 2 else r % 2)
    → ◌≡◌ {A = Prediction} (if b then slice_index_or whole_predictions n Unsent else if c then slice_index_or sub_predictions (slice_index subs q) Unsent
    else slice_index_or (if (if b then 0 else if c then q else if d then q / 2 else q % 2) == 0 then first_predictions else second_predictions) ((n - 4) / 2) Unsent)
    (if b then slice_index_or whole_predictions n Unsent else if c then slice_index_or sub_predictions (slice_index subs r) Unsent
    else slice_index_or (if (if b then 0 else if c then r else if d then r / 2 else r % 2) == 0 then first_predictions else second_predictions) ((n - 4) / 2) Unsent)
by_tests n subs q r true c d e = refl
by_tests n subs q r false true d e = ap (λ k. slice_index_or sub_predictions (slice_index subs k) Unsent) e
by_tests n subs q r false false true e = ap (λ (p : ℕ). slice_index_or (if p == 0 then first_predictions else second_predictions) ((n - 4) / 2) Unsent) e
by_tests n subs q r false false false e = ap (λ (p : ℕ). slice_index_or (if p == 0 then first_predictions else second_predictions) ((n - 4) / 2) Unsent) e

same_prediction : (kind : MbKind) (subs : List ℕ) (q r : ℕ) → partition_of kind q ≡ partition_of kind r → prediction_of kind (slice_index subs q) q ≡ prediction_of kind (slice_index subs r) r
same_prediction Skip subs q r e = refl
same_prediction (Intra n) subs q r e = refl
same_prediction (P n) subs q r e = refl
same_prediction (B n) subs q r e = by_tests n subs q r (nat_lt n 4) (n == 22) (n % 2 == 0) e

same_use : (parts : Parts) (x q r : ℕ) → partition_of parts.kind q ≡ partition_of parts.kind r → uses parts x q ≡ uses parts x r
same_use parts x q r e = ap (λ p. uses_list p x) (same_prediction parts.kind parts.subs q r e)

refs_respect : (parts : Parts) (x greatest : ℕ) → Respects 4 (partition_of parts.kind) (has_ref parts x greatest)
refs_respect parts x greatest q r below inside e = ap (λ b. nat_lt 0 greatest && b) (same_use parts x q r e)

small_p : (b c d : Bool) (k : ℕ) → k < 4 → (if b then k / 2 else if c then k % 2 else if d then k else 0) < 4
small_p true c d k h = omega arith
small_p false true d k h = omega arith
small_p false false true k h = h
small_p false false false k h = omega arith

small_b : (b c d : Bool) (k : ℕ) → k < 4 → (if b then 0 else if c then k else if d then k / 2 else k % 2) < 4
small_b true c d k h = omega arith
small_b false true d k h = h
small_b false false true k h = omega arith
small_b false false false k h = omega arith

small_sub : (kind : MbKind) (sub k : ℕ) → k < 4 → sub_part kind sub k < 4
small_sub Skip sub k h = omega arith
small_sub (Intra n) sub k h = omega arith
small_sub (P n) sub k h = small_p (sub == 1) (sub == 2) (sub == 3) k h
small_sub (B n) sub k h = small_b (nat_lt sub 4) (nat_le 10 sub) (sub % 2 == 0) k h

small_if : (b : Bool) (s : ℕ) → s < 4 → (if b then s else 0) < 4
small_if true s h = h
small_if false s h = omega arith

same_quarter : (a b s t : ℕ) → s < 4 → t < 4 → 4 * a + s ≡ 4 * b + t → a ≡ b
same_quarter a b s t h k e = omega (arith, h, k, e)

mvds_respect : (parts : Parts) (x : ℕ) → Respects 16 (part_of parts.kind parts.subs) (has_mvd parts x)
mvds_respect parts x n m below inside e =
    let part : ℕ → ℕ = λ k. if has_sub_macroblocks parts.kind then sub_part parts.kind (slice_index parts.subs (k / 4)) (k % 4) else 0 in
    let small : (k : ℕ) → part k < 4 = λ k. small_if (has_sub_macroblocks parts.kind) _ (small_sub parts.kind (slice_index parts.subs (k / 4)) (k % 4) (omega arith)) in
    same_use parts x (n / 4) (m / 4) (same_quarter (partition_of parts.kind (n / 4)) (partition_of parts.kind (m / 4)) (part n) (part m) (small n) (small m) e)

-- ---- reference indices

ref_there : (ref0 used : Bool) (active i : ℕ) → (nat_lt 0 (greatest_ref ref0 active) && used) ≡ true → i ≤ (if used then active - 1 else 0) → i ≤ greatest_ref ref0 active
ref_there true used active i h le = absurd (false≢true h)
ref_there false true active i h le = le
ref_there false false active i h le = absurd (false≢true (sym (and_right (nat_lt 0 (active - 1)) false refl) ∙ h))

ref_absent : (ref0 used : Bool) (active i : ℕ) → (nat_lt 0 (greatest_ref ref0 active) && used) ≡ false → i ≤ (if used then active - 1 else 0) → (ref0 ≡ true → i ≡ 0) → i ≡ 0
ref_absent true used active i h le zero_then = zero_then refl
ref_absent false true active i h le zero_then = grind (arith, nat_tests)
ref_absent false false active i h le zero_then = omega (arith, le)

ref_bounded : (ref0 used : Bool) (active i : ℕ) → (nat_lt 0 (greatest_ref ref0 active) && used) ≡ true → i ≤ greatest_ref ref0 active → i ≤ (if used then active - 1 else 0)
ref_bounded true used active i h le = absurd (false≢true h)
ref_bounded false true active i h le = le
ref_bounded false false active i h le = absurd (false≢true (sym (and_right (nat_lt 0 (active - 1)) false refl) ∙ h))

to_refs : (shape : SliceShape) (mb : Mb) (x : ℕ) → length (refs_of x mb) ≡ 4 → (mb.ref0 ≡ true → (q : ℕ) → q < 4 → ref_at mb x q ≡ 0) → IsListSent shape mb x
    → AreRefs (parts_of mb.kind mb) x (greatest_ref mb.ref0 (active_at shape mb x)) (refs_of x mb)
to_refs shape mb x size zeros sent =
    let refs = refs_of x mb in
    let same : (i : ℕ) (d : ℕ) → i < 4 → get_or refs i d ≡ ref_at mb x i = λ i d below. get_or_default refs i d 0 (omega (arith, below, size)) in
    let greatest : ℕ = greatest_ref mb.ref0 (active_at shape mb x) in
    elements_are 4 (partition_of mb.kind) (has_ref (parts_of mb.kind mb) x greatest) 0 (λ i. i ≤ greatest) refs size
    (λ i d below h. subst (λ k. k ≤ greatest) (sym (same i d below)) (ref_there mb.ref0 (list_is_used mb x i) (active_at shape mb x) (ref_at mb x i) h (sent.refs i below)))
    (λ i d below h. same i d below ∙ ref_absent mb.ref0 (list_is_used mb x i) (active_at shape mb x) (ref_at mb x i) h (sent.refs i below) (λ e. zeros e i below))
    (λ i j d below inside e. same i d below ∙ sent.refs_repeat i below j inside e ∙ sym (same j d inside))

from_refs : (shape : SliceShape) (mb : Mb) (x : ℕ) → AreRefs (parts_of mb.kind mb) x (greatest_ref mb.ref0 (active_at shape mb x)) (refs_of x mb) → (q : ℕ) → q < 4 → ref_at mb x q ≤ ref_bound shape mb x q
from_refs shape mb x are q below = by (has q) refl
  where
    greatest : ℕ
    greatest = greatest_ref mb.ref0 (active_at shape mb x)

    has : ℕ → Bool
    has = has_ref (parts_of mb.kind mb) x greatest

    by : (b : Bool) → has q ≡ b → ref_at mb x q ≤ ref_bound shape mb x q
    by true e = ref_bounded mb.ref0 (list_is_used mb x q) (active_at shape mb x) (ref_at mb x q) e (element_there 4 (partition_of mb.kind) has 0 (λ i. i ≤ greatest) (refs_of x mb) (refs_respect (parts_of mb.kind mb) x greatest) are q 0 below e)
    by false e = let zero_here : ref_at mb x q ≡ 0 = element_absent 4 (partition_of mb.kind) has 0 (λ i. i ≤ greatest) (refs_of x mb) (refs_respect (parts_of mb.kind mb) x greatest) are q 0 below e in omega (arith, zero_here)

-- ---- vector differences

pub difference_of : (d : ℤ) → unsigned_abs d ≤ 32767 → IsDifference d
difference_of d h = (omega (arith, ints), omega (arith, ints))

of_difference : (d : ℤ) → IsDifference d → unsigned_abs d ≤ 32767
of_difference d h = omega (arith, ints, h.0, h.1)

vector_there : (used : Bool) (v : List ℤ) → used ≡ true → length v ≡ 2 → IsWithin (if used then 32767 else 0) v → IsVector v
vector_there true v e size within = record { size = size; x = difference_of _ (within 0 (pos 0) (omega (arith, size))); y = difference_of _ (within 1 (pos 0) (omega (arith, size))) }
vector_there false v e size within = absurd (false≢true e)

vector_absent : (used : Bool) (v : List ℤ) → used ≡ false → length v ≡ 2 → IsWithin (if used then 32767 else 0) v → v ≡ no_vector
vector_absent true v e size within = absurd (false≢true (sym e))
vector_absent false v e size within = two_are v no_vector size refl (zero_of _ (within 0 (pos 0) (omega (arith, size)))) (zero_of _ (within 1 (pos 0) (omega (arith, size))))

within_vector : (v : List ℤ) → IsVector v → IsWithin 32767 v
within_vector [] is = absurd (omega (arith, is.size))
within_vector (a ∷ []) is = absurd (omega (arith, is.size))
within_vector (a ∷ b ∷ c ∷ v) is = absurd (omega (arith, is.size))
within_vector (a ∷ b ∷ []) is =
    let P : ℤ → Type 0 = λ value. unsigned_abs value ≤ 32767 in
    All-cons P a (b ∷ []) (of_difference a is.x) (All-cons P b [] (of_difference b is.y) (All-nil P))

within_there : (used : Bool) (v : List ℤ) → used ≡ true → IsVector v → IsWithin (if used then 32767 else 0) v
within_there true v e is = within_vector v is
within_there false v e is = absurd (false≢true e)

to_mvds : (shape : SliceShape) (mb : Mb) (x : ℕ) → length (mvds_of x mb) ≡ 16 → ((n : ℕ) → n < 16 → length (mvd_of mb x n) ≡ 2) → IsListSent shape mb x → AreMvds (parts_of mb.kind mb) x (mvds_of x mb)
to_mvds shape mb x size sizes sent =
    let mvds = mvds_of x mb in
    let same : (i : ℕ) (d : List ℤ) → i < 16 → get_or mvds i d ≡ mvd_of mb x i = λ i d below. get_or_default mvds i d [] (omega (arith, below, size)) in
    elements_are 16 (part_of mb.kind mb.subs) (has_mvd (parts_of mb.kind mb) x) no_vector IsVector mvds size
    (λ i d below h. subst IsVector (sym (same i d below)) (vector_there (list_is_used mb x (i / 4)) (mvd_of mb x i) h (sizes i below) (sent.mvd i below)))
    (λ i d below h. same i d below ∙ vector_absent (list_is_used mb x (i / 4)) (mvd_of mb x i) h (sizes i below) (sent.mvd i below))
    (λ i j d below inside e. same i d below ∙ sent.mvd_repeat i below j inside e ∙ sym (same j d inside))

from_mvds : (mb : Mb) (x : ℕ) → AreMvds (parts_of mb.kind mb) x (mvds_of x mb) → (n : ℕ) → n < 16 → IsWithin (mvd_bound mb x n) (mvd_of mb x n)
from_mvds mb x are n below = by (has_mvd (parts_of mb.kind mb) x n) refl
  where
    by : (b : Bool) → has_mvd (parts_of mb.kind mb) x n ≡ b → IsWithin (mvd_bound mb x n) (mvd_of mb x n)
    by true e = within_there (list_is_used mb x (n / 4)) (mvd_of mb x n) e (element_there 16 (part_of mb.kind mb.subs) (has_mvd (parts_of mb.kind mb) x) no_vector IsVector (mvds_of x mb) (mvds_respect (parts_of mb.kind mb) x) are n [] below e)
    by false e =
        let none : mvd_of mb x n ≡ no_vector = element_absent 16 (part_of mb.kind mb.subs) (has_mvd (parts_of mb.kind mb) x) no_vector IsVector (mvds_of x mb) (mvds_respect (parts_of mb.kind mb) x) are n [] below e in
        subst (IsWithin (mvd_bound mb x n)) (sym none) (All-replicate (λ value. unsigned_abs value ≤ mvd_bound mb x n) 2 (pos 0) (omega arith))

from_lists : (shape : SliceShape) (mb : Mb) (x : ℕ) → AreRefs (parts_of mb.kind mb) x (greatest_ref mb.ref0 (active_at shape mb x)) (refs_of x mb) → AreMvds (parts_of mb.kind mb) x (mvds_of x mb) → IsListSent shape mb x
from_lists shape mb x refs mvds = record {
  refs = from_refs shape mb x refs;
  refs_repeat = λ q below r inside e. elements_repeat 4 (partition_of mb.kind) (has_ref (parts_of mb.kind mb) x (greatest_ref mb.ref0 (active_at shape mb x))) 0 (λ i. i ≤ greatest_ref mb.ref0 (active_at shape mb x)) (refs_of x mb) refs q r 0 below inside e;
  mvd = from_mvds mb x mvds;
  mvd_repeat = λ n below m inside e. elements_repeat 16 (part_of mb.kind mb.subs) (has_mvd (parts_of mb.kind mb) x) no_vector IsVector (mvds_of x mb) mvds n m [] below inside e;
}

-- ---- sub_mb_type

turns_each : (Is : ℕ → Type 0) (n : ℕ) (xs : List ℕ) → AreTurns (λ (_ : ℕ) x. Is x) (λ (s x : ℕ). s) n 0 xs → AllByRecursion Is xs
unfolding AreTurns
turns_each Is n [] are = tt
turns_each Is zero (x ∷ xs) are = absurd are
turns_each Is (suc n) (x ∷ xs) are = (are.0, turns_each Is n xs are.1)

each_turns : (Is : ℕ → Type 0) (n : ℕ) (xs : List ℕ) → length xs ≡ n → AllByRecursion Is xs → AreTurns (λ (_ : ℕ) x. Is x) (λ (s x : ℕ). s) n 0 xs
unfolding AreTurns
each_turns Is zero [] size all = tt
each_turns Is zero (x ∷ xs) size all = absurd (omega arith)
each_turns Is (suc n) [] size all = absurd (omega arith)
each_turns Is (suc n) (x ∷ xs) size all = (all.0, each_turns Is n xs (omega arith) all.1)

no_bound : (kind : MbKind) → has_sub_macroblocks kind ≡ false → sub_bound kind ≡ 0
no_bound Skip h = refl
no_bound (Intra n) h = refl
no_bound (P n) h = grind (arith, nat_tests)
no_bound (B n) h = grind (arith, nat_tests)

to_subs : (kind : MbKind) (subs : List ℕ) → length subs ≡ 4 → All (λ sub. sub ≤ sub_bound kind) subs → AreSubsIf kind subs
to_subs kind subs size all = by (has_sub_macroblocks kind) refl
  where
    by : (b : Bool) → has_sub_macroblocks kind ≡ b → IsWhen b (replicate 4 0) (AreSubs kind) subs
    by true e = each_turns (λ sub. sub ≤ sub_bound kind) 4 subs size (recursion_from_All (λ sub. sub ≤ sub_bound kind) subs all)
    by false e =
        same_lists subs (replicate 4 0) size (λ k d below.
        let least : get_or subs k d ≤ 0 = subst (λ n. get_or subs k d ≤ n) (no_bound kind e) (all k d below) in
        let here : get_or (replicate 4 0) k d ≡ 0 = get_or-replicate 4 k 0 d (omega (arith, below, size)) in
        omega (arith, least, here))

from_subs : (kind : MbKind) (subs : List ℕ) → AreSubsIf kind subs → All (λ sub. sub ≤ sub_bound kind) subs
from_subs kind subs are = by (has_sub_macroblocks kind) are
  where
    by : (b : Bool) → IsWhen b (replicate 4 0) (AreSubs kind) subs → All (λ sub. sub ≤ sub_bound kind) subs
    by true is = All-from_recursion (λ sub. sub ≤ sub_bound kind) subs (turns_each (λ sub. sub ≤ sub_bound kind) 4 subs is)
    by false same = let P : List ℕ → Type 0 = λ xs. All (λ sub. sub ≤ sub_bound kind) xs in subst P (sym same) (All-replicate (λ sub. sub ≤ sub_bound kind) 4 0 (omega arith))

-- ---- P_8x8ref0 has no index but 0

zero_by_test : (b : Bool) (xs : List ℕ) → IsTrue (b && list_all (λ i. i == 0) xs) → (k : ℕ) → k < length xs → slice_index xs k ≡ 0
zero_by_test b xs h k below = by (slice_index xs k == 0) refl
  where
    by : (t : Bool) → (slice_index xs k == 0) ≡ t → slice_index xs k ≡ 0
    by true e = eqb-true _ _ e
    by false e =
        let no : (b && list_all (λ i. i == 0) xs) ≡ false = and_right b _ (list_all_at (λ i. i == 0) xs k 0 below e) in
        absurd (false≢true (sym no ∙ h))

unused_1 : (mb : Mb) (kind : MbKind) → IsTrue (is_ref0 (record mb { kind = kind })) → (sub q : ℕ) → uses_list (prediction_of kind sub q) 1 ≡ false
unused_1 mb Skip h sub q = refl
unused_1 mb (Intra n) h sub q = refl
unused_1 mb (P n) h sub q = refl
unused_1 mb (B n) h sub q = absurd (false≢true h)

no_bound_unused : (used : Bool) (a i : ℕ) → used ≡ false → i ≤ (if used then a else 0) → i ≡ 0
no_bound_unused true a i e le = absurd (false≢true (sym e))
no_bound_unused false a i e le = omega (arith, le)

-- ---- both ways

pub to_inter : (shape : SliceShape) (mb : Mb) → HasLists mb → (IsTrue mb.ref0 → IsTrue (is_ref0 mb)) → IsInterPredicted shape mb → IsInter mb.kind mb.ref0 (active_refs shape mb) mb
to_inter shape mb sizes ref0 is =
    record {
      subs = to_subs mb.kind mb.subs sizes.subs is.subs;
      refs_l0 = to_refs shape mb 0 (sizes.refs_of 0 (omega arith)) (λ e q below. zero_by_test _ (refs_of 0 mb) (ref0 e) q (omega (arith, below, sizes.refs_of 0 (omega arith)))) is.l0;
      refs_l1 =
          to_refs shape mb 1 (sizes.refs_of 1 (omega arith)) (λ e q below. no_bound_unused (list_is_used mb 1 q) (active_at shape mb 1 - 1) (ref_at mb 1 q) (unused_1 mb mb.kind (ref0 e) (slice_index mb.subs q) q) (is.l1.refs q below)) is.l1;
      mvd_l0 = to_mvds shape mb 0 (sizes.mvds_of 0 (omega arith)) (λ n below. sizes.vectors 0 n (omega arith) below) is.l0;
      mvd_l1 = to_mvds shape mb 1 (sizes.mvds_of 1 (omega arith)) (λ n below. sizes.vectors 1 n (omega arith) below) is.l1;
      lists = (sizes.refs, sizes.mvd);
    }

pub from_inter : (shape : SliceShape) (mb : Mb) → IsInter mb.kind mb.ref0 (active_refs shape mb) mb → IsInterPredicted shape mb
from_inter shape mb is = record {
  subs = from_subs mb.kind mb.subs is.subs;
  l0 = from_lists shape mb 0 is.refs_l0 is.mvd_l0;
  l1 = from_lists shape mb 1 is.refs_l1 is.mvd_l1;
}
