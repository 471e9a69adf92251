-- The first block of a part: in a macroblock with sub-macroblocks it lies in the block's quarter, and in others it is the
-- first block of the partition's first quarter.
use Rattle.std.proofs.Common.{◌≡◌, ℕ, ◌+◌, ◌*◌, ◌/◌, ◌%◌, ◌≤◌, Bool, true, false, List, refl, sym, ap, subst, ◌∙◌, arith, inl, inr}
use Rattle.std.specs.Prelude.{if◌then◌else◌, slice_index}
use Rattle.std.proofs.lemmas.Bool.{cases_lt, eqb-true}
use Rattle.std.proofs.lemmas.Bool.Decides.{nat_tests}
use Rattle.h264_types.specs.declared.macroblock.MbKind.{MbKind}
use Rattle.h264_types.specs.declared.macroblock.MbKind.TheVariants.{Skip, Intra, P, B}
use Rattle.h264_types.specs.Kind.{has_sub_macroblocks}
use Rattle.h264_types.specs.Partition.{partition_of, sub_part, part_of}
use Rattle.cavlc_inter.specs.Parts.{first_of}
use Rattle.cavlc_inter.proofs.Firsts.{IsFirst, first_is, one_first}

-- ---- parts of whole quarters

whole_quarters : (partition : ℕ → ℕ) (n r : ℕ) → IsFirst partition (n / 4) r → IsFirst (λ m. 4 * partition (m / 4) + 0) n (4 * r)
whole_quarters partition n r h =
    let quarter : 4 * r / 4 ≡ r = omega arith in
    record {
      most = omega (arith, h.most);
      same = ap (λ q. 4 * partition q + 0) quarter ∙ ap (λ p. 4 * p + 0) h.same;
      before = λ m lt e. h.before (m / 4) (omega (arith, lt)) (omega (arith, e));
    }

pub first_of_partition : (kind : MbKind) (subs : List ℕ) (n : ℕ) → has_sub_macroblocks kind ≡ false → first_of (part_of kind subs) n ≡ 4 * first_of (partition_of kind) (n / 4)
first_of_partition kind subs n h =
    let G : Bool → Type 0 = λ b. first_of (λ m. 4 * partition_of kind (m / 4) + (if b then sub_part kind (slice_index subs (m / 4)) (m % 4) else 0)) n ≡ 4 * first_of (partition_of kind) (n / 4) in
    let part : ℕ → ℕ = λ m. 4 * partition_of kind (m / 4) + 0 in
    subst G (sym h) (one_first part n n _ _ refl (first_is part n) (whole_quarters (partition_of kind) n _ (first_is (partition_of kind) (n / 4))))

-- ---- parts of one quarter

within_a_quarter : (sub : ℕ → ℕ → ℕ) → ((q k : ℕ) → sub q k ≤ k) → (n r : ℕ) → IsFirst (sub (n / 4)) (n % 4) r → IsFirst (λ m. 4 * (m / 4) + sub (m / 4) (m % 4)) n (4 * (n / 4) + r)
within_a_quarter sub small n r h =
    let most : r ≤ n % 4 = h.most in
    let quarter : (4 * (n / 4) + r) / 4 ≡ n / 4 = omega arith in
    let block : (4 * (n / 4) + r) % 4 ≡ r = omega arith in
    record {
      most = omega arith;
      same = ap (λ q. 4 * q + sub q ((4 * (n / 4) + r) % 4)) quarter ∙ ap (λ k. 4 * (n / 4) + sub (n / 4) k) block ∙ ap (λ p. 4 * (n / 4) + p) h.same;
      before = λ m lt e.
          elim (cases_lt m (4 * (n / 4))) [
            | inl less ↦ absurd (omega (arith, less, e, small (m / 4) (m % 4)))
            | inr ge ↦ h.before (m % 4) (omega (arith, lt, ge, most)) (here m (omega (arith, lt, ge, most)) e)
          ];
    }
  where
    here : (m : ℕ) → m / 4 ≡ n / 4 → 4 * (m / 4) + sub (m / 4) (m % 4) ≡ 4 * (n / 4) + sub (n / 4) (n % 4) → sub (n / 4) (m % 4) ≡ sub (n / 4) (n % 4)
    here m same e = let f : 4 * (n / 4) + sub (n / 4) (m % 4) ≡ 4 * (n / 4) + sub (n / 4) (n % 4) = ap (λ q. 4 * q + sub q (m % 4)) (sym same) ∙ e in omega (arith, f)

four_partitions : (kind : MbKind) → has_sub_macroblocks kind ≡ true → (q : ℕ) → partition_of kind q ≡ q
four_partitions Skip h q = grind arith
four_partitions (Intra n) h q = grind arith
four_partitions (P n) h q = subst (λ k. partition_of (P k) q ≡ q) (sym (eqb-true n 3 h)) refl
four_partitions (B n) h q = subst (λ k. partition_of (B k) q ≡ q) (sym (eqb-true n 22 h)) refl

sub_part_small : (kind : MbKind) (sub k : ℕ) → sub_part kind sub k ≤ k
sub_part_small Skip sub k = omega arith
sub_part_small (Intra n) sub k = omega arith
sub_part_small (P n) sub k = grind (arith, nat_tests)
sub_part_small (B n) sub k = grind (arith, nat_tests)

four_parts : (kind : MbKind) (subs : List ℕ) (n : ℕ) → has_sub_macroblocks kind ≡ true → part_of kind subs n ≡ 4 * (n / 4) + sub_part kind (slice_index subs (n / 4)) (n % 4)
four_parts kind subs n h =
    let G : Bool → Type 0 = λ b. 4 * partition_of kind (n / 4) + (if b then sub_part kind (slice_index subs (n / 4)) (n % 4) else 0) ≡ 4 * (n / 4) + sub_part kind (slice_index subs (n / 4)) (n % 4) in
    subst G (sym h) (ap (λ p. 4 * p + sub_part kind (slice_index subs (n / 4)) (n % 4)) (four_partitions kind h (n / 4)))

like : (part other : ℕ → ℕ) → ((m : ℕ) → other m ≡ part m) → (n r : ℕ) → IsFirst part n r → IsFirst other n r
like part other same n r h = record {
  most = h.most;
  same = same r ∙ h.same ∙ sym (same n);
  before = λ m lt e. h.before m lt (sym (same m) ∙ e ∙ same n);
}

pub first_of_sub_part : (kind : MbKind) (subs : List ℕ) (n : ℕ) → has_sub_macroblocks kind ≡ true → first_of (part_of kind subs) n ≡ 4 * (n / 4) + first_of (sub_part kind (slice_index subs (n / 4))) (n % 4)
first_of_sub_part kind subs n h =
    let sub : ℕ → ℕ → ℕ = λ q. sub_part kind (slice_index subs q) in
    one_first (part_of kind subs) n n _ _ refl (first_is (part_of kind subs) n)
    (like (λ m. 4 * (m / 4) + sub (m / 4) (m % 4)) (part_of kind subs) (λ m. four_parts kind subs m h) n _
    (within_a_quarter sub (λ q k. sub_part_small kind (slice_index subs q) k) n _ (first_is (sub (n / 4)) (n % 4))))
