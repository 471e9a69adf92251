-- The ranges of elements, by a test on all values of their strings.
use Rattle.std.proofs.Common.{◌≡◌, ℕ, ◌≤◌, ℤ, pos, negsuc, unsigned_abs, Bool, true, false, [], ◌∷◌, refl, sym, ap, ◌∙◌, arith}
use Rattle.std.specs.Prelude.{nat_le, ◌&&◌, ◌≤ℤ◌}
use Rattle.std.proofs.lemmas.Bool.{and_parts}
use Rattle.std.proofs.lemmas.Bool.Decides.{nat_tests}
use Rattle.std.proofs.lemmas.Int.{ints}
use Rattle.binarisation.specs.BinString.{BinString, Value, NoValue, Next, ◌>>=◌}
use Rattle.binarisation.specs.Codes.{up_to_two, ones, unary}
use Rattle.binarisation.specs.Elements as syntax
use Rattle.cabac_macroblock.specs.IntraPrediction.{any_mode}
use Rattle.cabac_macroblock.proofs.Kept.{Keeps}

abbrev pub all_of : {A : Type 0} → (A → Bool) → BinString A → Bool
all_of test (Value x) = test x
all_of test NoValue = true
all_of test (Next slot rest) = all_of test (rest false) && all_of test (rest true)

pub all_kept : {A : Type 0} (test : A → Bool) (string : BinString A) → all_of test string ≡ true → Keeps (λ x. test x ≡ true) string
all_kept test (Value x) e bins value h = ap test (sym h.1) ∙ e
all_kept test NoValue e bins value h = absurd h
all_kept test (Next slot rest) e [] value h = absurd h
all_kept test (Next slot rest) e ((kind, false) ∷ bins) value h = all_kept test (rest false) (and_parts (all_of test (rest false)) (all_of test (rest true)) e).0 bins value h.1
all_kept test (Next slot rest) e ((kind, true) ∷ bins) value h = all_kept test (rest true) (and_parts (all_of test (rest false)) (all_of test (rest true)) e).1 bins value h.1

at_most : (n most : ℕ) → nat_le n most ≡ true → n ≤ most
at_most n most e = grind (arith, nat_tests)

pub mode_range : Keeps (λ n. n ≤ 8) any_mode
unfolding ◌>>=◌ any_mode
mode_range bins value h = at_most value 8 (all_kept (λ n. nat_le n 8) any_mode refl bins value h)

pub chroma_mode_range : (inc : ℕ) → Keeps (λ n. n ≤ 3) (syntax.chroma_mode inc)
unfolding ones unary
chroma_mode_range inc bins value h = at_most value 3 (all_kept (λ n. nat_le n 3) (syntax.chroma_mode inc) refl bins value h)

pub chroma_range : (first second : ℕ) → Keeps (λ n. n ≤ 2) (syntax.pattern_chroma first second)
unfolding up_to_two
chroma_range first second bins value h = at_most value 2 (all_kept (λ n. nat_le n 2) (syntax.pattern_chroma first second) refl bins value h)

abbrev is_delta : ℤ → Bool
is_delta (pos n) = nat_le n 25
is_delta (negsuc n) = nat_le n 25

pub delta_range : (inc : ℕ) → Keeps (λ d. (unsigned_abs d ≤ 26) × (d ≤ℤ pos 25)) (syntax.qp_delta inc)
unfolding ◌>>=◌ ones unary
delta_range inc bins value h = by value (all_kept is_delta (syntax.qp_delta inc) refl bins value h)
  where
    by : (d : ℤ) → is_delta d ≡ true → (unsigned_abs d ≤ 26) × (d ≤ℤ pos 25)
    by (pos n) e = let small : n ≤ 25 = at_most n 25 e in (omega (arith, small), omega (arith, ints, small))
    by (negsuc n) e = let small : n ≤ 25 = at_most n 25 e in (omega (arith, small), omega (arith, ints))
