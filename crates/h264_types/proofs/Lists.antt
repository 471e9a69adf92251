-- The lists of a macroblock, each by its index.
use Rattle.std.proofs.Common.{◌≡◌, ℕ, ◌<◌, ℤ, List, [], ◌∷◌, length, get_or, arith}
use Rattle.std.specs.Prelude.{slice_index_or}
use Rattle.std.specs.List.{AllByRecursion}
use Rattle.std.proofs.lemmas.List.Elements.{All-from_recursion}
use Rattle.h264_types.specs.Sizes.{HasSizes}
use Rattle.h264_types.specs.declared.macroblock.Mb.{Mb}

pub two_all : {A : Type 0} (P : A → Type 0) (d : A) (xs : List A) → length xs ≡ 2 → P (get_or xs 0 d) → P (get_or xs 1 d) → AllByRecursion P xs
two_all P d [] e p q = absurd (omega (arith, e))
two_all P d (x ∷ []) e p q = absurd (omega (arith, e))
two_all P d (x ∷ y ∷ []) e p q = (p, (q, tt))
two_all P d (x ∷ y ∷ z ∷ xs) e p q = absurd (omega (arith, e))

-- the lists of its prediction are as long as those of any macroblock
pub record HasLists (mb : Mb) : Type 0 where
  pub subs : length mb.subs ≡ 4
  pub refs : length mb.refs ≡ 2
  pub refs_of : (x : ℕ) → x < 2 → length (slice_index_or mb.refs x []) ≡ 4
  pub mvd : length mb.mvd ≡ 2
  pub mvds_of : (x : ℕ) → x < 2 → length (slice_index_or mb.mvd x []) ≡ 16
  pub vectors : (x n : ℕ) → x < 2 → n < 16 → length (slice_index_or (slice_index_or mb.mvd x []) n []) ≡ 2

pub lists_of : (mb : Mb) → HasSizes mb → HasLists mb
lists_of mb sizes = record {
  subs = sizes.subs;
  refs = sizes.refs.0;
  refs_of = λ x h. All-from_recursion (λ list. length list ≡ 4) mb.refs sizes.refs.1 x [] (omega (arith, h, sizes.refs.0));
  mvd = sizes.mvd.0;
  mvds_of = λ x h. (vectors x h).0;
  vectors = λ x n h below. All-from_recursion (λ difference. length difference ≡ 2) (slice_index_or mb.mvd x []) (vectors x h).1 n [] (omega (arith, below, (vectors x h).0));
}
  where
    vectors : (x : ℕ) → x < 2 → (length (slice_index_or mb.mvd x []) ≡ 16) × AllByRecursion (λ difference. length difference ≡ 2) (slice_index_or mb.mvd x [])
    vectors x h = All-from_recursion (λ (list : List (List ℤ)). (length list ≡ 16) × AllByRecursion (λ difference. length difference ≡ 2) list) mb.mvd sizes.mvd.1 x [] (omega (arith, h, sizes.mvd.0))
