-- Lists of zeros, as elements are that aren't sent.
use Rattle.std.proofs.Common.{◌≡◌, ℕ, zero, suc, ◌<◌, ◌≤◌, ℤ, pos, negsuc, unsigned_abs, List, length, replicate, get_or, refl, sym, ap, ◌∙◌, arith}
use Rattle.std.specs.Prelude.{All, slice_index}
use Rattle.std.specs.List.{AllByRecursion}
use Rattle.std.proofs.lemmas.List.{same_lists, length-replicate, get_or_default, get_or-replicate}
use Rattle.std.proofs.lemmas.List.Elements.{All-replicate, All-from_recursion}
use Rattle.h264_types.specs.Valid.{IsWithin}

pub all_same : {A : Type 0} (x : A) (n : ℕ) (xs : List A) → length xs ≡ n → All (λ y. y ≡ x) xs → xs ≡ replicate n x
all_same x n xs e h =
    same_lists xs (replicate n x) (e ∙ sym (length-replicate n x)) (λ k d below. h k d below ∙ sym (get_or-replicate n k x d (omega (arith, below, e))))

pub zero_numbers : (n : ℕ) (xs : List ℕ) → length xs ≡ n → ((k : ℕ) → k < n → slice_index xs k ≤ 0) → xs ≡ replicate n 0
zero_numbers n xs e h = all_same 0 n xs e (λ k d below. get_or_default xs k d 0 below ∙ omega (arith, h k (omega (arith, below, e))))

pub zero_of : (v : ℤ) → unsigned_abs v ≤ 0 → v ≡ pos 0
zero_of (pos n) h = ap pos (omega arith)
zero_of (negsuc n) h = absurd (omega arith)

pub zero_levels : (n bound : ℕ) (xs : List ℤ) → bound ≡ 0 → length xs ≡ n → IsWithin bound xs → xs ≡ replicate n (pos 0)
zero_levels n bound xs none e h = all_same (pos 0) n xs e (λ k d below. zero_of (get_or xs k d) (omega (arith, h k d below, none)))

pub zero_lists : (m n bound : ℕ) (xss : List (List ℤ)) → bound ≡ 0 → length xss ≡ m → AllByRecursion (λ xs. length xs ≡ n) xss → All (IsWithin bound) xss → xss ≡ replicate m (replicate n (pos 0))
zero_lists m n bound xss none e sizes h =
    all_same (replicate n (pos 0)) m xss e (λ k d below. zero_levels n bound (get_or xss k d) none (All-from_recursion (λ xs. length xs ≡ n) xss sizes k d below) (h k d below))

pub zeros_within : (bound n : ℕ) → IsWithin bound (replicate n (pos 0))
zeros_within bound n = All-replicate (λ value. unsigned_abs value ≤ bound) n (pos 0) (omega arith)

pub zero_at : (n k : ℕ) → slice_index (replicate n 0) k ≡ 0
zero_at zero k = refl
zero_at (suc n) zero = refl
zero_at (suc n) (suc k) = zero_at n k
