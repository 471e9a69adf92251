-- f of 0, 1, .. to n - 1, while n grows; and counts that are small.
use Rattle.std.proofs.Common.{◌≡◌, ℕ, zero, suc, ◌+◌, ◌<◌, ◌≤◌, List, [], ◌∷◌, ◌++◌, length, take, get_or, refl, ap, sym, ◌∙◌, arith, add-one, length-append, inl, inr, slice_set}
use Rattle.std.specs.Prelude.{replicate}
use Rattle.std.proofs.lemmas.Bool.{cases_lt}
use Rattle.std.proofs.lemmas.List.{get_or_append_left, get_or_push}
use Rattle.cavlc_mb_residual.specs.Counts.{AreSmall}
use Rattle.cavlc_mb_residual.specs.LumaBlocks.{sixteen}

unfoldable pub firsts : {A : Type 0} → (ℕ → A) → ℕ → List A
firsts f zero = []
firsts f (suc n) = firsts f n ++ f n ∷ []

pub firsts-none : {A : Type 0} (f : ℕ → A) → firsts f 0 ≡ []
unfolding firsts
firsts-none f = refl

firsts-same : {A : Type 0} (f g : ℕ → A) (n : ℕ) → ((m : ℕ) → m < n → f m ≡ g m) → firsts f n ≡ firsts g n
unfolding firsts
firsts-same f g zero same = refl
firsts-same f g (suc n) same =
    ap (λ xs. xs ++ f n ∷ []) (firsts-same f g n (λ m below. same m (omega arith)))
    ∙ ap (λ x. firsts g n ++ x ∷ []) (same n (omega arith))

-- one more was put, and those before stayed
pub firsts-more : {A : Type 0} (old new : ℕ → A) (n : ℕ) → ((m : ℕ) → m < n → new m ≡ old m) → firsts new (n + 1) ≡ firsts old n ++ new n ∷ []
unfolding firsts
firsts-more old new n same =
    ap (firsts new) (add-one n) ∙ ap (λ xs. xs ++ new n ∷ []) (firsts-same new old n same)

pub firsts-16 : {A : Type 0} (f : ℕ → A) (n : ℕ) → n ≡ 16 → firsts f n ≡ sixteen f
unfolding firsts sixteen
firsts-16 f n e = rw e refl

pub length-firsts : {A : Type 0} (f : ℕ → A) (n : ℕ) → length (firsts f n) ≡ n
unfolding firsts
length-firsts f zero = refl
length-firsts f (suc n) = length-append (firsts f n) (f n ∷ []) ∙ omega (arith, length-firsts f n)

get_or-firsts : {A : Type 0} (f : ℕ → A) (n i : ℕ) (d : A) → i < n → get_or (firsts f n) i d ≡ f i
unfolding firsts
get_or-firsts f zero i d h = absurd (omega arith)
get_or-firsts f (suc n) i d h =
    elim (cases_lt i n) [
      | inl lt ↦ get_or_append_left (firsts f n) (f n ∷ []) d i (omega (arith, length-firsts f n)) ∙ get_or-firsts f n i d lt
      | inr le ↦
          let last : i ≡ n = omega arith in
          let size : length (firsts f n) ≡ i = omega (arith, length-firsts f n) in
          get_or_push (firsts f n) (f n) d i size ∙ ap f (sym last)
    ]

pub length-sixteen : {A : Type 0} (f : ℕ → A) → length (sixteen f) ≡ 16
unfolding sixteen
length-sixteen f = refl

pub get_or-sixteen : {A : Type 0} (f : ℕ → A) (i : ℕ) (d : A) → i < 16 → get_or (sixteen f) i d ≡ f i
get_or-sixteen f i d h = ap (λ xs. get_or xs i d) (sym (firsts-16 f 16 refl)) ∙ get_or-firsts f 16 i d h

pub take-all : {A : Type 0} (n : ℕ) (xs : List A) → length xs ≡ n → take n xs ≡ xs
take-all zero [] e = refl
take-all zero (x ∷ xs) e = absurd (omega (arith, e))
take-all (suc n) [] e = absurd (omega (arith, e))
take-all (suc n) (x ∷ xs) e = ap (λ ys. x ∷ ys) (take-all n xs (omega (arith, e)))

-- ---- counts

pub AreSmall-none : AreSmall []
AreSmall-none k = omega arith

-- the counts of four quarters
pub AreSmall-quarters : (a b c d : List ℕ) → AreSmall a → AreSmall b → AreSmall c → AreSmall d
    → AreSmall (get_or a 0 0 ∷ get_or a 1 0 ∷ get_or a 2 0 ∷ get_or a 3 0 ∷ get_or b 0 0 ∷ get_or b 1 0 ∷ get_or b 2 0 ∷ get_or b 3 0 ∷ get_or c 0 0 ∷ get_or c 1 0 ∷ get_or c 2 0 ∷ get_or c 3 0 ∷ get_or d 0 0 ∷ get_or d 1 0 ∷ get_or d 2 0 ∷ get_or d 3 0 ∷ [])
AreSmall-quarters a b c d ha hb hc hd zero = ha 0
AreSmall-quarters a b c d ha hb hc hd (suc zero) = ha 1
AreSmall-quarters a b c d ha hb hc hd (suc (suc zero)) = ha 2
AreSmall-quarters a b c d ha hb hc hd (suc (suc (suc zero))) = ha 3
AreSmall-quarters a b c d ha hb hc hd (suc (suc (suc (suc zero)))) = hb 0
AreSmall-quarters a b c d ha hb hc hd (suc (suc (suc (suc (suc zero))))) = hb 1
AreSmall-quarters a b c d ha hb hc hd (suc (suc (suc (suc (suc (suc zero)))))) = hb 2
AreSmall-quarters a b c d ha hb hc hd (suc (suc (suc (suc (suc (suc (suc zero))))))) = hb 3
AreSmall-quarters a b c d ha hb hc hd (suc (suc (suc (suc (suc (suc (suc (suc zero)))))))) = hc 0
AreSmall-quarters a b c d ha hb hc hd (suc (suc (suc (suc (suc (suc (suc (suc (suc zero))))))))) = hc 1
AreSmall-quarters a b c d ha hb hc hd (suc (suc (suc (suc (suc (suc (suc (suc (suc (suc zero)))))))))) = hc 2
AreSmall-quarters a b c d ha hb hc hd (suc (suc (suc (suc (suc (suc (suc (suc (suc (suc (suc zero))))))))))) = hc 3
AreSmall-quarters a b c d ha hb hc hd (suc (suc (suc (suc (suc (suc (suc (suc (suc (suc (suc (suc zero)))))))))))) = hd 0
AreSmall-quarters a b c d ha hb hc hd (suc (suc (suc (suc (suc (suc (suc (suc (suc (suc (suc (suc (suc zero))))))))))))) = hd 1
AreSmall-quarters a b c d ha hb hc hd (suc (suc (suc (suc (suc (suc (suc (suc (suc (suc (suc (suc (suc (suc zero)))))))))))))) = hd 2
AreSmall-quarters a b c d ha hb hc hd (suc (suc (suc (suc (suc (suc (suc (suc (suc (suc (suc (suc (suc (suc (suc zero))))))))))))))) = hd 3
AreSmall-quarters a b c d ha hb hc hd (suc (suc (suc (suc (suc (suc (suc (suc (suc (suc (suc (suc (suc (suc (suc (suc k)))))))))))))))) = AreSmall-none k

pub AreSmall-push : (xs ys : List ℕ) (x : ℕ) → ys ≡ xs ++ x ∷ [] → AreSmall xs → x ≤ 16 → AreSmall ys
AreSmall-push xs ys x e small most = rw e (at xs small)
  where
    at : (xs : List ℕ) → AreSmall xs → AreSmall (xs ++ x ∷ [])
    at [] small zero = most
    at [] small (suc k) = omega arith
    at (y ∷ xs) small zero = small 0
    at (y ∷ xs) small (suc k) = at xs (λ j. small (suc j)) k

pub AreSmall-set : (xs : List ℕ) (i x : ℕ) → AreSmall xs → x ≤ 16 → AreSmall (slice_set xs i x)
AreSmall-set [] i x small most zero = small 0
AreSmall-set [] i x small most (suc k) = small (suc k)
AreSmall-set (y ∷ ys) zero x small most zero = most
AreSmall-set (y ∷ ys) zero x small most (suc k) = small (suc k)
AreSmall-set (y ∷ ys) (suc i) x small most zero = small 0
AreSmall-set (y ∷ ys) (suc i) x small most (suc k) = AreSmall-set ys i x (λ j. small (suc j)) most k

pub AreSmall-replicate : (n x : ℕ) → x ≤ 16 → AreSmall (replicate n x)
AreSmall-replicate zero x most k = omega arith
AreSmall-replicate (suc n) x most zero = most
AreSmall-replicate (suc n) x most (suc k) = AreSmall-replicate n x most k
