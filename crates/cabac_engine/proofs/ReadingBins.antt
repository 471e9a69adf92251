-- Readers and writers of bins, one after another.
use Rattle.std.proofs.Common.{◌≡◌, Bool, List, [], ◌∷◌, ◌++◌, Option, Some, None, refl, sym, ap, subst, ◌∙◌, append_assoc}
use Rattle.std.specs.Option.{option_map}
use Rattle.cabac_engine.specs.Bins.{Slot, Gives, Promises, Puts, ReadsBins}

some_is : {A : Type 0} (x y : A) → Some x ≡ Some y → x ≡ y
some_is x y e = cc

pub Gives-then : {S : Type 0} (step : S → Slot → Option Bool → S → Type 0) (s : S) (xs : List (Slot × Bool)) (m : S) (ys : List (Slot × Bool)) (t : S) → Gives step s xs m → Gives step m ys t → Gives step s (xs ++ ys) t
Gives-then {S} step s [] m ys t p q = subst (λ (x : S). Gives step x ys t) (sym p) q
Gives-then step s (x ∷ xs) m ys t p q = (p.0, p.1, Gives-then step p.0 xs m ys t p.2 q)

-- one bin
pub reads_bin : {S : Type 0} (step : S → Slot → Option Bool → S → Type 0) (slot : Slot) (result : Option Bool) (s t : S) → step s slot result t
    → ReadsBins step (λ b. Unit {0}) (λ b. (slot, b) ∷ []) result s t
reads_bin step slot result s t h = record {
  took = λ x e. (tt, (t, subst (λ r. step s slot r t) e h, refl));
  ahead = λ x others p promised. promised result t h;
}

-- nothing is read
pub reads_no_bin : {S A : Type 0} (step : S → Slot → Option Bool → S → Type 0) (P : A → Type 0) (bins : A → List (Slot × Bool)) (x : A) (s : S) → P x → bins x ≡ [] → ((y : A) → P y → (x ≡ y) × (bins y ≡ [])) → ReadsBins step P bins (Some x) s s
reads_no_bin {S} {A} step P bins x s p none only = record {
  took = λ y e. let is = some_is x y e in subst (λ (z : A). P z × Gives step s (bins z) s) is (p, subst (λ (l : List (Slot × Bool)). Gives step s l s) (sym none) refl);
  ahead = λ y others q promised. let o = only y q in (ap Some o.0, subst (λ (l : List (Slot × Bool)). Promises step s (l ++ others)) o.1 promised);
}

-- the first part was refused
pub reads_none : {S A X : Type 0} (step : S → Slot → Option Bool → S → Type 0) (P : A → Type 0) (bins : A → List (Slot × Bool)) (Q : X → Type 0) (first : X → List (Slot × Bool)) (part : A → X) (more : A → List (Slot × Bool)) (s t : S)
    → ReadsBins step Q first None s t → ((a : A) → P a → Q (part a) × (bins a ≡ first (part a) ++ more a)) → ReadsBins step P bins None s t
reads_none step P bins Q first part more s t r split = record {
  took = λ a e. absurd cc;
  ahead = λ a rest p promised.
      let parts = split a p in
      let moved : Promises step s (first (part a) ++ (more a ++ rest)) = subst (λ (l : List (Slot × Bool)). Promises step s l) (ap (λ (l : List (Slot × Bool)). l ++ rest) parts.1 ∙ append_assoc (first (part a)) (more a) rest) promised in
      let gave = (r.ahead (part a) (more a ++ rest) parts.0 moved).0 in
      absurd cc;
}

-- the first part was read as x, and then the others
pub reads_then : {S A X Y : Type 0} (step : S → Slot → Option Bool → S → Type 0) (P : A → Type 0) (bins : A → List (Slot × Bool)) (Q : X → Type 0) (first : X → List (Slot × Bool)) (R : Y → Type 0) (second : Y → List (Slot × Bool))
    (part : A → X) (rest_part : A → Y) (make : Y → A) (more : A → List (Slot × Bool)) (x : X) (y : Option Y) (s m t : S)
    → ReadsBins step Q first (Some x) s m → ReadsBins step R second y m t
    → ((a : A) → P a → Q (part a) × (bins a ≡ first (part a) ++ more a))
    → ((a : A) → P a → part a ≡ x → R (rest_part a) × (more a ≡ second (rest_part a)) × (make (rest_part a) ≡ a))
    → ((b : Y) → Q x → R b → P (make b) × (bins (make b) ≡ first x ++ second b))
    → ReadsBins step P bins (option_map make y) s t
reads_then step P bins Q first R second part rest_part make more x None s m t r1 r2 split same made = record {
  took = λ a e. absurd cc;
  ahead = λ a rest p promised.
      let parts = split a p in
      let moved : Promises step s (first (part a) ++ (more a ++ rest)) = subst (λ (l : List (Slot × Bool)). Promises step s l) (ap (λ (l : List (Slot × Bool)). l ++ rest) parts.1 ∙ append_assoc (first (part a)) (more a) rest) promised in
      let gave = r1.ahead (part a) (more a ++ rest) parts.0 moved in
      let others = same a p (some_is (part a) x (sym gave.0)) in
      let gave2 = (r2.ahead (rest_part a) rest others.0 (subst (λ (l : List (Slot × Bool)). Promises step m (l ++ rest)) others.1 gave.1)).0 in
      absurd cc;
}
reads_then {S} step P bins Q first R second part rest_part make more x (Some y) s m t r1 r2 split same made = record {
  took = λ a e.
      let one = r1.took x refl in
      let two = r2.took y refl in
      let whole = made y one.0 two.0 in
      let is = some_is (make y) a e in
      let steps : Gives step s (bins (make y)) t = subst (λ (l : List (Slot × Bool)). Gives step s l t) (sym whole.1) (Gives-then step s (first x) m (second y) t one.1 two.1) in
      subst (λ b. P b × Gives step s (bins b) t) is (whole.0, steps);
  ahead = λ a rest p promised.
      let parts = split a p in
      let moved : Promises step s (first (part a) ++ (more a ++ rest)) = subst (λ (l : List (Slot × Bool)). Promises step s l) (ap (λ (l : List (Slot × Bool)). l ++ rest) parts.1 ∙ append_assoc (first (part a)) (more a) rest) promised in
      let gave = r1.ahead (part a) (more a ++ rest) parts.0 moved in
      let others = same a p (some_is (part a) x (sym gave.0)) in
      let gave2 = r2.ahead (rest_part a) rest others.0 (subst (λ (l : List (Slot × Bool)). Promises step m (l ++ rest)) others.1 gave.1) in
      (ap Some (ap make (some_is y (rest_part a) gave2.0) ∙ others.2), gave2.1);
}

-- ---- writers

pub Puts-then : {S : Type 0} (step : S → Slot → Bool → S → Type 0) (s : S) (xs : List (Slot × Bool)) (m : S) (ys : List (Slot × Bool)) (t : S) → Puts step s xs m → Puts step m ys t → Puts step s (xs ++ ys) t
Puts-then {S} step s [] m ys t p q = subst (λ (x : S). Puts step x ys t) (sym p) q
Puts-then step s (x ∷ xs) m ys t p q = (p.0, p.1, Puts-then step p.0 xs m ys t p.2 q)
