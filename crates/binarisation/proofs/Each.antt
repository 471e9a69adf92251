-- Strings one after another.
use Rattle.std.proofs.Common.{◌≡◌, ℕ, zero, suc, ◌+◌, ◌<◌, ◌≤◌, Bool, List, Option, Some, None, refl, sym, subst, ◌∙◌, arith}
use Rattle.std.specs.Option.{option_map}
use Rattle.cabac_engine.specs.Bins.{Slot}
use Rattle.binarisation.specs.BinString.{BinString, Spells, Reads, Writes, HasOneString, ◌>>=◌}
use Rattle.binarisation.proofs.OneString.{splits, value_one}
use Rattle.binarisation.proofs.Strings.{reads_then, reads_none, writes_then}
use Rattle.binarisation.specs.Each.{each}

pub each_next : {A : Type 0} (f : ℕ → A → BinString A) (left rest k next : ℕ) (x : A) → left ≡ rest + 1 → next ≡ k + 1 → each left f k x ≡ (f k x >>= each rest f next)
unfolding each
each_next f left rest k next x e h = let more : left ≡ suc rest = omega arith in rw (more, h) refl

pub reads_next : {S A : Type 0} (step : S → Slot → Option Bool → S → Type 0) (f : ℕ → A → BinString A) (left rest k next : ℕ) (x y : A) (result : Option A) (s m t : S) → left ≡ rest + 1 → next ≡ k + 1
    → Reads step (f k x) (Some y) s m → Reads step (each rest f next y) result m t → Reads step (each left f k x) result s t
reads_next step f left rest k next x y result s m t e h first others = rw (each_next f left rest k next x e h) (reads_then step (f k x) (each rest f next) y result s m t first others)

pub reads_no_next : {S A U : Type 0} (step : S → Slot → Option Bool → S → Type 0) (f : ℕ → A → BinString A) (left rest k next : ℕ) (x : A) (of : U → A) (result : Option U) (s t : S) → left ≡ rest + 1 → next ≡ k + 1 → result ≡ None
    → Reads step (f k x) None s t → Reads step (each left f k x) (option_map of result) s t
reads_no_next {S} {A} {U} step f left rest k next x of result s t e h none first =
    rw (none, each_next f left rest k next x e h) (reads_none step (f k x) (each rest f next) s t first)

pub reads_end : {S A : Type 0} (step : S → Slot → Option Bool → S → Type 0) (f : ℕ → A → BinString A) (left k : ℕ) (x : A) (s : S) → left ≡ 0 → Reads step (each left f k x) (Some x) s s
unfolding each
reads_end step f left k x s e = rw e (refl, refl)

pub writes_next : {S A : Type 0} (step : S → Slot → Bool → S → Type 0) (f : ℕ → A → BinString A) (left rest k next : ℕ) (x y value : A) (s m t : S) → left ≡ rest + 1 → next ≡ k + 1
    → Writes step (f k x) y s m → Writes step (each rest f next y) value m t → Writes step (each left f k x) value s t
writes_next step f left rest k next x y value s m t e h first others = rw (each_next f left rest k next x e h) (writes_then step (f k x) (each rest f next) y value s m t first others)

pub writes_end : {S A : Type 0} (step : S → Slot → Bool → S → Type 0) (f : ℕ → A → BinString A) (left k : ℕ) (x : A) (s : S) → left ≡ 0 → Writes step (each left f k x) x s s
unfolding each
writes_end step f left k x s e = rw e (refl, refl)

-- ---- what is spelled

-- where two values of the one string, which have P, are told apart by a value of what follows
pub then_one_where : {A B : Type 0} (P : A → Type 0) (string : BinString A) (next : A → BinString B) → ((bins : List (Slot × Bool)) (x : A) → Spells string bins x → P x) → HasOneString string → ((x : A) → P x → HasOneString (next x))
    → ((x y : A) (first second : List (Slot × Bool)) (value : B) → P x → P y → Spells (next x) first value → Spells (next y) second value → x ≡ y) → HasOneString (string >>= next)
then_one_where {A} P string next kept one others told bins more value h g =
    let a = splits string next bins value h in
    let b = splits string next more value g in
    let p = kept a.1 a.0 a.4 in
    let q = kept b.1 b.0 b.4 in
    let same : b.0 ≡ a.0 = told b.0 a.0 b.2 a.2 value q p b.5 a.5 in
    let first : a.1 ≡ b.1 = one a.1 b.1 a.0 a.4 (subst (λ (x : A). Spells string b.1 x) same b.4) in
    let second : a.2 ≡ b.2 = others a.0 p a.2 b.2 value a.5 (subst (λ (x : A). Spells (next x) b.2 value) same b.5) in
    let left = a.3 in
    let right = b.3 in
    cc

-- where the value tells what the one string stands for
pub then_one_of : {A B : Type 0} (string : BinString A) (next : A → BinString B) (back : B → A) (P : A → Type 0) → HasOneString string
    → ((bins : List (Slot × Bool)) (x : A) → Spells string bins x → P x) → ((x : A) → P x → HasOneString (next x))
    → ((first second : List (Slot × Bool)) (x : A) (value : B) → Spells string first x → Spells (next x) second value → back value ≡ x) → HasOneString (string >>= next)
then_one_of {A} string next back P one are each told =
    then_one_where (λ (x : A). P x × (bins : List (Slot × Bool)) × Spells string bins x) string next (λ bins x h. (are bins x h, bins, h)) one (λ x p. each x p.0)
    (λ x y first second value p q h g. sym (told p.1 first x value p.2 h) ∙ told q.1 second y value q.2 g)

-- what each step keeps, as far as it has come
pub each_keeps : {A : Type 0} (f : ℕ → A → BinString A) (P : ℕ → A → Type 0) (low most : ℕ)
    → ((k : ℕ) (x : A) (bins : List (Slot × Bool)) (y : A) → low ≤ k → k < most → P k x → Spells (f k x) bins y → P (k + 1) y)
    → (n k : ℕ) (x : A) (bins : List (Slot × Bool)) (z : A) → low ≤ k → k + n ≤ most → P k x → Spells (each n f k x) bins z → P (k + n) z
unfolding each
each_keeps f P low most step zero k x bins z from to p h = let e : k ≡ k + 0 = omega arith in subst (λ i. P i z) e (subst (P k) h.1 p)
each_keeps f P low most step (suc n) k x bins z from to p h =
    let parts = splits (f k x) (each n f (k + 1)) bins z h in
    let e : k + 1 + n ≡ k + suc n = omega arith in
    subst (λ i. P i z) e (each_keeps f P low most step n (k + 1) parts.0 parts.2 z (omega arith) (omega arith) (step k x parts.1 parts.0 from (omega arith) p parts.4) parts.5)

-- where two values of a step, each of which has I and to what it was made of stands in R, are told apart by a value of the
-- steps behind it
pub each_one_where : {A : Type 0} (most : ℕ) (I : ℕ → A → Type 0) (R : ℕ → A → A → Type 0) (f : ℕ → A → BinString A) → ((k : ℕ) (x : A) → k < most → I k x → HasOneString (f k x))
    → ((k : ℕ) (x : A) → k < most → I k x → (bins : List (Slot × Bool)) (y : A) → Spells (f k x) bins y → I (k + 1) y × R k x y)
    → ((n k : ℕ) (x y z : A) (first second : List (Slot × Bool)) (value : A) → k + 1 + n ≤ most → I k x → I (k + 1) y → R k x y → I (k + 1) z → R k x z → Spells (each n f (k + 1) y) first value → Spells (each n f (k + 1) z) second value → y ≡ z)
    → (n k : ℕ) (x : A) → k + n ≤ most → I k x → HasOneString (each n f k x)
unfolding each
each_one_where most I R f one kept told zero k x h is = value_one x
each_one_where most I R f one kept told (suc n) k x h is =
    then_one_where (λ y. I (k + 1) y × R k x y) (f k x) (each n f (k + 1)) (kept k x (omega (arith, h)) is) (one k x (omega (arith, h)) is)
    (λ y p. each_one_where most I R f one kept told n (k + 1) y (omega (arith, h)) p.0)
    (λ y z first second value p q a b. told n k x y z first second value (omega (arith, h)) is p.0 p.1 q.0 q.1 a b)

-- where a later value tells what each step made
pub each_one : {A : Type 0} (f : ℕ → A → BinString A) (P : A → Type 0) (back : ℕ → A → A → A) (low most : ℕ)
    → ((k : ℕ) (x : A) → low ≤ k → k < most → P x → HasOneString (f k x))
    → ((k : ℕ) (x : A) (bins : List (Slot × Bool)) (y : A) → low ≤ k → k < most → P x → Spells (f k x) bins y → P y)
    → ((k : ℕ) (x : A) (bins : List (Slot × Bool)) (y : A) → low ≤ k → k < most → P x → Spells (f k x) bins y → back k x y ≡ y)
    → ((j k : ℕ) (x w : A) (bins : List (Slot × Bool)) (y : A) → low ≤ j → j < k → k < most → P w → Spells (f k w) bins y → back j x y ≡ back j x w)
    → (n k : ℕ) (x : A) → low ≤ k → k + n ≤ most → P x → HasOneString (each n f k x)
each_one {A} f P back low most one keeps made later n k x from to p =
    each_one_where most (λ (i : ℕ) (w : A). (low ≤ i) × P w) (λ (i : ℕ) (w y : A). back i w y ≡ y) f (λ j w below is. one j w is.0 below is.1)
    (λ j w below is bins y h. ((omega (arith, is.0), keeps j w bins y is.0 below is.1 h), made j w bins y is.0 below is.1 h))
    (λ m j w y z first second value bound is has made_y too made_z g h. sym (told m j w y first value bound is.0 has.1 made_y g) ∙ told m j w z second value bound is.0 too.1 made_z h)
    n k x to (from, p)
  where
    told : (m j : ℕ) (w y : A) (bins : List (Slot × Bool)) (value : A) → j + 1 + m ≤ most → low ≤ j → P y → back j w y ≡ y → Spells (each m f (j + 1) y) bins value → back j w value ≡ y
    told m j w y bins value bound above has made_y g =
        let same = each_keeps f (λ (i : ℕ) (v : A). (j < i) × P v × (back j w v ≡ back j w y)) low most
        (λ i v others u low high r s. (omega (arith, r.0), keeps i v others u low high r.1 s, later j i w v others u above r.0 high r.1 s ∙ r.2))
        m (j + 1) y bins value (omega (arith, above)) bound (omega arith, has, refl) g in
        same.2 ∙ made_y
