-- What bins spell of elements of places, one after another.
use Rattle.std.proofs.Common.{◌≡◌, ◌≢◌, ◌⊎◌, ℕ, ◌+◌, ◌<◌, ◌≤◌, Bool, true, false, cond, List, length, take, get_or, inl, inr, refl, sym, ap, subst, ◌∙◌, arith}
use Rattle.std.specs.Prelude.{slice_set}
use Rattle.std.proofs.lemmas.Bool.{cases_eq}
use Rattle.std.proofs.lemmas.List.{length-set, take-set-le, get_or-set_same, get_or-set_other}
use Rattle.cabac_engine.specs.Bins.{Slot}
use Rattle.binarisation.specs.BinString.{BinString, Value, Spells, HasOneString, ◌>>=◌}
use Rattle.binarisation.specs.Each.{each}
use Rattle.binarisation.proofs.OneString.{splits, value_one}
use Rattle.binarisation.proofs.Each.{each_keeps, each_one_where, then_one_where}
use Rattle.h264_types.specs.declared.macroblock.Mb.{Mb}

-- ---- what all values of a string have

abbrev pub Keeps : {A : Type 0} → (A → Type 0) → BinString A → Type 0
Keeps {A} P string = (bins : List (Slot × Bool)) (value : A) → Spells string bins value → P value

pub keeps_value : {A : Type 0} (P : A → Type 0) (x : A) → P x → Keeps P (Value x)
keeps_value P x is bins value h = subst P h.1 is

pub keeps_then : {A B : Type 0} (P : A → Type 0) (Q : B → Type 0) (string : BinString A) (next : A → BinString B) → Keeps P string → ((x : A) → P x → Keeps Q (next x)) → Keeps Q (string >>= next)
keeps_then P Q string next first others bins value h =
    let parts = splits string next bins value h in
    others parts.0 (first parts.1 parts.0 parts.4) parts.2 value parts.5

pub keeps_when : {A : Type 0} (P : A → Type 0) (b : Bool) (one other : BinString A) → (b ≡ true → Keeps P one) → (b ≡ false → Keeps P other) → Keeps P (cond b one other)
keeps_when P true one other h g = h refl
keeps_when P false one other h g = g refl

pub when_one : {A : Type 0} (b : Bool) (one other : BinString A) → HasOneString one → HasOneString other → HasOneString (cond b one other)
when_one true one other h g = h
when_one false one other h g = g

-- where a value tells what was put
pub put_one : {A B : Type 0} (string : BinString A) (put : A → B) → HasOneString string → ((x y : A) → put x ≡ put y → x ≡ y) → HasOneString (string >>= (λ x. Value (put x)))
put_one {A} string put one apart =
    then_one_where (λ (x : A). Unit {0}) string (λ x. Value (put x)) (λ bins value h. tt) one (λ x u. value_one (put x)) (λ x y first second value p q h g. apart x y (h.1 ∙ sym g.1))

-- ---- elements that are put into a list of a macroblock

abbrev pub putting : {A : Type 0} → (ℕ → Mb → BinString A) → (ℕ → Mb → A → Mb) → ℕ → Mb → BinString Mb
putting string put k m = string k m >>= (λ v. Value (put k m v))

module _ {A : Type 0} (count : ℕ) (none : A) (Is : ℕ → List A → A → Type 0) where
  -- the first elements of a list are in range
  pub record AreFirst (k : ℕ) (xs : List A) : Type 0 where
    pub size : length xs ≡ count
    pub each : (i : ℕ) → i < k → Is i (take i xs) (get_or xs i none)

  -- and so are those of the list that a macroblock is made with
  pub record HasFirst (make : List A → Mb) (k : ℕ) (m : Mb) : Type 0 where
    pub list : List A
    pub first : AreFirst k list
    pub is : m ≡ make list

-- `make` is a macroblock with the list, `back` tells the list, and `put` puts an element into its place
module _ {A : Type 0} (count : ℕ) (none : A) (make : List A → Mb) (back : Mb → List A) (string : ℕ → Mb → BinString A) (put : ℕ → Mb → A → Mb) (Is : ℕ → List A → A → Type 0)
    (told : (xs : List A) → back (make xs) ≡ xs) (puts : (k : ℕ) (xs : List A) (v : A) → put k (make xs) v ≡ make (slice_set xs k v))
    (range : (k : ℕ) (xs : List A) → k < count → length xs ≡ count → Keeps (Is k (take k xs)) (string k (make xs)))
    (one : (k : ℕ) (m : Mb) → HasOneString (string k m)) where
  abbrev First : ℕ → List A → Type 0
  First k xs = AreFirst count none Is k xs

  abbrev Has : ℕ → Mb → Type 0
  Has k m = HasFirst count none Is make k m

  more : (k : ℕ) (xs : List A) (v : A) → k < count → First k xs → Is k (take k xs) v → First (k + 1) (slice_set xs k v)
  more k xs v below first is = record {
    size = length-set xs k v ∙ first.size;
    each = λ i h. by i (omega (arith, h)) (cases_eq i k);
  }
    where
      by : (i : ℕ) → i ≤ k → (i ≡ k) ⊎ (i ≢ k) → Is i (take i (slice_set xs k v)) (get_or (slice_set xs k v) i none)
      by i h (inl same) =
          subst (λ n. Is n (take n (slice_set xs k v)) (get_or (slice_set xs k v) n none)) (sym same)
          (subst (λ l. Is k l (get_or (slice_set xs k v) k none)) (sym (take-set-le k xs k v (omega arith)))
          (subst (Is k (take k xs)) (sym (get_or-set_same xs k v none (omega (arith, below, first.size)))) is))
      by i h (inr other) =
          subst (λ l. Is i l (get_or (slice_set xs k v) i none)) (sym (take-set-le i xs k v h))
          (subst (Is i (take i xs)) (sym (get_or-set_other xs k i v none other)) (first.each i (omega (arith, h, other))))

  puts_more : (k : ℕ) (m : Mb) → k < count → Has k m → Keeps (Has (k + 1)) (putting string put k m)
  puts_more k m below has =
      subst (λ (n : Mb). Keeps (Has (k + 1)) (putting string put k n)) (sym has.is)
      (keeps_then (Is k (take k has.list)) (Has (k + 1)) (string k (make has.list)) (λ v. Value (put k (make has.list) v)) (range k has.list below has.first.size)
      (λ v is. keeps_value (Has (k + 1)) (put k (make has.list) v) (record { list = slice_set has.list k v; first = more k has.list v below has.first is; is = puts k has.list v })))

  -- all elements, behind any list
  pub puts_all : (xs : List A) → length xs ≡ count → Keeps (HasFirst count none Is make count) (each count (putting string put) 0 (make xs))
  puts_all xs size bins value h =
      let end : 0 + count ≡ count = omega arith in
      subst (λ k. Has k value) end
      (each_keeps (putting string put) Has 0 count (λ k m others v low below has s. puts_more k m below has others v s) count 0 (make xs) bins value (omega arith) (omega arith)
      (record { list = xs; first = record { size = size; each = λ i h. absurd (omega (arith, h)) }; is = refl }) h)

  -- ---- one string

  record HasAt (k : ℕ) (v : A) (m : Mb) : Type 0 where
    list : List A
    size : length list ≡ count
    is : m ≡ make list
    at : get_or list k none ≡ v

  -- an element stays where others are put behind it
  stays : (k n : ℕ) (v : A) (m : Mb) → k + 1 + n ≤ count → HasAt k v m → Keeps (HasAt k v) (each n (putting string put) (k + 1) m)
  stays k n v m most has bins value h =
      each_keeps (putting string put) (λ (j : ℕ) (w : Mb). HasAt k v w) (k + 1) count (λ j w others u low below p s. step j w low p others u s) n (k + 1) m bins value (omega arith) (omega (arith, most)) has h
    where
      step : (j : ℕ) (w : Mb) → k + 1 ≤ j → HasAt k v w → Keeps (HasAt k v) (putting string put j w)
      step j w low p =
          subst (λ (x : Mb). Keeps (HasAt k v) (putting string put j x)) (sym p.is)
          (keeps_then (λ (u : A). Unit {0}) (HasAt k v) (string j (make p.list)) (λ u. Value (put j (make p.list) u)) (λ bins u s. tt)
          (λ u t. keeps_value (HasAt k v) (put j (make p.list) u) (record {
            list = slice_set p.list j u;
            size = length-set p.list j u ∙ p.size;
            is = puts j p.list u;
            at = get_or-set_other p.list j k u none (λ e. omega (arith, low, e)) ∙ p.at;
          })))

  record HasList (k : ℕ) (m : Mb) : Type 0 where
    list : List A
    size : length list ≡ count
    is : m ≡ make list

  record IsMade (k : ℕ) (m y : Mb) : Type 0 where
    list : List A
    size : length list ≡ count
    of : m ≡ make list
    element : A
    is : y ≡ make (slice_set list k element)

  pub all_one : (xs : List A) → length xs ≡ count → HasOneString (each count (putting string put) 0 (make xs))
  all_one xs size = each_one_where count HasList IsMade (putting string put) single (λ k m below has. made k m has) same count 0 (make xs) (omega arith) (record { list = xs; size = size; is = refl })
    where
      apart : (k : ℕ) (ys : List A) (a b : A) → k < length ys → put k (make ys) a ≡ put k (make ys) b → a ≡ b
      apart k ys a b inside e =
          let lists : slice_set ys k a ≡ slice_set ys k b = sym (told (slice_set ys k a)) ∙ ap back (sym (puts k ys a) ∙ e ∙ puts k ys b) ∙ told (slice_set ys k b) in
          sym (get_or-set_same ys k a none inside) ∙ ap (λ l. get_or l k none) lists ∙ get_or-set_same ys k b none inside

      single : (k : ℕ) (m : Mb) → k < count → HasList k m → HasOneString (putting string put k m)
      single k m below has =
          subst (λ (n : Mb). HasOneString (putting string put k n)) (sym has.is)
          (put_one (string k (make has.list)) (put k (make has.list)) (one k (make has.list)) (λ a b e. apart k has.list a b (omega (arith, below, has.size)) e))

      made : (k : ℕ) (m : Mb) → HasList k m → Keeps (λ y. HasList (k + 1) y × IsMade k m y) (putting string put k m)
      made k m has =
          subst (λ (n : Mb). Keeps (λ y. HasList (k + 1) y × IsMade k m y) (putting string put k n)) (sym has.is)
          (keeps_then (λ (v : A). Unit {0}) (λ y. HasList (k + 1) y × IsMade k m y) (string k (make has.list)) (λ v. Value (put k (make has.list) v)) (λ bins v s. tt)
          (λ v t. keeps_value (λ y. HasList (k + 1) y × IsMade k m y) (put k (make has.list) v) (
            record { list = slice_set has.list k v; size = length-set has.list k v ∙ has.size; is = puts k has.list v },
            record { list = has.list; size = has.size; of = has.is; element = v; is = puts k has.list v },
          )))

      at_place : (k : ℕ) (m y : Mb) → k < count → (r : IsMade k m y) → HasAt k r.element y
      at_place k m y below r = record {
        list = slice_set r.list k r.element;
        size = length-set r.list k r.element ∙ r.size;
        is = r.is;
        at = get_or-set_same r.list k r.element none (omega (arith, below, r.size));
      }

      same : (n k : ℕ) (m y z : Mb) (first second : List (Slot × Bool)) (value : Mb) → k + 1 + n ≤ count → HasList k m → HasList (k + 1) y → IsMade k m y → HasList (k + 1) z → IsMade k m z
          → Spells (each n (putting string put) (k + 1) y) first value → Spells (each n (putting string put) (k + 1) z) second value → y ≡ z
      same n k m y z first second value most has hy ry hz rz sy sz =
          let below : k < count = omega (arith, most) in
          let a = stays k n ry.element y most (at_place k m y below ry) first value sy in
          let b = stays k n rz.element z most (at_place k m z below rz) second value sz in
          let values : a.list ≡ b.list = sym (told a.list) ∙ ap back (sym a.is ∙ b.is) ∙ told b.list in
          let elements : ry.element ≡ rz.element = sym a.at ∙ ap (λ l. get_or l k none) values ∙ b.at in
          let lists : ry.list ≡ rz.list = sym (told ry.list) ∙ ap back (sym ry.of ∙ rz.of) ∙ told rz.list in
          ry.is ∙ ap (λ l. make (slice_set l k ry.element)) lists ∙ ap (λ v. make (slice_set rz.list k v)) elements ∙ sym rz.is
