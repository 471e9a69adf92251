-- Readings that invert a text, put together from smaller ones.
use Rattle.std.proofs.Common.{◌≡◌, ℕ, zero, suc, ◌+◌, ◌-◌, ◌<◌, ◌≤◌, Bool, true, false, cond, List, [], ◌∷◌, ◌++◌, length, Option, Some, None, refl, sym, ap, subst, ◌∙◌, append_assoc, length-append, append-nil, arith}
use Rattle.std.specs.Prelude.{MatchBool}
use Rattle.std.specs.List.{AllByRecursion}
use Rattle.bit_texts.specs.Cursor.{Cursor, cursor, Keeps, Takes}
use Rattle.bit_texts.specs.Texts.{Reads, IsPrefixFree, turns_text}
use Rattle.bit_texts.specs.Readings.{◌>>=◌, Gives, Inverts, moved, at_cursor, many_text, many_at}

-- the value of a step that did not fail
pub bind_some : {A B : Type 0} (o : Option A) (f : A → Option B) (y : B) → (o >>= f) ≡ Some y → (x : A) × (o ≡ Some x) × (f x ≡ Some y)
bind_some None f y e = absurd cc
bind_some (Some x) f y e = (x, refl, e)

pub some_is : {A : Type 0} (x y : A) → Some x ≡ Some y → x ≡ y
some_is x y e = cc

pub Takes-then : (c : Cursor) (x : List Bool) (d : Cursor) (y : List Bool) (e : Cursor) → Takes x c d → Takes y d e → Takes (x ++ y) c e
Takes-then c x d y e p q = record {
  parts = p.parts ∙ ap (λ (t : List Bool). x ++ t) q.parts ∙ sym (append_assoc x y e.left);
  count = omega (arith, p.count, q.count, length-append x y);
}

-- What inverts the text reads it: None only where no value's text begins the bits.
pub Reads-from_Gives : {A : Type 0} (P : A → Type 0) (text : ℕ → A → List Bool) (read : Cursor → Option (A × Cursor)) → Inverts P text read → (result : Option A) (before after : Cursor) → Gives result after (read before) → Reads P (text before.taken) before.left result after.left
Reads-from_Gives P text read inv None before after gives =
    λ x rest p e.
    let again : read (cursor before.taken (text before.taken x ++ rest)) ≡ Some (x, cursor (before.taken + length (text before.taken x)) rest) = inv.again before.taken x rest p in
    let moved : read before ≡ Some (x, cursor (before.taken + length (text before.taken x)) rest) = ap (λ (l : List Bool). read (cursor before.taken l)) e ∙ again in
    absurd cc
Reads-from_Gives P text read inv (Some x) before after gives = let t = inv.takes before x after gives in (t.0, t.1.parts)

-- A value whose text was taken from here is what is read here.
pub read_is : {A : Type 0} (P : A → Type 0) (text : ℕ → A → List Bool) (read : Cursor → Option (A × Cursor)) → Inverts P text read → (c : Cursor) (x : A) (d : Cursor) → P x → Takes (text c.taken x) c d → read c ≡ Some (x, d)
read_is P text read inv c x d p t =
    ap (λ (l : List Bool). read (cursor c.taken l)) t.parts ∙ inv.again c.taken x d.left p ∙ ap (λ (n : ℕ). Some (x, cursor n d.left)) (sym t.count)

-- no text that a reading inverts begins another, and none is that of two values
pub IsPrefixFree-from_Inverts : {A : Type 0} (P : A → Type 0) (text : ℕ → A → List Bool) (read : Cursor → Option (A × Cursor)) → Inverts P text read → (n : ℕ) → IsPrefixFree P (text n)
IsPrefixFree-from_Inverts P text read inv n x y a b p q e =
    let one = inv.again n x a p in
    let two = inv.again n y b q in
    let both : Some (x, cursor (n + length (text n x)) a) ≡ Some (y, cursor (n + length (text n y)) b) = sym one ∙ ap (λ (l : List Bool). read (cursor n l)) e ∙ two in
    let same = some_is (x, cursor (n + length (text n x)) a) (y, cursor (n + length (text n y)) b) both in
    ap (λ (p : _ × Cursor). p.0) same

-- what stands between two cursors, where as many bits were taken as are no longer left
pub Takes-from_Keeps : (text : List Bool) (before after : Cursor) → before.left ≡ text ++ after.left → Keeps before after → Takes text before after
Takes-from_Keeps text before after e kept = record { parts = e; count = omega (arith, kept, ap length e, length-append text after.left) }

-- a reader that keeps the bits, those taken and then those left, keeps their count
pub Keeps-from_kept : (taken left taken' left' : List Bool) → taken' ++ left' ≡ taken ++ left → Keeps (cursor (length taken) left) (cursor (length taken') left')
Keeps-from_kept taken left taken' left' kept = omega (arith, ap length kept, length-append taken left, length-append taken' left')

-- What a reader of the text answered is what a reading that inverts it gives.
pub Gives-from_Reads : {A : Type 0} (P : A → Type 0) (text : ℕ → A → List Bool) (read : Cursor → Option (A × Cursor)) → Inverts P text read → (result : Option A) (before after : Cursor) → Reads P (text before.taken) before.left result after.left → Keeps before after → Gives result after (read before)
Gives-from_Reads {A} P text read inv None before after none kept = nothing (read before) refl
  where
    nothing : (o : Option (A × Cursor)) → read before ≡ o → o ≡ None
    nothing None e = refl
    nothing (Some x) e = let t = inv.takes before x.0 x.1 e in absurd (none x.0 x.1.left t.0 t.1.parts)
Gives-from_Reads P text read inv (Some x) before after some kept = read_is P text read inv before x after some.0 (Takes-from_Keeps (text before.taken x) before after some.1 kept)

-- ---- a reading of bits, at a cursor

pub Gives-at_cursor : {A : Type 0} (read : List Bool → Option (A × List Bool)) (result : Option A) (before after : Cursor) → Gives result after.left (read before.left) → Keeps before after → Gives result after (at_cursor read before)
Gives-at_cursor read None before after gives kept = rw gives refl
Gives-at_cursor read (Some x) before after gives kept =
    let place : before.taken + length before.left - length after.left ≡ after.taken = omega (arith, kept) in
    rw gives (ap (λ n. Some (x, cursor n after.left)) place)

-- a reading of bits that inverts a text, as a reading at a cursor
pub at_cursor-inverts : {A : Type 0} (P : A → Type 0) (text : A → List Bool) (read : List Bool → Option (A × List Bool))
    → ((bits : List Bool) (x : A) (rest : List Bool) → read bits ≡ Some (x, rest) → P x × (bits ≡ text x ++ rest))
    → ((x : A) (rest : List Bool) → P x → read (text x ++ rest) ≡ Some (x, rest))
    → Inverts P (λ n. text) (at_cursor read)
at_cursor-inverts {A} P text read takes again = record {
  takes = λ c x d e. taken c (read c.left) refl x d e;
  again = λ n x rest p.
      let count : n + length (text x ++ rest) - length rest ≡ n + length (text x) = omega (arith, length-append (text x) rest) in
      ap (moved (cursor n (text x ++ rest))) (again x rest p) ∙ ap (λ k. Some (x, cursor k rest)) count;
}
  where
    taken : (c : Cursor) (o : Option (A × List Bool)) → read c.left ≡ o → (x : A) (d : Cursor) → moved c o ≡ Some (x, d) → P x × Takes (text x) c d
    taken c None found x d e = absurd cc
    taken c (Some y) found x d e =
        let t = takes c.left y.0 y.1 found in
        let there : Cursor = cursor (c.taken + length c.left - length y.1) y.1 in
        let same : ◌≡◌ {A = A × Cursor} (y.0, there) (x, d) = some_is (y.0, there) (x, d) e in
        let count : c.taken + length c.left - length y.1 ≡ c.taken + length (text y.0) = omega (arith, ap length t.1, length-append (text y.0) y.1) in
        subst (λ (z : A × Cursor). P z.0 × Takes (text z.0) c z.1) same (t.0, record { parts = t.1; count = count })

-- ---- readings of a value M by its parts: Q says what is known of the value so far

-- Nothing is left to read: x is the one value.
pub done_inverts : {M : Type 0} (Q : M → Type 0) (x : M) → Q x → ((m : M) → Q m → m ≡ x) → Inverts Q (λ n m. []) (λ c. Some (x, c))
done_inverts {M} Q x is only = record {
  takes = λ c m d e.
      let same : ◌≡◌ {A = M × Cursor} (x, c) (m, d) = some_is (x, c) (m, d) e in
      subst (λ (y : M × Cursor). Q y.0 × Takes [] c y.1) same (is, record { parts = refl; count = omega arith });
  again = λ n m rest q.
      let k : n + 0 ≡ n = omega arith in
      rw (only m q, k) refl;
}

-- The next part, and then the others.
pub bind_inverts : {M A : Type 0} (Q : M → Type 0) (P : A → Type 0) (text : ℕ → A → List Bool) (read : Cursor → Option (A × Cursor)) (part : M → A) (part_text rest_text : ℕ → M → List Bool) (rest : A → Cursor → Option (M × Cursor))
    → Inverts P text read → ((m : M) → Q m → P (part m)) → ((n : ℕ) (m : M) → Q m → part_text n m ≡ text n (part m))
    → ((x : A) → P x → Inverts (λ m. Q m × (part m ≡ x)) rest_text (rest x))
    → Inverts Q (λ n m. part_text n m ++ rest_text (n + length (part_text n m)) m) (λ c. read c >>= λ x. rest x.0 x.1)
bind_inverts {M} {A} Q P text read part part_text rest_text rest first within same others = record {
  takes = λ c m d e.
      let b = bind_some (read c) (λ x. rest x.0 x.1) (m, d) e in
      let t = first.takes c b.0.0 b.0.1 b.1 in
      let s = (others b.0.0 t.0).takes b.0.1 m d b.2 in
      let here : part_text c.taken m ≡ text c.taken b.0.0 = same c.taken m s.0.0 ∙ ap (text c.taken) s.0.1 in
      let one : Takes (part_text c.taken m) c b.0.1 = subst (λ (l : List Bool). Takes l c b.0.1) (sym here) t.1 in
      let two : Takes (rest_text (c.taken + length (part_text c.taken m)) m) b.0.1 d = subst (λ (n : ℕ). Takes (rest_text n m) b.0.1 d) one.count s.1 in
      (s.0.0, Takes-then c (part_text c.taken m) b.0.1 (rest_text (c.taken + length (part_text c.taken m)) m) d one two);
  again = λ n m after q.
      let a = part_text n m in
      let z = rest_text (n + length a) m in
      let here : a ≡ text n (part m) = same n m q in
      let one : read (cursor n (a ++ (z ++ after))) ≡ Some (part m, cursor (n + length a) (z ++ after)) =
      ap (λ (l : List Bool). read (cursor n (l ++ (z ++ after)))) here ∙ first.again n (part m) (z ++ after) (within m q) ∙ ap (λ (l : List Bool). Some (part m, cursor (n + length l) (z ++ after))) (sym here) in
      let two : rest (part m) (cursor (n + length a) (z ++ after)) ≡ Some (m, cursor (n + length a + length z) after) = (others (part m) (within m q)).again (n + length a) m after (q, refl) in
      let k : n + length a + length z ≡ n + length (a ++ z) = omega (arith, length-append a z) in
      ap (λ (l : List Bool). read (cursor n l) >>= λ x. rest x.0 x.1) (append_assoc a z after)
      ∙ ap (λ (o : Option (A × Cursor)). o >>= λ x. rest x.0 x.1) one ∙ two ∙ ap (λ (i : ℕ). Some (m, cursor i after)) k;
}

-- A part that stands under a condition, and otherwise is d.
pub when_inverts : {A : Type 0} (b : Bool) (d : A) (P : A → Type 0) (text : ℕ → A → List Bool) (read : Cursor → Option (A × Cursor))
    → Inverts P text read → Inverts (λ x. MatchBool b (P x) (x ≡ d)) (λ n x. cond b (text n x) []) (λ c. cond b (read c) (Some (d, c)))
when_inverts true d P text read inv = inv
when_inverts false d P text read inv = done_inverts (λ x. x ≡ d) d refl (λ m e. e)

-- One of two readings.
pub if_inverts : {M : Type 0} (b : Bool) (Q : M → Type 0) (text text' : ℕ → M → List Bool) (read read' : Cursor → Option (M × Cursor))
    → (b ≡ true → Inverts Q text read) → (b ≡ false → Inverts Q text' read') → Inverts Q (λ n m. cond b (text n m) (text' n m)) (λ c. cond b (read c) (read' c))
if_inverts true Q text text' read read' first second = first refl
if_inverts false Q text text' read read' first second = second refl

-- The same text in other words.
pub same_inverts : {M : Type 0} (Q : M → Type 0) (text text' : ℕ → M → List Bool) (read : Cursor → Option (M × Cursor))
    → ((n : ℕ) (m : M) → Q m → text n m ≡ text' n m) → Inverts Q text read → Inverts Q text' read
same_inverts Q text text' read same inv = record {
  takes = λ c m d e. let t = inv.takes c m d e in (t.0, subst (λ (l : List Bool). Takes l c d) (same c.taken m t.0) t.1);
  again = λ n m rest q. ap (λ (l : List Bool). read (cursor n (l ++ rest))) (sym (same n m q)) ∙ inv.again n m rest q ∙ ap (λ (l : List Bool). Some (m, cursor (n + length l) rest)) (same n m q);
}

-- The same values in other words.
pub same_values : {M : Type 0} (Q R : M → Type 0) (text : ℕ → M → List Bool) (read : Cursor → Option (M × Cursor))
    → ((m : M) → Q m → R m) → ((m : M) → R m → Q m) → Inverts Q text read → Inverts R text read
same_values Q R text read to from inv = record {
  takes = λ c m d e. let t = inv.takes c m d e in (to m t.0, t.1);
  again = λ n m rest r. inv.again n m rest (from m r);
}

-- ---- values one after another

many_take : {A : Type 0} (P : A → Type 0) (text : ℕ → A → List Bool) (read : Cursor → Option (A × Cursor)) (k : ℕ) → Inverts P text read
    → (c : Cursor) (xs : List A) (d : Cursor) → many_at k read c ≡ Some (xs, d) → ((length xs ≡ k) × AllByRecursion P xs) × Takes (many_text text c.taken xs) c d
unfolding many_at turns_text
many_take {A} P text read zero inv c xs d e =
    let same : ◌≡◌ {A = List A × Cursor} ([], c) (xs, d) = some_is ([], c) (xs, d) e in
    subst (λ (y : List A × Cursor). ((length y.0 ≡ 0) × AllByRecursion P y.0) × Takes (many_text text c.taken y.0) c y.1) same ((refl, tt), record { parts = refl; count = omega arith })
many_take {A} P text read (suc k) inv c xs d e =
    let a = bind_some (read c) (λ x. many_at k read x.1 >>= λ ys. Some (x.0 ∷ ys.0, ys.1)) (xs, d) e in
    let b = bind_some (many_at k read a.0.1) (λ ys. Some (a.0.0 ∷ ys.0, ys.1)) (xs, d) a.2 in
    let t = inv.takes c a.0.0 a.0.1 a.1 in
    let s = many_take P text read k inv a.0.1 b.0.0 b.0.1 b.1 in
    let two : Takes (many_text text (c.taken + length (text c.taken a.0.0)) b.0.0) a.0.1 b.0.1 = subst (λ (n : ℕ). Takes (many_text text n b.0.0) a.0.1 b.0.1) t.1.count s.1 in
    let both = Takes-then c (text c.taken a.0.0) a.0.1 (many_text text (c.taken + length (text c.taken a.0.0)) b.0.0) b.0.1 t.1 two in
    let same : ◌≡◌ {A = List A × Cursor} (a.0.0 ∷ b.0.0, b.0.1) (xs, d) = some_is (a.0.0 ∷ b.0.0, b.0.1) (xs, d) b.2 in
    subst (λ (y : List A × Cursor). ((length y.0 ≡ suc k) × AllByRecursion P y.0) × Takes (many_text text c.taken y.0) c y.1) same ((ap suc s.0.0, (t.0, s.0.1)), both)

many_again : {A : Type 0} (P : A → Type 0) (text : ℕ → A → List Bool) (read : Cursor → Option (A × Cursor)) (k : ℕ) → Inverts P text read
    → (n : ℕ) (xs : List A) (rest : List Bool) → (length xs ≡ k) × AllByRecursion P xs → many_at k read (cursor n (many_text text n xs ++ rest)) ≡ Some (xs, cursor (n + length (many_text text n xs)) rest)
unfolding many_at turns_text
many_again P text read zero inv n [] rest h = let k : n + 0 ≡ n = omega arith in rw k refl
many_again P text read zero inv n (x ∷ xs) rest h = absurd (omega (arith, h.0))
many_again P text read (suc k) inv n [] rest h = absurd (omega (arith, h.0))
many_again {A} P text read (suc k) inv n (x ∷ xs) rest h =
    let a = text n x in
    let z = many_text text (n + length a) xs in
    let one : read (cursor n (a ++ (z ++ rest))) ≡ Some (x, cursor (n + length a) (z ++ rest)) = inv.again n x (z ++ rest) h.1.0 in
    let two : many_at k read (cursor (n + length a) (z ++ rest)) ≡ Some (xs, cursor (n + length a + length z) rest) = many_again P text read k inv (n + length a) xs rest (omega (arith, h.0), h.1.1) in
    let far : n + length a + length z ≡ n + length (a ++ z) = omega (arith, length-append a z) in
    ap (λ (l : List Bool). many_at (suc k) read (cursor n l)) (append_assoc a z rest)
    ∙ ap (λ (o : Option (A × Cursor)). o >>= λ y. many_at k read y.1 >>= λ ys. Some (y.0 ∷ ys.0, ys.1)) one
    ∙ ap (λ (o : Option (List A × Cursor)). o >>= λ ys. Some (x ∷ ys.0, ys.1)) two
    ∙ ap (λ (i : ℕ). Some (x ∷ xs, cursor i rest)) far

pub many_inverts : {A : Type 0} (P : A → Type 0) (text : ℕ → A → List Bool) (read : Cursor → Option (A × Cursor)) (k : ℕ)
    → Inverts P text read → Inverts (λ xs. (length xs ≡ k) × AllByRecursion P xs) (many_text text) (many_at k read)
many_inverts P text read k inv = record { takes = λ c xs d e. many_take P text read k inv c xs d e; again = λ n xs rest h. many_again P text read k inv n xs rest h }

-- ---- a loop over many: what was read before, and what is still read

abbrev pub with_front : {A : Type 0} → List A → Option (List A × Cursor) → Option (List A × Cursor)
with_front front read = read >>= λ x. Some (front ++ x.0, x.1)

regroup : {A : Type 0} (front : List A) (x : A) (read : Option (List A × Cursor)) → with_front front (read >>= λ y. Some (x ∷ y.0, y.1)) ≡ with_front (front ++ x ∷ []) read
regroup front x None = refl
regroup front x (Some y) = ap (λ (ys : List _). Some (ys, y.1)) (simp append_assoc)

pub many_goes_on : {A : Type 0} (read : Cursor → Option (A × Cursor)) (front next : List A) (k i : ℕ) (c d : Cursor) (x : A) (total : Option (List A × Cursor))
    → i < k → read c ≡ Some (x, d) → next ≡ front ++ x ∷ [] → with_front front (many_at (k - i) read c) ≡ total → with_front next (many_at (k - (i + 1)) read d) ≡ total
unfolding many_at
many_goes_on read front next k i c d x total lt h e so_far =
    let p : k - i ≡ suc (k - (i + 1)) = omega arith in
    let one : with_front front (many_at (k - i) read c) ≡ with_front (front ++ x ∷ []) (many_at (k - (i + 1)) read d) = rw (p, h) (regroup front x (many_at (k - (i + 1)) read d)) in
    rw e (sym one ∙ so_far)

pub many_ends : {A : Type 0} (read : Cursor → Option (A × Cursor)) (front : List A) (k i : ℕ) (c : Cursor) (total : Option (List A × Cursor))
    → i < k → read c ≡ None → with_front front (many_at (k - i) read c) ≡ total → total ≡ None
unfolding many_at
many_ends read front k i c total lt h so_far =
    let p : k - i ≡ suc (k - (i + 1)) = omega arith in
    let one : with_front front (many_at (k - i) read c) ≡ None = rw (p, h) refl in
    sym so_far ∙ one

pub many_is_done : {A : Type 0} (read : Cursor → Option (A × Cursor)) (front all : List A) (k i : ℕ) (c : Cursor) (total : Option (List A × Cursor))
    → k ≤ i → front ≡ all → with_front front (many_at (k - i) read c) ≡ total → total ≡ Some (all, c)
unfolding many_at
many_is_done read front all k i c total le e so_far =
    let p : k - i ≡ 0 = omega arith in
    let one : with_front front (many_at (k - i) read c) ≡ Some (front, c) = rw p (ap (λ (ys : List _). Some (ys, c)) (append-nil front)) in
    rw (← e) (sym so_far ∙ one)

-- ---- the same values under another name

pub map_inverts : {A B : Type 0} (P : A → Type 0) (Q : B → Type 0) (text : ℕ → A → List Bool) (read : Cursor → Option (A × Cursor)) (make : A → B) (part : B → A) (part_text : ℕ → B → List Bool)
    → Inverts P text read → ((x : A) → P x → Q (make x) × (part (make x) ≡ x)) → ((y : B) → Q y → P (part y) × (make (part y) ≡ y)) → ((n : ℕ) (y : B) → Q y → part_text n y ≡ text n (part y))
    → Inverts Q part_text (λ c. read c >>= λ x. Some (make x.0, x.1))
map_inverts {A} {B} P Q text read make part part_text inv there back same = record {
  takes = λ c y d e.
      let b = bind_some (read c) (λ x. Some (make x.0, x.1)) (y, d) e in
      let t = inv.takes c b.0.0 b.0.1 b.1 in
      let made = there b.0.0 t.0 in
      let one : part_text c.taken (make b.0.0) ≡ text c.taken b.0.0 = same c.taken (make b.0.0) made.0 ∙ ap (text c.taken) made.1 in
      let two : Takes (part_text c.taken (make b.0.0)) c b.0.1 = subst (λ (l : List Bool). Takes l c b.0.1) (sym one) t.1 in
      let is : ◌≡◌ {A = B × Cursor} (make b.0.0, b.0.1) (y, d) = some_is (make b.0.0, b.0.1) (y, d) b.2 in
      subst (λ (z : B × Cursor). Q z.0 × Takes (part_text c.taken z.0) c z.1) is (made.0, two);
  again = λ n y rest q.
      let was = back y q in
      ap (λ (l : List Bool). read (cursor n (l ++ rest)) >>= λ x. Some (make x.0, x.1)) (same n y q)
      ∙ ap (λ (o : Option (A × Cursor)). o >>= λ x. Some (make x.0, x.1)) (inv.again n (part y) rest was.0)
      ∙ ap (λ (z : B). Some (z, cursor (n + length (text n (part y))) rest)) was.1
      ∙ ap (λ (l : List Bool). Some (y, cursor (n + length l) rest)) (sym (same n y q));
}
