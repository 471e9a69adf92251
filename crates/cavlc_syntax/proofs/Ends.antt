-- The stop bit and the end of a slice, read and written.
use Rattle.std.proofs.Common.{◌≡◌, ℕ, ◌+◌, ◌-◌, ◌%◌, Bool, true, false, List, [], ◌∷◌, ◌++◌, length, replicate, Some, None, refl, sym, ap, subst, ◌∙◌, length-append, append-nil, arith}
use Rattle.std.specs.Prelude.{if◌then◌else◌}
use Rattle.bit_texts.specs.Cursor.{Cursor, cursor, Takes}
use Rattle.bit_texts.specs.Readings.{Inverts}
use Rattle.bit_texts.specs.Texts.{Appended}
use Rattle.bit_texts.proofs.Inverting.{some_is, read_is, bind_some, Takes-then}
use Rattle.exp_golomb.specs.Code.{Flag}
use Rattle.exp_golomb.specs.Element.{element_at}
use Rattle.exp_golomb.proofs.Fronts.{element-inverts}
use Rattle.pcm_samples.specs.Alignment.{alignment, alignment_at}
use Rattle.pcm_samples.proofs.AlignmentLaws.{alignment_inverts, flag_takes}
use Rattle.cavlc_syntax.specs.SliceText.{stop_text}
use Rattle.cavlc_syntax.specs.Reading.{stop_at}

-- ---- reading

pub stop_is : (n : ℕ) → true ∷ alignment (n + 1) ≡ stop_text n
stop_is n = let e : (8 - (n + 1) % 8) % 8 ≡ 7 - n % 8 = omega arith in ap (λ (k : ℕ). true ∷ replicate k false) e

stop_then : (b : Bool) (c : Cursor) (x : Unit {0}) (d : Cursor) → (if b then alignment_at c else None) ≡ Some (x, d) → (b ≡ true) × (alignment_at c ≡ Some (x, d))
stop_then true c x d e = (refl, e)
stop_then false c x d e = absurd cc

stop_take : (c : Cursor) (x : Unit {0}) (d : Cursor) → stop_at c ≡ Some (x, d) → Takes (stop_text c.taken) c d
unfolding stop_at
stop_take c x d e =
    let step = bind_some (element_at Flag c) (λ bit. if bit.0 then alignment_at bit.1 else None) (x, d) e in
    let rest = stop_then step.0.0 step.0.1 x d step.2 in
    let one : Takes (true ∷ []) c step.0.1 = subst (λ (b : Bool). Takes (b ∷ []) c step.0.1) rest.0 (flag_takes c step.0.0 step.0.1 step.1) in
    let zeros : Takes (alignment (c.taken + 1)) step.0.1 d = subst (λ (n : ℕ). Takes (alignment n) step.0.1 d) one.count (alignment_inverts.takes step.0.1 x d rest.1).1 in
    subst (λ (l : List Bool). Takes l c d) (stop_is c.taken) (Takes-then c (true ∷ []) step.0.1 (alignment (c.taken + 1)) d one zeros)

stop_again : (n : ℕ) (rest : List Bool) → stop_at (cursor n (stop_text n ++ rest)) ≡ Some (tt, cursor (n + length (stop_text n)) rest)
unfolding stop_at
stop_again n rest =
    let e : n + 1 + length (alignment (n + 1)) ≡ n + length (stop_text n) = omega (arith, ap length (stop_is n)) in
    let first = (element-inverts Flag).again n true (alignment (n + 1) ++ rest) refl in
    ap (λ (l : List Bool). stop_at (cursor n (l ++ rest))) (sym (stop_is n)) ∙ rw first (alignment_inverts.again (n + 1) tt rest tt) ∙ ap (λ (k : ℕ). Some (tt, cursor k rest)) e

stop_inverts : Inverts (λ (x : Unit {0}). Unit {0}) (λ n x. stop_text n) stop_at
stop_inverts = record { takes = λ c x d e. (tt, stop_take c x d e); again = λ n x rest h. stop_again n rest }

-- with all the bits taken
at_stop : (c : Cursor) → c.left ≡ stop_text c.taken → stop_at c ≡ Some (tt, cursor (c.taken + length (stop_text c.taken)) [])
at_stop c e = read_is (λ (x : Unit {0}). Unit {0}) (λ n x. stop_text n) stop_at stop_inverts c tt (cursor (c.taken + length (stop_text c.taken)) []) tt (record { parts = e ∙ sym (append-nil (stop_text c.taken)); count = refl })

pub not_stop : (c : Cursor) → stop_at c ≡ None → c.left ≡ stop_text c.taken → ⊥
not_stop c e h = let there = at_stop c h in absurd cc

pub is_end : (c d : Cursor) → stop_at c ≡ Some (tt, d) → d.left ≡ [] → c.left ≡ stop_text c.taken
is_end c d e none = (stop_take c tt d e).parts ∙ ap (λ (l : List Bool). stop_text c.taken ++ l) none ∙ append-nil (stop_text c.taken)

pub more_than_end : (c d : Cursor) (b : Bool) (rest : List Bool) → stop_at c ≡ Some (tt, d) → d.left ≡ b ∷ rest → c.left ≡ stop_text c.taken → ⊥
more_than_end c d b rest e h left =
    let none : d.left ≡ [] = ap (λ (p : Unit {0} × Cursor). p.1.left) (some_is (tt, d) (tt, cursor (c.taken + length (stop_text c.taken)) []) (sym e ∙ at_stop c left)) in
    absurd cc

-- ---- writing

-- what stands behind the stop bit
pub stop_parts : (before put : List Bool) → Appended before put (true ∷ []) → stop_text (length before) ≡ (true ∷ []) ++ alignment (length put)
stop_parts before put one =
    let size : length put ≡ length before + 1 = ap length one.is ∙ length-append before (true ∷ []) in
    sym (stop_is (length before)) ∙ ap (λ (n : ℕ). true ∷ alignment n) (sym size)
