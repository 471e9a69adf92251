-- Zero bits up to the byte boundary, read and written.
use Rattle.std.proofs.Common.{◌≡◌, ◌≢◌, ◌↔◌, ℕ, zero, suc, ◌+◌, ◌-◌, ◌%◌, Bool, true, false, List, [], ◌∷◌, ◌++◌, length, replicate, Some, None, refl, ap, subst, ◌∙◌, length-append, arith}
use Rattle.std.specs.Prelude.{IsTrue, if◌then◌else◌}
use Rattle.bit_texts.specs.Cursor.{Cursor, cursor, Takes}
use Rattle.bit_texts.specs.Readings.{Inverts}
use Rattle.bit_texts.specs.Texts.{Appended}
use Rattle.bit_texts.proofs.Inverting.{some_is, bind_some, Takes-then}
use Rattle.exp_golomb.specs.Code.{Flag}
use Rattle.exp_golomb.specs.Element.{element_at}
use Rattle.exp_golomb.proofs.Fronts.{element-inverts}
use Rattle.pcm_samples.specs.Alignment.{alignment}
use Rattle.pcm_samples.specs.Alignment.{zeros_at, alignment_at}

-- one bit before the boundary there is one bit less to it
gap_more : (n : ℕ) → n % 8 ≢ 0 → (8 - n % 8) % 8 ≡ suc ((8 - (n + 1) % 8) % 8)
gap_more n h = omega arith

pub not_aligned : (n : ℕ) → IsTrue false ↔ (n % 8 ≡ 0) → n % 8 ≢ 0
not_aligned n h e = let f : false ≡ true = h.1 e in absurd cc

pub flag_takes : (c : Cursor) (b : Bool) (d : Cursor) → element_at Flag c ≡ Some (b, d) → Takes (b ∷ []) c d
flag_takes c b d e = ((element-inverts Flag).takes c b d e).1

-- ---- reading

pub aligned_here : (c : Cursor) → c.taken % 8 ≡ 0 → alignment_at c ≡ Some (tt, c)
unfolding alignment_at zeros_at
aligned_here c e = rw e refl

pub aligned_later : (c d : Cursor) → c.taken % 8 ≢ 0 → element_at Flag c ≡ Some (false, d) → alignment_at c ≡ alignment_at d
unfolding alignment_at zeros_at
aligned_later c d h e =
    let gap : (8 - c.taken % 8) % 8 ≡ suc ((8 - d.taken % 8) % 8) = rw (flag_takes c false d e).count (gap_more c.taken h) in
    rw (gap, e) refl

pub aligned_by_one : (c d : Cursor) → c.taken % 8 ≢ 0 → element_at Flag c ≡ Some (true, d) → alignment_at c ≡ None
unfolding alignment_at zeros_at
aligned_by_one c d h e = rw (gap_more c.taken h, e) refl

pub aligned_cut : (c : Cursor) → c.taken % 8 ≢ 0 → element_at Flag c ≡ None → alignment_at c ≡ None
unfolding alignment_at zeros_at
aligned_cut c h e = rw (gap_more c.taken h, e) refl

-- a flag of 1 is no zero bit
zeros_then : (n : ℕ) (b : Bool) (x : Unit {0}) (rest : Cursor) (d : Cursor) → (if b then None else zeros_at n rest) ≡ Some (x, d) → (b ≡ false) × (zeros_at n rest ≡ Some (x, d))
zeros_then n true x rest d e = absurd cc
zeros_then n false x rest d e = (refl, e)

zeros_take : (k : ℕ) (c : Cursor) (x : Unit {0}) (d : Cursor) → zeros_at k c ≡ Some (x, d) → Takes (replicate k false) c d
unfolding zeros_at
zeros_take zero c x d e =
    let same : ◌≡◌ {A = Unit {0} × Cursor} (tt, c) (x, d) = some_is (tt, c) (x, d) e in
    subst (λ (y : Unit {0} × Cursor). Takes [] c y.1) same (record { parts = refl; count = omega arith })
zeros_take (suc k) c x d e =
    let step = bind_some (element_at Flag c) (λ bit. if bit.0 then None else zeros_at k bit.1) (x, d) e in
    let rest = zeros_then k step.0.0 x step.0.1 d step.2 in
    let both = Takes-then c (step.0.0 ∷ []) step.0.1 (replicate k false) d (flag_takes c step.0.0 step.0.1 step.1) (zeros_take k step.0.1 x d rest.1) in
    subst (λ (b : Bool). Takes (b ∷ replicate k false) c d) rest.0 both

zeros_again : (k n : ℕ) (rest : List Bool) → zeros_at k (cursor n (replicate k false ++ rest)) ≡ Some (tt, cursor (n + length (replicate k false)) rest)
unfolding zeros_at
zeros_again zero n rest = let e : n + 0 ≡ n = omega arith in rw e refl
zeros_again (suc k) n rest =
    let first = (element-inverts Flag).again n false (replicate k false ++ rest) refl in
    let e : n + 1 + length (replicate k false) ≡ n + suc (length (replicate k false)) = omega arith in
    rw (first, zeros_again k (n + 1) rest, e) refl

pub alignment_inverts : Inverts (λ (x : Unit {0}). Unit {0}) (λ n x. alignment n) alignment_at
unfolding alignment_at
alignment_inverts = record {
  takes = λ c x d e. (tt, zeros_take ((8 - c.taken % 8) % 8) c x d e);
  again = λ n x rest h. zeros_again ((8 - n % 8) % 8) n rest;
}

-- ---- writing

-- a zero bit put before the boundary is the first of the alignment
pub alignment_more : (now new : List Bool) → length now % 8 ≢ 0 → Appended now new (false ∷ []) → alignment (length now) ≡ (false ∷ []) ++ alignment (length new)
alignment_more now new h put =
    let size : length new ≡ length now + 1 = ap length put.is ∙ length-append now (false ∷ []) in
    let gap : (8 - length now % 8) % 8 ≡ suc ((8 - length new % 8) % 8) = rw size (gap_more (length now) h) in
    rw gap refl
