use Rattle.std.proofs.Common.{◌≡◌, false, true, [], ◌∷◌, None, drop, length, get_or, sym, arith}
use Rattle.exp_golomb.specs.EmulationPrevention.{is_low_or_end, payload_of}
use Rattle.exp_golomb.proofs.Escapes.{payload_of-high}
use Rattle.annexb_units.specs.Zeros.{payload_behind}
use Rattle.annexb_units.proofs.Zeros.{reads_end, reads_alone, with_zeros, zeros_end, zeros_bad, zeros_open, zeros_three}
use Rattle.annexb_units.proofs.unescaping.zeros_at.Goals as goal

pub returns-then-bytes-eq1 : goal.returns-then-bytes-eq1
returns-then-bytes-eq1 c = reads_end c.args.bytes.now c.requires.zero c.if-bytes-eq1.true

pub returns-then-bytes-ne0 : goal.returns-then-bytes-ne0
returns-then-bytes-ne0 c = reads_alone c.args.bytes.now c.requires.some c.requires.zero c.if-bytes-eq1.false c.if-bytes-ne0.true

pub returns-then-not-is_low_at : goal.returns-then-not-is_low_at
returns-then-not-is_low_at c =
    with_zeros (λ xs. false ≡ is_low_or_end (drop 2 xs) → payload_of xs ≡ payload_behind (0 ∷ []) (drop 1 xs)) (λ ys h. payload_of-high ys (sym h)) c.args.bytes.now c.requires.some c.requires.zero c.if-bytes-eq1.false c.if-bytes-ne0.false c.if-not-is_low_at.ensures

pub returns-then-bytes-eq2 : goal.returns-then-bytes-eq2
returns-then-bytes-eq2 c =
    with_zeros (λ xs. length xs ≡ 2 → payload_of xs ≡ None) zeros_end c.args.bytes.now c.requires.some c.requires.zero c.if-bytes-eq1.false c.if-bytes-ne0.false c.if-bytes-eq2.true

pub returns-then-bytes-ne3 : goal.returns-then-bytes-ne3
returns-then-bytes-ne3 c =
    with_zeros (λ xs. (length xs ≡ 2 → ⊥) → true ≡ is_low_or_end (drop 2 xs) → (get_or xs 2 0 ≡ 3 → ⊥) → payload_of xs ≡ None) zeros_bad c.args.bytes.now c.requires.some c.requires.zero c.if-bytes-eq1.false c.if-bytes-ne0.false c.if-bytes-eq2.false c.if-not-is_low_at.ensures c.if-bytes-ne3.true

pub returns-then-not-is_low_at-2 : goal.returns-then-not-is_low_at-2
returns-then-not-is_low_at-2 c =
    with_zeros (λ xs. (length xs ≡ 2 → ⊥) → get_or xs 2 0 ≡ 3 → false ≡ is_low_or_end (drop 3 xs) → payload_of xs ≡ None) zeros_open c.args.bytes.now c.requires.some c.requires.zero c.if-bytes-eq1.false c.if-bytes-ne0.false c.if-bytes-eq2.false c.if-bytes-ne3.false c.if-not-is_low_at-2.ensures

pub returns : goal.returns
returns c = (
  omega (arith, c.requires.some, c.if-bytes-eq1.false, c.if-bytes-eq2.false),
  with_zeros (λ xs. (length xs ≡ 2 → ⊥) → get_or xs 2 0 ≡ 3 → true ≡ is_low_or_end (drop 3 xs) → payload_of xs ≡ payload_behind (0 ∷ 0 ∷ []) (drop 3 xs)) zeros_three c.args.bytes.now c.requires.some c.requires.zero c.if-bytes-eq1.false c.if-bytes-ne0.false c.if-bytes-eq2.false c.if-bytes-ne3.false c.if-not-is_low_at-2.ensures,
)
