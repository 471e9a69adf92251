use Rattle.std.proofs.Common.{◌≡◌, ◌≤◌, ◌+◌, ◌-◌, ◌*◌, ◌%◌, ◌^◌, ap, ◌∙◌, refl, arith}
use Rattle.std.proofs.lemmas.Nat.{one_shl}
use Rattle.exp_golomb.proofs.BitVecs.{fits, same_word, word_fits, gathered, full_word_fits, then_over}
use Rattle.exp_golomb.proofs.bit_vec.BitVec.append_over.Goals as goal

pub overflow_add-self : goal.overflow_add-self
overflow_add-self c = word_fits c.self.inside.count c.self.inside.last c.args.n c.args.value c.self.invariant.1 c.requires.fits (omega (arith, c.if-count-lt64.true))

pub invariant_of-self-then-count-lt64 : goal.invariant_of-self-then-count-lt64
invariant_of-self-then-count-lt64 c =
    let room : c.self.inside.count + c.args.n ≤ 64 = omega (arith, c.if-count-lt64.true) in (
      c.if-count-lt64.true,
      rw (same_word c.self.inside.count c.self.inside.last c.args.n c.args.value c.self.invariant.1 c.requires.fits room) (fits c.self.inside.count c.self.inside.last c.args.n c.args.value c.self.invariant.1 c.requires.fits),
      λ some. omega (arith, c.in_ok-reserve.ensures.ok),
    )

pub returns-then-count-lt64-clause-ok : goal.returns-then-count-lt64-clause-ok
returns-then-count-lt64-clause-ok c =
    rw c.reserve.ensures.items (gathered c.self.inside.bytes.items c.self.inside.count c.self.inside.last c.args.n c.args.value c.args.self.now c.self.view_is c.self.invariant.1 c.requires.fits (omega (arith, c.if-count-lt64.true)))

pub overflow_add-word : goal.overflow_add-word
overflow_add-word c = full_word_fits c.self.inside.count c.self.inside.last _ c.args.n c.args.value refl c.if-count-lt64.false c.self.invariant.0 c.self.invariant.1 c.requires.fits

pub returns-clause-ok : goal.returns-clause-ok
returns-clause-ok c =
    let over = c.self.inside.count + c.args.n - 64 in
    let mask : 1 * 2 ^ over % 18446744073709551616 ≡ 2 ^ over = one_shl over 64 (omega (arith, c.self.invariant.0, c.requires.count)) in
    let word = c.in_ok-extend_from_slice.ensures.items ∙ rw (c.reserve.ensures.items, c.to_be_bytes.ensures) refl in
    then_over c.self.inside.bytes.items _ c.self.inside.count c.self.inside.last over c.args.n c.args.value _ _ c.args.self.now c.self.view_is refl c.if-count-lt64.false c.self.invariant.0 c.self.invariant.1 c.requires.fits refl word (ap (λ m. c.args.value % m) mask)
