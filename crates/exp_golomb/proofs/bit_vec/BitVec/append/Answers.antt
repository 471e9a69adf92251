use Rattle.std.proofs.Common.{◌≤◌, ◌+◌, arith}
use Rattle.exp_golomb.proofs.BitVecs.{fits, same_word, word_fits, gathered}
use Rattle.exp_golomb.proofs.bit_vec.BitVec.append.Goals as goal

pub overflow_add-self : goal.overflow_add-self
overflow_add-self c = word_fits c.self.inside.count c.self.inside.last c.args.n c.args.value c.self.invariant.1 c.requires.fits (omega (arith, c.if-count-gt63.false))

pub invariant_of-self : goal.invariant_of-self
invariant_of-self c =
    let room : c.self.inside.count + c.args.n ≤ 64 = omega (arith, c.if-count-gt63.false) in (
      omega (arith, c.if-count-gt63.false),
      rw (same_word c.self.inside.count c.self.inside.last c.args.n c.args.value c.self.invariant.1 c.requires.fits room) (fits c.self.inside.count c.self.inside.last c.args.n c.args.value c.self.invariant.1 c.requires.fits),
      λ some. c.self.invariant.2 (omega (arith, c.if-self-eq0.false)),
    )

pub returns-clause-ok : goal.returns-clause-ok
returns-clause-ok c = gathered c.self.inside.bytes.items c.self.inside.count c.self.inside.last c.args.n c.args.value c.args.self.now c.self.view_is c.self.invariant.1 c.requires.fits (omega (arith, c.if-count-gt63.false))
