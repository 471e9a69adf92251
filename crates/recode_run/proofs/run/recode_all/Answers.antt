use Rattle.std.proofs.Common.{◌≡◌, ◌≢◌, ◌≤◌, ◌<◌, ◌+◌, ◌-◌, List, ℕ, [], min, take, arith, refl, sym, subst}
use Rattle.std.proofs.lemmas.List.{length-take-le}
use Rattle.std.specs.Io.KnownBytes.{Consumes}
use Rattle.stream_recoder.specs.Recoder.{options_of}
use Rattle.recode_run.proofs.Reading.{reads-none, reads-more, read_fault, too_much, step_ends, finish_ends, finished, no_read_fault}
use Rattle.recode_run.proofs.run.recode_all.Goals as goal

-- a read of nothing took nothing
none_read : (P : List ℕ → Type 0) (n : ℕ) (buf : List ℕ) → n ≡ 0 → P (take n buf) → P []
none_read P n buf e h = let Q : ℕ → Type 0 = λ k. P (take k buf) in subst Q e h

-- a read stays within the bound
within_bound : (taken bound room n : ℕ) → taken ≤ bound → taken ≢ bound → (0 < bound - taken → room ≡ min (bound - taken) 65536) → n ≤ room → taken + n ≤ bound
within_bound taken bound room n le ne h k =
    let some : 0 < bound - taken = omega arith in
    omega (arith, h some)

pub reading-init : goal.reading-init
reading-init g c = record {
  reads = reads-none g.P.InitPick.tried g.P.InitPick.step (options_of g.P.InitPick.tried c.args.recoder.now) (g.S.Source.left c.args.src.now) (g.K.Sink.held c.args.out.now) c.args.recoder.now c.args.account.now
      record { first = c.requires.ready.0.0; recodes = c.requires.ready.0.1; none = c.requires.ready.1; options = refl } c.requires.none;
  within = omega arith;
  read = omega arith;
  write = omega arith;
}

pub returns-in-Err-clause-ends : goal.returns-in-Err-clause-ends
returns-in-Err-clause-ends g c =
    let i = c.reading.invariant in
    let left = g.S.Source.left in
    let held = g.K.Sink.held in
    read_fault g.P.InitPick.tried g.P.InitPick.step (options_of g.P.InitPick.tried c.args.recoder.now) (left c.args.src.now) (left c.reading.src) (left c.read_some.new.src) (held c.args.out.now) (held c.reading.out) c.reading.recoder c.reading.account c.reading.taken c.args.bound
    i.reads i.within c.in-Err.ensures.bytes

pub returns-in-Err-ended-clause-ends : goal.returns-in-Err-ended-clause-ends
returns-in-Err-ended-clause-ends g c =
    let i = c.reading.invariant in
    let left = g.S.Source.left in
    let held = g.K.Sink.held in
    let o = options_of g.P.InitPick.tried c.args.recoder.now in
    let k = c.in-Ok.ensures.bytes in
    let P : List ℕ → Type 0 = Consumes (left c.reading.src) (left c.read_some.new.src) in
    finish_ends g.P.InitPick.tried g.P.InitPick.step o (left c.args.src.now) (left c.reading.src) (left c.read_some.new.src) (held c.args.out.now) (held c.reading.out) (held c.step-ended.new.out) c.reading.recoder c.reading.account c.step-ended.new.account c.reading.taken c.args.bound c.in-Err-ended.status
    i.reads i.within (none_read P c.in-Ok.count c.read_some.new.buf c.if-count-eq0.true k.2) (k.3 c.if-count-eq0.true) (c.in-Err-ended.ensures.err o)

pub returns-in-Err-ended-clause-read : goal.returns-in-Err-ended-clause-read
returns-in-Err-ended-clause-read g c =
    let i = c.reading.invariant in
    let held = g.K.Sink.held in
    let o = options_of g.P.InitPick.tried c.args.recoder.now in
    no_read_fault o (held c.reading.out) (held c.step-ended.new.out) i.reads.written _ c.in-Err-ended.status (c.in-Err-ended.ensures.err o i.reads.fed i.reads.written i.reads.ready)

pub returns-in-Ok-ended-clause-ends : goal.returns-in-Ok-ended-clause-ends
returns-in-Ok-ended-clause-ends g c =
    let i = c.reading.invariant in
    let left = g.S.Source.left in
    let held = g.K.Sink.held in
    let o = options_of g.P.InitPick.tried c.args.recoder.now in
    let k = c.in-Ok.ensures.bytes in
    let P : List ℕ → Type 0 = Consumes (left c.reading.src) (left c.read_some.new.src) in
    finished g.P.InitPick.tried g.P.InitPick.step o (left c.args.src.now) (left c.reading.src) (left c.read_some.new.src) (held c.args.out.now) (held c.reading.out) (held c.step-ended.new.out) c.reading.recoder c.step-ended.new.recoder c.reading.account c.step-ended.new.account c.reading.taken c.args.bound
    i.reads i.within (none_read P c.in-Ok.count c.read_some.new.buf c.if-count-eq0.true k.2) (k.3 c.if-count-eq0.true) (c.in-Ok-ended.ensures.ok o)

pub returns-then-taken-bound-clause-ends : goal.returns-then-taken-bound-clause-ends
returns-then-taken-bound-clause-ends g c =
    let i = c.reading.invariant in
    let left = g.S.Source.left in
    let held = g.K.Sink.held in
    let k = c.in-Ok.ensures.bytes in
    let same = length-take-le c.in-Ok.count c.read_some.new.buf k.1 in
    let none : c.args.bound - c.reading.taken ≡ 0 = omega (arith, c.if-taken-bound.true) in
    let one : c.room_for-room.result ≡ 1 = c.room_for-room.ensures.one none in
    too_much g.P.InitPick.tried g.P.InitPick.step (options_of g.P.InitPick.tried c.args.recoder.now) (left c.args.src.now) (left c.reading.src) (left c.read_some.new.src) (held c.args.out.now) (held c.reading.out) c.reading.recoder c.reading.account c.reading.taken c.args.bound (take c.in-Ok.count c.read_some.new.buf)
    i.reads c.if-taken-bound.true k.2 (omega (arith, same, k.0, one, c.if-count-eq0.false))

pub returns-in-Err-step-clause-ends : goal.returns-in-Err-step-clause-ends
returns-in-Err-step-clause-ends g c =
    let i = c.reading.invariant in
    let left = g.S.Source.left in
    let held = g.K.Sink.held in
    let o = options_of g.P.InitPick.tried c.args.recoder.now in
    let k = c.in-Ok.ensures.bytes in
    let piece : List ℕ = take c.in-Ok.count c.read_some.new.buf in
    let same = length-take-le c.in-Ok.count c.read_some.new.buf k.1 in
    let room = c.room_for-room.ensures in
    let fits : c.reading.taken + c.in-Ok.count ≤ c.args.bound =
    within_bound c.reading.taken c.args.bound c.room_for-room.result c.in-Ok.count i.within c.if-taken-bound.false room.most k.0 in
    step_ends g.P.InitPick.tried g.P.InitPick.step o (left c.args.src.now) (left c.reading.src) (left c.read_some.new.src) (held c.args.out.now) (held c.reading.out) (held c.step.new.out) c.reading.recoder c.reading.account c.step.new.account c.reading.taken c.in-Ok.count c.args.bound piece c.in-Err-step.status
    i.reads k.2 (sym same) (omega (arith, k.0, room.fits)) fits (c.in-Err-step.ensures.err o)

pub returns-in-Err-step-clause-read : goal.returns-in-Err-step-clause-read
returns-in-Err-step-clause-read g c =
    let i = c.reading.invariant in
    let held = g.K.Sink.held in
    let o = options_of g.P.InitPick.tried c.args.recoder.now in
    no_read_fault o (held c.reading.out) (held c.step.new.out) i.reads.written _ c.in-Err-step.status (c.in-Err-step.ensures.err o i.reads.fed i.reads.written i.reads.ready)

pub reading-preserved : goal.reading-preserved
reading-preserved g c =
    let i = c.reading.invariant in
    let left = g.S.Source.left in
    let held = g.K.Sink.held in
    let o = options_of g.P.InitPick.tried c.args.recoder.now in
    let k = c.in-Ok.ensures.bytes in
    let piece : List ℕ = take c.in-Ok.count c.read_some.new.buf in
    let same = length-take-le c.in-Ok.count c.read_some.new.buf k.1 in
    record {
      reads = reads-more g.P.InitPick.tried g.P.InitPick.step o (left c.args.src.now) (left c.reading.src) (left c.read_some.new.src) (held c.args.out.now) (held c.reading.out) (held c.step.new.out) c.reading.recoder c.step.new.recoder c.reading.account c.read.new.self c.step.new.account c.reading.taken c.in-Ok.count piece
          i.reads k.2 (sym same) c.read.ensures (c.in_default.ensures.ok o);
      within = within_bound c.reading.taken c.args.bound c.room_for-room.result c.in-Ok.count i.within c.if-taken-bound.false c.room_for-room.ensures.most k.0;
      read = omega (arith, i.read, c.read_some.ensures.cause.later);
      write = omega (arith, i.write, c.step.ensures.later);
    }
