-- A macroblock is read, or no list has the bits.
use Rattle.std.proofs.Common.{subst, sym, ◌∙◌}
use Rattle.cabac_syntax.specs.SliceData.{first_states}
use Rattle.cabac_syntax.specs.Standing.{Stands, Knows, IsNext}
use Rattle.cabac_syntax.proofs.MacroblockLaws.{know_plain}
use Rattle.cabac_syntax.proofs.ReaderLaws.{next_none, next_behind, next_given, same_coder, plain_sampled}
use Rattle.cabac_syntax.proofs.reader.CabacReader.read_next.Goals as goal

pub returns-in_default-read_macroblock : goal.returns-in_default-read_macroblock
returns-in_default-read_macroblock g c = λ coder init shape pos all done is s.
    let r = c.args.self.now in
    let start = first_states init shape in
    let at = subst (λ d. Stands r.shape r.rows shape done (Knows start shape pos all (IsNext shape done) d)) (same_coder r.phase coder c.in-Running.coder is c.in-Running.is) s in
    next_none start r.shape shape r.rows pos all done c.count-at.result c.in-Running.coder c.read_macroblock.new.s at (c.count-at.ensures, c.if-not-has_room.ensures) c.in_default-read_macroblock.ensures.reads

pub returns-in_default-read_behind : goal.returns-in_default-read_behind
returns-in_default-read_behind g c = λ coder init shape pos all done is s.
    let r = c.args.self.now in
    let start = first_states init shape in
    let read = c.read_macroblock.new.mb in
    let at = subst (λ d. Stands r.shape r.rows shape done (Knows start shape pos all (IsNext shape done) d)) (same_coder r.phase coder c.in-Running.coder is c.in-Running.is) s in
    let taken = same_coder c.replace.result c.read_macroblock.new.s c.in-Running-replace.coder c.replace.ensures.value c.in-Running-replace.is in
    let k = next_behind start r.shape shape r.rows pos all done c.count-at.result read c.in-Running.coder c.read_macroblock.new.s at (c.count-at.ensures, c.if-not-has_room.ensures) c.in-Some.ensures.reads in
    c.in_default-read_behind.ensures.knows start shape pos all done (rw taken at k.0) k.1

pub returns-then-is_i_pcm : goal.returns-then-is_i_pcm
returns-then-is_i_pcm g c = λ coder init shape pos all done is s.
    let r = c.args.self.now in
    let start = first_states init shape in
    let read = c.read_macroblock.new.mb in
    let at = subst (λ d. Stands r.shape r.rows shape done (Knows start shape pos all (IsNext shape done) d)) (same_coder r.phase coder c.in-Running.coder is c.in-Running.is) s in
    let taken = same_coder c.replace.result c.read_macroblock.new.s c.in-Running-replace.coder c.replace.ensures.value c.in-Running-replace.is in
    let k = next_behind start r.shape shape r.rows pos all done c.count-at.result read c.in-Running.coder c.read_macroblock.new.s at (c.count-at.ensures, c.if-not-has_room.ensures) c.in-Some.ensures.reads in
    let given =
    next_given start r.shape shape r.rows pos all done c.count-at.result read c.read_behind.new.mb c.in-Running.coder c.read_macroblock.new.s c.in-Some-read_behind.next c.push.new.self at (c.count-at.ensures, c.if-not-has_room.ensures) c.in-Some.ensures.reads
    c.in-Some-read_behind.ensures.sampled (c.in-Some-read_behind.ensures.knows start shape pos all done (rw taken at k.0) k.1) c.push.ensures.rows in
    (given.0, record { begins = given.1.begins; only = given.1.only })

pub returns : goal.returns
returns g c = λ coder init shape pos all done is s.
    let r = c.args.self.now in
    let start = first_states init shape in
    let read = c.read_macroblock.new.mb in
    let at = subst (λ d. Stands r.shape r.rows shape done (Knows start shape pos all (IsNext shape done) d)) (same_coder r.phase coder c.in-Running.coder is c.in-Running.is) s in
    let other = sym c.is_i_pcm.ensures ∙ c.if-is_i_pcm.false in
    let k = next_behind start r.shape shape r.rows pos all done c.count-at.result read c.in-Running.coder c.read_macroblock.new.s at (c.count-at.ensures, c.if-not-has_room.ensures) c.in-Some.ensures.reads in
    let given =
    next_given start r.shape shape r.rows pos all done c.count-at.result read read c.in-Running.coder c.read_macroblock.new.s c.read_macroblock.new.s c.push-2.new.self at (c.count-at.ensures, c.if-not-has_room.ensures) c.in-Some.ensures.reads
    (plain_sampled read other) (know_plain start shape pos all done read c.read_macroblock.new.s k.0 other k.1) c.push-2.ensures.rows in
    (given.0, record { begins = given.1.begins; only = given.1.only })
