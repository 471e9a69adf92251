use Rattle.std.proofs.Common.{None, ap}
use Rattle.std.specs.Option.{option_map}
use Rattle.bit_texts.proofs.Reading.{Reads-None}
use Rattle.cavlc_macroblock.proofs.IntraChain.{after_flag, after_modes, no_chroma_mode}
use Rattle.cavlc_macroblock.proofs.prediction.read_intra.Goals as goal

pub returns-in_err-mb-2-clause-reads : goal.returns-in_err-mb-2-clause-reads
returns-in_err-mb-2-clause-reads g c =
    let left = g.B.BitSource.left in
    let shape = c.args.shape.now in
    let kind = c.args.kind in
    let old = c.args.mb.now in
    let t1 = left c.read_t8_if.new.bits in
    let t2 = left c.read_modes_if.new.bits in
    let t3 = left c.read_ue.new.b in
    Reads-None _ _ _ _ _ (ap (option_map _) c.from_residual-in_err-mb-2.ensures)
    (after_flag shape kind old c.sends_t8_first.result c.sends_t8_first.ensures c.in_ok-mb.field-0 (left c.args.bits.now) t1 c.in_ok-mb.ensures.reads None t3
    (after_modes shape kind old c.in_ok-mb.field-0 c.is_i_nxn.result c.is_i_nxn.ensures c.read_modes_if.new.modes t1 t2 c.in_ok-read_modes_if.ensures.reads None t3
    (no_chroma_mode shape kind old c.in_ok-mb.field-0 c.read_modes_if.new.modes c.requires t2 t3 t3 c.in_err-mb-2.ensures.reads)))
