use Rattle.std.proofs.Common.{ap}
use Rattle.std.specs.Option.{option_map}
use Rattle.h264_types.specs.declared.macroblock.Mb.{Mb}
use Rattle.cabac_macroblock.proofs.Puts.{unread}
use Rattle.cabac_macroblock.proofs.TypeSteps.{reads_layer, reads_no_layer}
use Rattle.cabac_macroblock.proofs.macroblock.read_layer.Goals as goal

pub returns-in_err-mb-clause-reads : goal.returns-in_err-mb-clause-reads
returns-in_err-mb-clause-reads g c mbs stands =
    unread _ _ _ _ _ (ap (option_map _) c.from_residual.ensures) (reads_no_layer g.S.BinSource.step c.args.shape.now mbs c.args.at c.args.mb.now.field _ _ (c.in_err-mb.ensures.reads mbs stands))

pub returns-clause-reads : goal.returns-clause-reads
returns-clause-reads g c mbs stands =
    reads_layer g.S.BinSource.step c.args.shape.now mbs c.args.at c.args.mb.now.field c.in_ok-mb.field-0 _ _ _ _ _ (ap (λ (m : Mb). record m { kind = c.in_ok-mb.field-0 }) c.requires.none) (c.in_ok-mb.ensures.reads mbs stands) (c.read_elements.ensures.reads mbs stands)
