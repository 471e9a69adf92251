use Rattle.std.proofs.Common.{refl}
use Rattle.h264_types.specs.declared.slice_shape.SliceKind.TheVariants as slices
use Rattle.cabac_macroblock.proofs.TypeSteps.{flag_in}
use Rattle.cabac_macroblock.proofs.mb_type.read_skip.Goals as goal

pub returns-in-I-clause-reads : goal.returns-in-I-clause-reads
returns-in-I-clause-reads g c mbs stands = rw (flag_in c.args.shape.now mbs c.args.at c.args.mb.now slices.I _ c.in-I.is c.requires.picture refl) (refl, refl)

pub returns-in-P-clause-reads : goal.returns-in-P-clause-reads
returns-in-P-clause-reads g c mbs stands =
    rw (flag_in c.args.shape.now mbs c.args.at c.args.mb.now slices.P c.ctx_inc_skip.result c.in-P.is c.requires.picture (c.ctx_inc_skip.ensures.value mbs stands)) c.read_skip_p.ensures.reads

pub returns-in-B-clause-reads : goal.returns-in-B-clause-reads
returns-in-B-clause-reads g c mbs stands =
    rw (flag_in c.args.shape.now mbs c.args.at c.args.mb.now slices.B c.ctx_inc_skip-in-B.result c.in-B.is c.requires.picture (c.ctx_inc_skip-in-B.ensures.value mbs stands)) c.read_skip_b.ensures.reads
