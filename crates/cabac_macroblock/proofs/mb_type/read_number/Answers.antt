use Rattle.std.proofs.Common.{refl}
use Rattle.h264_types.specs.declared.slice_shape.SliceKind.TheVariants as slices
use Rattle.cabac_macroblock.proofs.TypeSteps.{number_in}
use Rattle.cabac_macroblock.proofs.mb_type.read_number.Goals as goal

pub returns-in-I-clause-reads : goal.returns-in-I-clause-reads
returns-in-I-clause-reads g c mbs stands =
    rw (number_in c.args.shape.now mbs c.args.at c.args.mb.now slices.I c.ctx_inc_type_i.result _ c.in-I.is c.requires.picture (c.ctx_inc_type_i.ensures.value mbs stands) refl) c.read_type_i.ensures.reads

pub returns-in-P-clause-reads : goal.returns-in-P-clause-reads
returns-in-P-clause-reads g c mbs stands = rw (number_in c.args.shape.now mbs c.args.at c.args.mb.now slices.P _ _ c.in-P.is c.requires.picture refl refl) c.read_type_p.ensures.reads

pub returns-in-B-clause-reads : goal.returns-in-B-clause-reads
returns-in-B-clause-reads g c mbs stands =
    rw (number_in c.args.shape.now mbs c.args.at c.args.mb.now slices.B _ c.ctx_inc_type_b.result c.in-B.is c.requires.picture refl (c.ctx_inc_type_b.ensures.value mbs stands)) c.read_type_b.ensures.reads
