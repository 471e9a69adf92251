use Rattle.std.proofs.Common.{refl}
use Rattle.h264_types.specs.declared.slice_shape.SliceKind.TheVariants as slices
use Rattle.binarisation.proofs.Strings.{on_ok}
use Rattle.cabac_macroblock.proofs.TypeSteps.{number_in, writes_type}
use Rattle.cabac_macroblock.proofs.mb_type.write_type.Goals as goal

pub returns-in-I-clause-writes : goal.returns-in-I-clause-writes
returns-in-I-clause-writes g c mbs stands = on_ok c.write_type_i.result
    (λ written. writes_type g.S.BinSink.step c.args.shape.now mbs c.args.at c.args.mb.now.field c.number_of-number.result c.args.mb.now.kind _ _ c.number_of-number.ensures
    (rw (number_in c.args.shape.now mbs c.args.at c.args.mb.now slices.I c.ctx_inc_type_i.result _ c.in-I.is c.requires.picture (c.ctx_inc_type_i.ensures.value mbs stands) refl) written)) c.write_type_i.ensures.writes

pub returns-in-P-clause-writes : goal.returns-in-P-clause-writes
returns-in-P-clause-writes g c mbs stands = on_ok c.write_type_p.result
    (λ written. writes_type g.S.BinSink.step c.args.shape.now mbs c.args.at c.args.mb.now.field c.number_of-number.result c.args.mb.now.kind _ _ c.number_of-number.ensures
    (rw (number_in c.args.shape.now mbs c.args.at c.args.mb.now slices.P _ _ c.in-P.is c.requires.picture refl refl) written)) c.write_type_p.ensures.writes

pub returns-in-B-clause-writes : goal.returns-in-B-clause-writes
returns-in-B-clause-writes g c mbs stands = on_ok c.write_type_b.result
    (λ written. writes_type g.S.BinSink.step c.args.shape.now mbs c.args.at c.args.mb.now.field c.number_of-number.result c.args.mb.now.kind _ _ c.number_of-number.ensures
    (rw (number_in c.args.shape.now mbs c.args.at c.args.mb.now slices.B _ c.ctx_inc_type_b.result c.in-B.is c.requires.picture refl (c.ctx_inc_type_b.ensures.value mbs stands)) written)) c.write_type_b.ensures.writes
