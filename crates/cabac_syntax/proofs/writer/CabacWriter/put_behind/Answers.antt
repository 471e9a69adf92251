-- The macroblock is one of the slice, and is written behind those before.
use Rattle.std.proofs.Common.{subst, sym, ◌∙◌}
use Rattle.std.proofs.lemmas.Bool.{ltb-true}
use Rattle.h264_types.specs.Valid.{IsMacroblock}
use Rattle.cabac_syntax.specs.SliceData.{first_states}
use Rattle.cabac_syntax.specs.Written.{WritesIn}
use Rattle.cabac_syntax.proofs.StandsLaws.{stands_more}
use Rattle.cabac_syntax.proofs.PutLaws.{put_valid, put_room, put_shape, put_plain, put_residual, put_bins}
use Rattle.cabac_syntax.proofs.WroteLaws.{wrote_ended, wrote_plain, same_coder}
use Rattle.cabac_syntax.proofs.writer.CabacWriter.put_behind.Goals as goal

pub write_macroblock-requires-clause-valid : goal.write_macroblock-requires-clause-valid
write_macroblock-requires-clause-valid g c = let r = c.requires.1 in put_valid _ r.1 _ r.3 _ c.args.mb.now r.4 r.5

pub write_macroblock-requires-clause-shape : goal.write_macroblock-requires-clause-shape
write_macroblock-requires-clause-shape g c = let r = c.requires.1 in put_shape _ r.1 _ r.3 _ r.4

pub write_macroblock-requires-clause-ref0 : goal.write_macroblock-requires-clause-ref0
write_macroblock-requires-clause-ref0 g c = put_plain c.args.mb.now c.requires.0

pub write_macroblock-requires-clause-residual : goal.write_macroblock-requires-clause-residual
write_macroblock-requires-clause-residual g c =
    let r = c.requires.1 in
    put_residual _ c.args.mb.now c.requires.0 (put_valid _ r.1 _ r.3 _ c.args.mb.now r.4 r.5)

pub write_behind-requires-clause-ended : goal.write_behind-requires-clause-ended
write_behind-requires-clause-ended g c = λ pcm.
    let r = c.requires.1 in
    let s = r.4 in
    let start = first_states r.0 r.1 in
    let st = subst (λ p. WritesIn g.B.BitSink.bits p start r.1 r.2 r.3) c.in-Running.is s.place in
    let w = c.in-Ok.ensures.wrote start r.1 r.2 r.3 (c.count-at.ensures ∙ s.rows_are.counted) st in
    let is = put_valid _ r.1 _ r.3 _ c.args.mb.now r.4 r.5 in
    let put = put_bins start _ r.1 _ r.2 r.3 _ c.count-at.result c.args.mb.now c.write_flag.new.coder c.write_macroblock.new.s s (c.count-at.ensures, put_room _ r.1 _ r.3 _ c.args.mb.now s r.5) is c.in-Ok-write_macroblock.ensures.writes w in
    let taken = same_coder c.replace.result c.write_macroblock.new.s c.in-Running-replace.coder c.replace.ensures.value c.in-Running-replace.is in
    wrote_ended start r.1 r.2 _ c.in-Running-replace.coder (rw taken at put) (ltb-true _ _ (rw taken at (c.in-Ok-write_macroblock.ensures.over ∙ pcm)))

pub returns-then-is_i_pcm : goal.returns-then-is_i_pcm
returns-then-is_i_pcm g c = λ init shape before done s.
    let r = c.requires.1 in
    let start = first_states init shape in
    let st = subst (λ p. WritesIn g.B.BitSink.bits p start shape before done) c.in-Running.is s.place in
    let w = c.in-Ok.ensures.wrote start shape before done (c.count-at.ensures ∙ s.rows_are.counted) st in
    let is = put_valid _ r.1 _ r.3 _ c.args.mb.now r.4 r.5 in
    let room = put_room _ r.1 _ r.3 _ c.args.mb.now r.4 r.5 in
    let put = put_bins start _ shape _ before done _ c.count-at.result c.args.mb.now c.write_flag.new.coder c.write_macroblock.new.s s (c.count-at.ensures, room) is c.in-Ok-write_macroblock.ensures.writes w in
    let taken = same_coder c.replace.result c.write_macroblock.new.s c.in-Running-replace.coder c.replace.ensures.value c.in-Running-replace.is in
    let residual = put_residual _ c.args.mb.now c.requires.0 is in
    stands_more _ shape _ done _ _ c.count-at.result c.args.mb.now c.push.new.self s (c.count-at.ensures, room) (subst (λ x. IsMacroblock x c.args.mb.now) s.of is) residual (put_plain c.args.mb.now c.requires.0) c.push.ensures.rows
    (c.in_ok-next.ensures.wrote start shape before done is.sizes.pcm (rw taken at put))

pub returns : goal.returns
returns g c = λ init shape before done s.
    let r = c.requires.1 in
    let start = first_states init shape in
    let st = subst (λ p. WritesIn g.B.BitSink.bits p start shape before done) c.in-Running.is s.place in
    let w = c.in-Ok.ensures.wrote start shape before done (c.count-at.ensures ∙ s.rows_are.counted) st in
    let is = put_valid _ r.1 _ r.3 _ c.args.mb.now r.4 r.5 in
    let room = put_room _ r.1 _ r.3 _ c.args.mb.now r.4 r.5 in
    let put = put_bins start _ shape _ before done _ c.count-at.result c.args.mb.now c.write_flag.new.coder c.write_macroblock.new.s s (c.count-at.ensures, room) is c.in-Ok-write_macroblock.ensures.writes w in
    let residual = put_residual _ c.args.mb.now c.requires.0 is in
    stands_more _ shape _ done _ _ c.count-at.result c.args.mb.now c.push-2.new.self s (c.count-at.ensures, room) (subst (λ x. IsMacroblock x c.args.mb.now) s.of is) residual (put_plain c.args.mb.now c.requires.0) c.push-2.ensures.rows
    (wrote_plain start shape before done c.args.mb.now c.write_macroblock.new.s (sym c.is_i_pcm.ensures ∙ c.if-is_i_pcm.false) put)
