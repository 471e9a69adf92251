-- The macroblock that is put is the written form of the one that is lent.
use Rattle.std.proofs.Common.{◌≡◌, ◌++◌, ◌∷◌, [], false, true, ◌&&◌, Err, sym, ap, subst, ◌∙◌}
use Rattle.std.proofs.lemmas.Bool.{false≢true}
use Rattle.h264_types.specs.Valid.{is_ref0}
use Rattle.h264_types.specs.declared.macroblock.Mb.{Mb}
use Rattle.slice_data.specs.WrittenForm.{has_ref0}
use Rattle.slice_data.specs.Writing.{MayPut, PutGives}
use Rattle.slice_data.specs.declared.fault.PutFault.{PutFault}
use Rattle.slice_rewrite.specs.Stops.{is_level_beyond}
use Rattle.slice_rewrite.proofs.Normal.{same_written}
use Rattle.slice_rewrite.proofs.Stops.{stops_by_levels}
use Rattle.slice_rewrite.proofs.put.put_written.Goals as goal

pub put-requires : goal.put-requires
put-requires g c =
    let to = g.W.SliceWriter.LAYER in
    let same = same_written to c.args.mb.now c.normalise.new.mb c.is_ref0_in-mb.result c.in-Ok.ensures.normal (c.is_ref0_in-mb.ensures ∙ ap (λ l. has_ref0 l && is_ref0 c.normalise.new.mb) c.LAYER.ensures) in
    let P : Mb → Type 0 = λ m. MayPut to g.W.SliceWriter.writes c.args.writer.now m in
    subst P (sym same) (c.requires.next (λ gone. false≢true (c.in-Ok.ensures.emptied.1 gone)))

pub returns-in-Ok-put : goal.returns-in-Ok-put
returns-in-Ok-put g c init shape before done w =
    let to = g.W.SliceWriter.LAYER in
    let put = c.in-Ok-put.ensures init shape before done w in
    let same = same_written to c.args.mb.now c.normalise.new.mb c.is_ref0_in-mb.result c.in-Ok.ensures.normal (c.is_ref0_in-mb.ensures ∙ ap (λ l. has_ref0 l && is_ref0 c.normalise.new.mb) c.LAYER.ensures) in
    let N : Mb → Type 0 = λ m. is_level_beyond to shape m ≡ false in
    let W : Mb → Type 0 = λ m. g.W.SliceWriter.writes init c.put.new.self shape before (done ++ m ∷ []) in
    let now : Mb = record c.normalise.new.mb { ref0 = c.is_ref0_in-mb.result } in
    (stops_by_levels to shape c.args.mb.now false (λ gone. false≢true (c.in-Ok.ensures.emptied.1 gone)) (subst N same (sym (c.requires.levels shape now) ∙ put.0)), subst W same put.1)

pub returns-in-Err-Beyond : goal.returns-in-Err-Beyond
returns-in-Err-Beyond g c init shape before done w =
    let to = g.W.SliceWriter.LAYER in
    let same = same_written to c.args.mb.now c.normalise.new.mb c.is_ref0_in-mb.result c.in-Ok.ensures.normal (c.is_ref0_in-mb.ensures ∙ ap (λ l. has_ref0 l && is_ref0 c.normalise.new.mb) c.LAYER.ensures) in
    let now : Mb = record c.normalise.new.mb { ref0 = c.is_ref0_in-mb.result } in
    let Q : PutFault → Type 0 = λ fault. PutGives g.W.SliceWriter.is_beyond (g.W.SliceWriter.writes init) c.put.new.self shape before done now (Err fault) in
    let put = subst Q c.in-Err-Beyond.field-0-is (c.in-Err-Beyond.ensures init shape before done w) in
    let B : Mb → Type 0 = λ m. is_level_beyond to shape m ≡ true in
    (stops_by_levels to shape c.args.mb.now true (λ gone. false≢true (c.in-Ok.ensures.emptied.1 gone)) (subst B same (sym (c.requires.levels shape now) ∙ put.0)), put.1)
