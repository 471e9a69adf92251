-- The slice as it stands is what is written for it.
use Rattle.std.proofs.Common.{◌∙◌, ◌++◌, ap}
use Rattle.bit_texts.specs.Bits.{bits_of}
use Rattle.slice_rewrite.proofs.AsItStands.{stands}
use Rattle.slice_rewrite.proofs.opening.OpenSlice.as_it_stands.Goals as goal

pub returns-clause-ok : goal.returns-clause-ok
returns-clause-ok c sets header bits r =
    let bytes = c.bytes-bytes.result.now in
    let kept = c.bytes-bytes.ensures ∙ r.kept in
    let payload = c.in_ok-extend_from_slice.ensures.items ∙ ap (λ v. v ++ bytes) c.in_ok-payload.ensures.items in
    stands c.args.to c.args.init.now c.args.number c.args.idc sets header bits c.args.self.now c.extend_from_slice.new.self.items c.in-Some.macroblocks c.requires.idc r
    (c.has_header_as_written.ensures sets header bits r c.if-not-has_header_as_written.false) (rw c.in-Some.is at c.in_ok-macroblocks.ensures.ok)
    (λ front e. c.ends_in_data.ensures c.if-not-ends_in_data.false front (kept ∙ e)) (ap bits_of payload ∙ kept)
