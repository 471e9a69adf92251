-- A slice that was opened is written under the number that slices of the range name.
use Rattle.std.proofs.Common.{◌≡◌, ◌∙◌, ◌∷◌, ℕ, ◌-◌, true, false, Option, Some, None, ap, refl, inr}
use Rattle.std.specs.Prelude.{is_some}
use Rattle.std.proofs.lemmas.Result.{err_from_is_err_and}
use Rattle.bit_texts.specs.Bits.{bits_of, bytes_of}
use Rattle.exp_golomb.specs.EmulationPrevention.{escaped}
use Rattle.slice_rewrite.specs.Periods.{number_in}
use Rattle.slice_rewrite.specs.Written.{with_start_code, slice_under}
use Rattle.slice_rewrite.proofs.ComesBack.{slice_payload}
use Rattle.slice_rewrite.proofs.Picked.{has_escape}
use Rattle.stream_recoder.proofs.UnitForms.{recoded}
use Rattle.stream_recoder.proofs.unit_form.recoded_form.Goals as goal
use Rattle.stream_recoder.proofs.unit_form.recoded_form.Goals.{then-is_some, else-is_some}

partial : (range : Option (ℕ × ℕ)) (number own own' : ℕ) → true ≡ is_some range → number ≡ 255 - own → own ≡ own' → number ≡ number_in range own'
partial (Some range) number own own' e is same = is ∙ ap (λ n. 255 - n) same
partial None number own own' e is same = absurd (cc)

whole : (range : Option (ℕ × ℕ)) (number own own' : ℕ) → false ≡ is_some range → number ≡ own → own ≡ own' → number ≡ number_in range own'
whole (Some range) number own own' e is same = absurd (cc)
whole None number own own' e is same = is ∙ same

pub payload_unit-requires : goal.payload_unit-requires
payload_unit-requires g c =
    let r = c.requires in
    let f = (c.in_ok-slice.ensures.ok r.0 c.args.header r.1 r.2).form in
    let bits = bits_of c.in_ok-slice.slice.payload.items in
    let written = slice_under c.args.plan.to c.if-is_some.number f.idc f.slice in
    has_escape c.as_slice.result.now bits (slice_payload c.args.init.now written bits f.written) (ap bits_of c.as_slice.ensures.value)

pub returns-in_err-bytes-clause-pick : goal.returns-in_err-bytes-clause-pick
returns-in_err-bytes-clause-pick g c = λ sets bits r.
    let P = g.P.InitPick in
    let own = c.args.opened.now.header.pic_parameter_set_id in
    let number : c.if-is_some.number ≡ number_in c.args.plan.range own = elim c.if-is_some.branch [
      | then-is_some w ↦ partial c.args.plan.range c.if-is_some.number c.pps_number-own.result own w.if-is_some.ensures w.number-is c.pps_number-own.ensures
      | else-is_some w ↦ whole c.args.plan.range c.if-is_some.number c.pps_number-own.result own w.if-is_some.ensures w.number-is c.pps_number-own.ensures
    ] in
    let slice = c.in_ok-slice.slice in
    let form = with_start_code (c.args.header ∷ escaped (bytes_of (bits_of slice.payload.items))) in
    let p = err_from_is_err_and c.from_residual-in_err-bytes.result c.from_residual-in_err-bytes.ensures.1 in
    rw (p.1, p.2) (inr (
      form,
      slice.macroblocks,
      recoded P.tried P.step c.args.plan c.args.init.now sets c.args.header bits c.args.opened.now c.if-is_some.number slice.payload.items form slice.macroblocks c.args.pick.now c.recode.new.pick r number (c.in_ok-slice.ensures.ok sets c.args.header bits r) refl,
    ))

pub returns-clause-ok : goal.returns-clause-ok
returns-clause-ok g c = λ sets bits r.
    let P = g.P.InitPick in
    let own = c.args.opened.now.header.pic_parameter_set_id in
    let number : c.if-is_some.number ≡ number_in c.args.plan.range own = elim c.if-is_some.branch [
      | then-is_some w ↦ partial c.args.plan.range c.if-is_some.number c.pps_number-own.result own w.if-is_some.ensures w.number-is c.pps_number-own.ensures
      | else-is_some w ↦ whole c.args.plan.range c.if-is_some.number c.pps_number-own.result own w.if-is_some.ensures w.number-is c.pps_number-own.ensures
    ] in
    let is = c.in_ok-bytes.ensures ∙ ap (λ p. with_start_code (c.args.header ∷ escaped (bytes_of (bits_of p)))) c.as_slice.ensures.value in
    recoded P.tried P.step c.args.plan c.args.init.now sets c.args.header bits c.args.opened.now c.if-is_some.number c.in_ok-slice.slice.payload.items c.in_ok-bytes.bytes.items c.in_ok-slice.slice.macroblocks c.args.pick.now c.recode.new.pick r number (c.in_ok-slice.ensures.ok sets c.args.header bits r) is
