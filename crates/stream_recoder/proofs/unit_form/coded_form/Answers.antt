-- A slice is written in the wanted layer where it is recoded, and as it was read where it isn't.
use Rattle.std.proofs.Common.{List, ℕ, true, false, subst, sym}
use Rattle.std.proofs.lemmas.Result.{err_from_is_err_and}
use Rattle.bit_texts.specs.Bits.{bits_of}
use Rattle.param_sets.specs.Sets.{SetMaps}
use Rattle.slice_rewrite.specs.Items.{header_of, sets_behind}
use Rattle.slice_rewrite.specs.Options.{options}
use Rattle.slice_rewrite.specs.SliceForms.{IsOpened, IsNotOpened, sets_in}
use Rattle.stream_recoder.proofs.UnitForms.{follows, kept_stays, slice_behind, slice_recoded, slice_refused, slice_unread}
use Rattle.stream_recoder.specs.Forms.{IsPickedForm}
use Rattle.stream_recoder.specs.declared.unit_form.UnitForm.{UnitForm}
use Rattle.stream_recoder.proofs.unit_form.coded_form.Goals as goal
use Rattle.stream_recoder.proofs.unit_form.coded_form.Goals.{then-are_in+in_ok-form, else-are_in+in_ok-form-2}

pub returns-in_err-opened-clause-err : goal.returns-in_err-opened-clause-err
returns-in_err-opened-clause-err g c = λ before st.
    let o = options c.args.plan c.args.init.now (g.P.InitPick.tried c.args.pick.now) in
    let header = header_of c.args.unit.now in
    let payload = c.in_ok-payload.payload.items in
    let fault = c.in_err-opened.field-0.0 in
    let p = err_from_is_err_and c.from_residual-in_err-opened.result c.from_residual-in_err-opened.ensures.1 in
    let N : List ℕ → Type 0 = λ bytes. IsNotOpened o.to c.args.sets.now header (bits_of bytes) fault in
    let S : SetMaps → Type 0 = λ sets. IsNotOpened o.to sets header (bits_of payload) fault in
    let none = subst S st.sets_are (subst N c.as_slice.ensures.value c.in_err-opened.ensures.err) in
    rw (p.1, p.2) (slice_unread o before c.args.unit.now payload fault c.requires.kind c.in_ok-payload.ensures.ok (none o.init))

pub returns-in_err-form-clause-err : goal.returns-in_err-form-clause-err
returns-in_err-form-clause-err g c = λ before st.
    let o = options c.args.plan c.args.init.now (g.P.InitPick.tried c.args.pick.now) in
    let header = header_of c.args.unit.now in
    let payload = c.in_ok-payload.payload.items in
    let opened = c.in_ok-opened.opened in
    let fault = c.in_err-form.field-0.0 in
    let p = err_from_is_err_and c.from_residual-in_err-form.result c.from_residual-in_err-form.ensures.1 in
    let O : List ℕ → Type 0 = λ bytes. IsOpened o.to c.args.sets.now header (bits_of bytes) opened in
    let S : SetMaps → Type 0 = λ sets. IsOpened o.to sets header (bits_of payload) opened in
    let r = subst S st.sets_are (subst O c.as_slice.ensures.value c.in_ok-opened.ensures.ok) in
    let k = follows o before header (bits_of payload) opened c.args.periods.now c.behind-behind.result c.idr_pic_id.result true r st.begun (λ mbs. c.idr_pic_id.ensures (sets_in opened) mbs) c.behind-behind.ensures c.if-are_in.ensures in
    rw (p.1, p.2) (slice_refused o before c.args.unit.now payload c.behind-behind.result fault c.requires.kind c.in_ok-payload.ensures.ok k (c.in_err-form.ensures.err (sets_behind before) (bits_of payload) r))

pub returns-in_err-form-clause-pick : goal.returns-in_err-form-clause-pick
returns-in_err-form-clause-pick g c = λ before st.
    let P = g.P.InitPick in
    let o = options c.args.plan c.args.init.now (P.tried c.args.pick.now) in
    let header = header_of c.args.unit.now in
    let payload = c.in_ok-payload.payload.items in
    let opened = c.in_ok-opened.opened in
    let fault = c.in_err-form.field-0.0 in
    let p = err_from_is_err_and c.from_residual-in_err-form.result c.from_residual-in_err-form.ensures.1 in
    let O : List ℕ → Type 0 = λ bytes. IsOpened o.to c.args.sets.now header (bits_of bytes) opened in
    let S : SetMaps → Type 0 = λ sets. IsOpened o.to sets header (bits_of payload) opened in
    let r = subst S st.sets_are (subst O c.as_slice.ensures.value c.in_ok-opened.ensures.ok) in
    let k = follows o before header (bits_of payload) opened c.args.periods.now c.behind-behind.result c.idr_pic_id.result true r st.begun (λ mbs. c.idr_pic_id.ensures (sets_in opened) mbs) c.behind-behind.ensures c.if-are_in.ensures in
    rw (p.1, p.2) (slice_behind P.tried P.step o before c.behind-behind.result c.args.unit.now payload fault c.args.pick.now c.recoded_form.new.pick c.requires.kind c.in_ok-payload.ensures.ok k
    (c.in_err-form.ensures.pick (sets_behind before) (bits_of payload) r))

pub returns-in_err-form-2-clause-err : goal.returns-in_err-form-2-clause-err
returns-in_err-form-2-clause-err g c = λ before st.
    let o = options c.args.plan c.args.init.now (g.P.InitPick.tried c.args.pick.now) in
    let header = header_of c.args.unit.now in
    let payload = c.in_ok-payload.payload.items in
    let opened = c.in_ok-opened.opened in
    let fault = c.in_err-form-2.field-0.0 in
    let p = err_from_is_err_and c.from_residual-in_err-form-2.result c.from_residual-in_err-form-2.ensures.1 in
    let O : List ℕ → Type 0 = λ bytes. IsOpened o.to c.args.sets.now header (bits_of bytes) opened in
    let S : SetMaps → Type 0 = λ sets. IsOpened o.to sets header (bits_of payload) opened in
    let r = subst S st.sets_are (subst O c.as_slice.ensures.value c.in_ok-opened.ensures.ok) in
    rw (p.1, p.2) (slice_unread o before c.args.unit.now payload fault c.requires.kind c.in_ok-payload.ensures.ok (c.in_err-form-2.ensures.err o.to (sets_behind before) header (bits_of payload) r))

pub returns-clause-ok : goal.returns-clause-ok
returns-clause-ok g c = λ before st.
    let P = g.P.InitPick in
    let o = options c.args.plan c.args.init.now (P.tried c.args.pick.now) in
    let header = header_of c.args.unit.now in
    let payload = c.in_ok-payload.payload.items in
    let opened = c.in_ok-opened.opened in
    let old = c.args.pick.now in
    let O : List ℕ → Type 0 = λ bytes. IsOpened o.to c.args.sets.now header (bits_of bytes) opened in
    let S : SetMaps → Type 0 = λ sets. IsOpened o.to sets header (bits_of payload) opened in
    let r = subst S st.sets_are (subst O c.as_slice.ensures.value c.in_ok-opened.ensures.ok) in
    let F : UnitForm → Type 0 = λ f. IsPickedForm P.tried P.step o before c.args.sets.now c.behind-behind.result c.args.unit.now f.bytes.items f.macroblocks old c.if-are_in.pick in
    elim c.if-are_in.branch [
      | then-are_in+in_ok-form w ↦
          let form = w.in_ok-form.form in
          let new = w.recoded_form.new.pick in
          let N : g.row.P.Denot → Type 0 = λ pick. IsPickedForm P.tried P.step o before c.args.sets.now c.behind-behind.result c.args.unit.now form.bytes.items form.macroblocks old pick in
          let k = follows o before header (bits_of payload) opened c.args.periods.now c.behind-behind.result c.idr_pic_id.result true r st.begun (λ mbs. c.idr_pic_id.ensures (sets_in opened) mbs) c.behind-behind.ensures w.if-are_in.ensures in
          let is = slice_recoded P.tried P.step o before c.args.sets.now c.behind-behind.result c.args.unit.now payload form.bytes.items form.macroblocks old new c.requires.kind c.in_ok-payload.ensures.ok st.sets_are k (w.in_ok-form.ensures.ok (sets_behind before) (bits_of payload) r) in
          subst F (sym w.form-is) (subst N (sym w.pick-is) is)
      | else-are_in+in_ok-form-2 w ↦
          let form = w.in_ok-form-2.form in
          let N : g.row.P.Denot → Type 0 = λ pick. IsPickedForm P.tried P.step o before c.args.sets.now c.behind-behind.result c.args.unit.now form.bytes.items form.macroblocks old pick in
          let k = follows o before header (bits_of payload) opened c.args.periods.now c.behind-behind.result c.idr_pic_id.result false r st.begun (λ mbs. c.idr_pic_id.ensures (sets_in opened) mbs) c.behind-behind.ensures w.if-are_in.ensures in
          let is = kept_stays P.tried P.step o before c.args.sets.now c.behind-behind.result c.args.unit.now payload form.bytes.items form.macroblocks old c.requires.kind c.in_ok-payload.ensures.ok st.sets_are k
          (w.in_ok-form-2.ensures.ok o.to (sets_behind before) header (bits_of payload) r) w.in_ok-form-2.ensures.bytes in
          subst F (sym w.form-is) (subst N (sym w.pick-is) is)
    ]
