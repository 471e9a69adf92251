-- Each macroblock that is given is counted.
use Rattle.std.proofs.Common.{◌+◌, ◌++◌, ◌∷◌, [], ℕ, Bool, true, List, Ok, refl, sym, ap, ◌∙◌, subst, length-append, arith}
use Rattle.std.proofs.lemmas.Result.{err_from_is_err_and}
use Rattle.init_table.specs.declared.table.InitTable.{InitTable}
use Rattle.slice_data.specs.Reading.{NextGives, step_of}
use Rattle.slice_rewrite.proofs.SliceForms.{no_data_read}
use Rattle.slice_rewrite.proofs.reading.count_data.Goals as goal

pub loop-count-init : goal.loop-count-init
loop-count-init g c = ([], refl, omega arith, λ init pos left stood. stood)

pub returns-in_err-more-clause-err : goal.returns-in_err-more-clause-err
returns-in_err-more-clause-err g c init pos left stood =
    let R = g.R.SliceReader in
    let inv = c.loop-count.invariant in
    let p = err_from_is_err_and c.from_residual.result c.from_residual.ensures.1 in
    rw (p.1, p.2) (no_data_read R.has_data (R.is_data init) c.args.shape pos left c.in_err-more.field-0.0 (c.in_err-more.ensures init c.args.shape pos left inv.0 (inv.3 init pos left stood)))

pub returns-then-not-more-clause-ok : goal.returns-then-not-more-clause-ok
returns-then-not-more-clause-ok g c init pos left stood =
    let R = g.R.SliceReader in
    let inv = c.loop-count.invariant in
    let P : Bool → Type 0 = λ b. NextGives R.has_data (R.is_data init) (R.stands init) R.left c.next_into.new.self c.args.shape pos left inv.0 (step_of c.next_into.new.mb (Ok b)) in
    let ended = subst P c.if-not-more.true (c.in_ok-more.ensures init c.args.shape pos left inv.0 (inv.3 init pos left stood)) in
    (inv.0, ended.0, ended.1, sym inv.1)

pub loop-count-preserved : goal.loop-count-preserved
loop-count-preserved g c =
    let R = g.R.SliceReader in
    let inv = c.loop-count.invariant in
    let done = inv.0 in
    let shape = c.args.shape in
    let mb = c.next_into.new.mb in
    let reads = c.requires.reads in
    let gives : (init : InitTable) (pos : ℕ) (left : List Bool) (stood : R.stands init c.args.reader shape pos left []) → NextGives R.has_data (R.is_data init) (R.stands init) R.left c.next_into.new.self shape pos left done (step_of mb (Ok true)) = λ init pos left stood.
    let P : Bool → Type 0 = λ b. NextGives R.has_data (R.is_data init) (R.stands init) R.left c.next_into.new.self shape pos left done (step_of mb (Ok b)) in
    subst P c.if-not-more.false (c.in_ok-more.ensures init shape pos left done (inv.3 init pos left stood)) in
    let begins = (gives reads.0 reads.1 reads.2 reads.3).1.begins in
    let is = g.met.R.SliceReader.lists_are_slices shape ((done ++ mb ∷ []) ++ begins.0) begins.1 in (
      done ++ mb ∷ [],
      length-append done (mb ∷ []) ∙ ap (λ n. n + 1) inv.1,
      omega (arith, is.inside, length-append (done ++ mb ∷ []) begins.0),
      λ init pos left stood. (gives init pos left stood).0,
    )
