use Rattle.std.proofs.Common.{sym, ◌∙◌}
use Rattle.std.proofs.lemmas.Result.{err_from_is_err_and}
use Rattle.exp_golomb.specs.Code.{Flag}
use Rattle.exp_golomb.proofs.Fronts.{front_takes}
use Rattle.param_sets.proofs.Trailing.{trailing_found, trailing_of_more, trailing_without_flag, trailing_of_zero, trailing_too_long}
use Rattle.param_sets.proofs.read_trailing.read_trailing_bits.Goals as goal

pub returns-then-more_rbsp_data : goal.returns-then-more_rbsp_data
returns-then-more_rbsp_data g c = trailing_of_more _ (sym c.more_rbsp_data.ensures ∙ c.if-more_rbsp_data.true)

pub returns-in_err-flag : goal.returns-in_err-flag
returns-in_err-flag g c =
    let p = err_from_is_err_and c.from_residual.result c.from_residual.ensures.1 in
    rw (p.1, p.2, c.in_err-flag.ensures.0) (trailing_without_flag _ c.in_err-flag.ensures.1)

pub returns-then-not-branch : goal.returns-then-not-branch
returns-then-not-branch g c = trailing_of_zero _ _ (rw c.if-not-branch.true at c.in_ok-flag.ensures)

pub returns-then-skip : goal.returns-then-skip
returns-then-skip g c =
    let one = rw c.if-not-branch.false at (front_takes Flag _ _ _ c.in_ok-flag.ensures).1 in
    trailing_too_long _ _ one c.if-skip.ensures.skipped.0

pub returns : goal.returns
returns g c =
    let one = rw c.if-not-branch.false at (front_takes Flag _ _ _ c.in_ok-flag.ensures).1 in
    trailing_found _ _ one (sym c.more_rbsp_data.ensures ∙ c.if-more_rbsp_data.false) c.if-skip.ensures.skipped.0
