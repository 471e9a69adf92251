use Rattle.std.proofs.Common.{◌≤◌, ℕ, Bool, true, false, arith}
use Rattle.cavlc_inter.specs.InterPrediction.{greatest_ref}
use Rattle.cavlc_inter.proofs.InterChain.{IsPrefixFree-inter}
use Rattle.cavlc_inter.proofs.laws.no_prediction_begins_another.Goals as goal

small : (ref0 : Bool) (active : ℕ) → active ≤ 255 → greatest_ref ref0 active ≤ 255
small true active h = omega arith
small false active h = omega arith

pub returns : goal.returns
returns c = λ kind ref0 active old h k. IsPrefixFree-inter kind ref0 active old (small ref0 _ h) (small ref0 _ k)
