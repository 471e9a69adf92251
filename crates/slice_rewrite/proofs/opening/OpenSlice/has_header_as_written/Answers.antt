-- The layer, the number and cabac_init_idc are those of the slice.
use Rattle.std.proofs.Common.{◌≡◌, ◌∙◌, ℕ, arith, nat_eq, rules, true}
use Rattle.std.proofs.lemmas.Bool.Decides.{nat_tests}
use Rattle.slice_rewrite.proofs.AsItStands.{header_stands}
use Rattle.slice_rewrite.proofs.opening.OpenSlice.has_header_as_written.Goals as goal

same_number : (m n : ℕ) → nat_eq m n ≡ true → m ≡ n
same_number m n e = grind (arith, nat_tests)

pub returns : goal.returns
returns c sets header bits r same =
    let flag : c.args.self.now.active.pps.now.entropy_coding_mode_flag ≡ c.mode_flag.result = search rules in
    let number : c.args.self.now.header.pic_parameter_set_id ≡ c.from.result = search rules in
    header_stands c.args.to c.args.number c.args.idc c.args.self.now (flag ∙ c.mode_flag.ensures) (number ∙ c.from.ensures)
    (same_number _ _ same ∙ c.from-2.ensures ∙ c.idc_in.ensures sets header bits r c.args.number)
