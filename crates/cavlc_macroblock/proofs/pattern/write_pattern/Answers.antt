use Rattle.std.proofs.Common.{ap, sym, ◌∙◌}
use Rattle.exp_golomb.specs.Code.{ue}
use Rattle.bit_texts.proofs.Writing.{Appends-same}
use Rattle.cavlc_macroblock.proofs.ElementLaws.{pattern_exists, pattern_text-is}
use Rattle.cavlc_macroblock.proofs.pattern.write_pattern.Goals as goal

pub unreachable-requires : goal.unreachable-requires
unreachable-requires g c = pattern_exists c.args.is_nxn c.args.pattern c.requires c.in_default.ensures.none

pub returns : goal.returns
returns g c =
    Appends-same _ _ _ _ _ (ap ue c.from.ensures ∙ sym (pattern_text-is c.args.is_nxn c.in-Some.place c.args.pattern c.in-Some.ensures.found)) c.write_ue.ensures
