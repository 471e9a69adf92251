use Rattle.std.proofs.Common.{ℕ, ◌-◌, drop, length, ap, reverse, pos, replicate, ◌∙◌, sym}
use Rattle.std.specs.Option.{option_map}
use Rattle.std.proofs.lemmas.List.{drop-replicate}
use Rattle.cabac_residual.specs.Block.{behind_last, marks_below}
use Rattle.cabac_residual.proofs.Blocks.{reads_coded, reads_no_marks, unread}
use Rattle.cabac_residual.proofs.Places.{AreBelow-last, length-marks_below}
use Rattle.cabac_residual.proofs.block.read_coded.Goals as goal

pub returns-in_err-places-clause-reads : goal.returns-in_err-places-clause-reads
returns-in_err-places-clause-reads g c =
    unread _ _ _ _ _ (ap (option_map _) c.from_residual.ensures) (reads_no_marks g.S.BinSource.step c.args.cat c.args.field _ _ _ c.in_err-places.ensures.reads)

pub returns-clause-reads : goal.returns-clause-reads
returns-clause-reads g c =
    let places = reverse c.in_ok-places.places.items in
    let last = behind_last places in
    let below = AreBelow-last _ places c.in_ok-places.ensures.below in
    let zeros = ap (drop last) c.clear.ensures ∙ drop-replicate last _ (pos 0) ∙ ap (λ (k : ℕ). replicate (length c.args.levels.now - k) (pos 0)) (sym (length-marks_below last places below.0)) in
    reads_coded g.S.BinSource.step c.args.cat c.args.field _ (marks_below last places) _ _ _ _ _ zeros c.in_ok-places.ensures.reads (rw c.as_slice.ensures.value at c.read_at_places.ensures.reads)
