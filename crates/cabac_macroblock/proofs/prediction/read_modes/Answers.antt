use Rattle.std.proofs.Common.{◌≡◌, ◌<◌, ap, sym, refl, ◌∙◌, slice_set, arith}
use Rattle.std.specs.Option.{option_map}
use Rattle.h264_types.specs.declared.macroblock.Mb.{Mb}
use Rattle.cabac_macroblock.specs.IntraPrediction.{mode_at}
use Rattle.cabac_macroblock.proofs.Puts.{unread, reads_each, reads_each_none, reads_each_end}
use Rattle.cabac_macroblock.proofs.PredictionSteps.{begins_reading, reads_mode_at, reads_no_mode_at, modes_unsent}
use Rattle.h264_types.specs.Sent.{mode_count}
use Rattle.cabac_macroblock.proofs.prediction.read_modes.Goals as goal

pub loop-k-init : goal.loop-k-init
loop-k-init g c = record {
  going = c.requires.going;
  most = omega arith;
  others = refl;
  reads = begins_reading g.S.BinSource.step c.args.mb.now _ (sym c.is_i_nxn.ensures ∙ c.if-is_i_nxn.true);
}

pub returns-in_err-mb-clause-reads : goal.returns-in_err-mb-clause-reads
returns-in_err-mb-clause-reads g c =
    let inside : c.loop-k.k < mode_count c.args.mb.now.t8 = omega (arith, c.loop-k-test.true, c.mode_count-k-end.ensures) in
    unread _ _ _ _ _ (ap (option_map _) c.from_residual.ensures)
    (c.loop-k.invariant.reads _ _ (reads_each_none g.S.BinSource.step mode_at (mode_count c.args.mb.now.t8) c.loop-k.k c.loop-k.mb _ _ inside
    (reads_no_mode_at g.S.BinSource.step c.loop-k.k c.loop-k.mb _ _ c.in_err-mb.ensures.reads)))

pub loop-k-preserved : goal.loop-k-preserved
loop-k-preserved g c =
    let inside : c.loop-k.k < mode_count c.args.mb.now.t8 = omega (arith, c.loop-k-test.true, c.mode_count-k-end.ensures) in
    record {
      going = c.in_ok-mb.ensures.going;
      most = omega (arith, inside);
      others = ap (λ (m : Mb). record m { modes = slice_set c.loop-k.mb.modes c.loop-k.k c.in_ok-mb.field-0 }) c.loop-k.invariant.others;
      reads = λ result t h.
          c.loop-k.invariant.reads result t
          (reads_each g.S.BinSource.step mode_at (mode_count c.args.mb.now.t8) c.loop-k.k c.loop-k.mb _ result _ _ t inside
          (reads_mode_at g.S.BinSource.step c.loop-k.k c.in_ok-mb.field-0 c.loop-k.mb _ _ c.in_ok-mb.ensures.reads) h);
    }

pub returns-after-loop-k-clause-reads : goal.returns-after-loop-k-clause-reads
returns-after-loop-k-clause-reads g c =
    let end : c.loop-k.k ≡ mode_count c.args.mb.now.t8 = omega (arith, c.loop-k-test.false, c.mode_count-k-end.ensures, c.loop-k.invariant.most) in
    c.loop-k.invariant.reads _ _ (reads_each_end g.S.BinSource.step mode_at (mode_count c.args.mb.now.t8) c.loop-k.k c.loop-k.mb _ end)

pub returns-else-is_i_nxn-clause-reads : goal.returns-else-is_i_nxn-clause-reads
returns-else-is_i_nxn-clause-reads g c = rw (modes_unsent c.args.mb.now (sym c.is_i_nxn.ensures ∙ c.if-is_i_nxn.false)) (refl, refl)
