use Rattle.std.proofs.Common.{◌≡◌, ◌≤◌, ◌<◌, ◌+◌, ◌-◌, ◌++◌, ℕ, take, ap, subst, ◌∙◌, refl, arith}
use Rattle.std.specs.Option.{option_map}
use Rattle.std.proofs.lemmas.List.{take_more_set, length-set, drop-set-lt}
use Rattle.bit_texts.specs.Texts.{AreTurns, turns_text}
use Rattle.bit_texts.proofs.Reading.{Reads-None}
use Rattle.bit_texts.proofs.Turns.{Completes-turn, Completes-stop, Completes-end}
use Rattle.h264_types.specs.Sent.{mode_count}
use Rattle.cavlc_macroblock.specs.MacroblockLayer.{mode_text}
use Rattle.h264_types.proofs.KindLaws.{mode_count-most}
use Rattle.cavlc_macroblock.proofs.ElementLaws.{IsPrefixFree-mode}
use Rattle.cavlc_macroblock.proofs.prediction.read_modes.Goals as goal

pub returns-in_err-modes-clause-reads : goal.returns-in_err-modes-clause-reads
returns-in_err-modes-clause-reads g c =
    let all : ℕ = mode_count c.args.t8 in
    let inside : c.loop-n.n < all = omega (arith, c.loop-n-test.true, c.mode_count-count.ensures) in
    let stop = Completes-stop (λ (s : ℕ) mode. mode ≤ 8) (λ (s : ℕ) mode. mode_text mode) (λ (s mode : ℕ). s) all 0 _ (all - c.loop-n.n) (all - (c.loop-n.n + 1)) 0 _ (g.B.BitSource.left c.read_mode.new.bits) (g.B.BitSource.left c.read_mode.new.bits) _ (omega arith) c.loop-n.invariant.completes c.in_err-modes.ensures.reads in
    Reads-None _ _ _ _ _ (ap (option_map _) c.from_residual.ensures) (λ v more is. stop (take all v) more is.sent)

pub loop-n-preserved : goal.loop-n-preserved
loop-n-preserved g c =
    let all : ℕ = mode_count c.args.t8 in
    let known = c.loop-n.invariant in
    let step = c.in_ok-modes.ensures in
    let inside : c.loop-n.n < all = omega (arith, c.loop-n-test.true, c.mode_count-count.ensures) in
    record {
      size = length-set c.loop-n.modes c.loop-n.n c.in_ok-modes.field-0 ∙ known.size;
      most = omega (arith, inside);
      others = drop-set-lt all c.loop-n.modes c.loop-n.n c.in_ok-modes.field-0 inside ∙ known.others;
      completes =
          Completes-turn (λ (s : ℕ) mode. mode ≤ 8) (λ (s : ℕ) mode. mode_text mode) (λ (s mode : ℕ). s) all 0 _ (all - c.loop-n.n) (all - (c.loop-n.n + 1)) 0 0 _ _ _ _ c.in_ok-modes.field-0
          (omega (arith, inside)) IsPrefixFree-mode known.completes step.reads.0 step.reads.1 refl
          (take_more_set c.loop-n.modes c.loop-n.n c.in_ok-modes.field-0 (omega (arith, known.size, inside, mode_count-most c.args.t8)));
      kept = step.kept ∙ known.kept;
    }

pub returns-clause-reads : goal.returns-clause-reads
returns-clause-reads g c =
    let all : ℕ = mode_count c.args.t8 in
    let known = c.loop-n.invariant in
    let last : c.loop-n.n ≡ all = omega (arith, known.most, c.loop-n-test.false, c.mode_count-count.ensures) in
    let P : ℕ → Type 0 = λ n. AreTurns (λ (s : ℕ) mode. mode ≤ 8) (λ (s mode : ℕ). s) all 0 (take n c.loop-n.modes) × (g.B.BitSource.left c.args.bits.now ≡ turns_text (λ (s : ℕ) mode. mode_text mode) (λ (s mode : ℕ). s) 0 (take n c.loop-n.modes) ++ g.B.BitSource.left c.loop-n.bits) in
    let read = subst P last (Completes-end (λ (s : ℕ) mode. mode ≤ 8) (λ (s : ℕ) mode. mode_text mode) (λ (s mode : ℕ). s) all 0 _ (all - c.loop-n.n) 0 _ _ (omega (arith, last)) known.completes) in
    (record { sent = read.0; others = known.others }, read.1)
