use Rattle.std.proofs.Common.{◌≡◌, ◌≤◌, ◌+◌, ◌-◌, ◌++◌, ℕ, List, ap, subst, ◌∙◌, refl, arith}
use Rattle.std.specs.Option.{option_map}
use Rattle.std.proofs.lemmas.List.{take_more_set, take_all, length-set}
use Rattle.bit_texts.proofs.Reading.{Reads-None}
use Rattle.bit_texts.proofs.Turns.{Completes-turn, Completes-stop, Completes-end}
use Rattle.cavlc_inter.specs.InterPrediction.{AreSubs, subs_text}
use Rattle.exp_golomb.specs.Code.{ue}
use Rattle.h264_types.specs.Valid.{sub_bound}
use Rattle.cavlc_inter.proofs.SubLaws.{IsPrefixFree-sub}
use Rattle.cavlc_inter.proofs.subs.read_subs.Goals as goal

pub returns-in_err-subs-clause-reads : goal.returns-in_err-subs-clause-reads
returns-in_err-subs-clause-reads g c =
    Reads-None _ _ _ _ _ (ap (option_map _) c.from_residual.ensures)
    (Completes-stop (λ (s : ℕ) sub. sub ≤ sub_bound c.args.kind) (λ (s : ℕ) sub. ue sub) (λ (s sub : ℕ). s) 4 0 _ (4 - c.loop-q.q) (4 - (c.loop-q.q + 1)) 0 _ (g.B.BitSource.left c.read_sub.new.bits) (g.B.BitSource.left c.read_sub.new.bits) _ (omega arith) c.loop-q.invariant.completes c.in_err-subs.ensures.reads)

pub loop-q-preserved : goal.loop-q-preserved
loop-q-preserved g c =
    let known = c.loop-q.invariant in
    let step = c.in_ok-subs.ensures in
    record {
      size = length-set c.loop-q.subs c.loop-q.q c.in_ok-subs.field-0 ∙ known.size;
      completes =
          Completes-turn (λ (s : ℕ) sub. sub ≤ sub_bound c.args.kind) (λ (s : ℕ) sub. ue sub) (λ (s sub : ℕ). s) 4 0 _ (4 - c.loop-q.q) (4 - (c.loop-q.q + 1)) 0 0 _ _ _ _ c.in_ok-subs.field-0
          (omega arith) (IsPrefixFree-sub c.args.kind) known.completes step.reads.0 step.reads.1 refl
          (take_more_set c.loop-q.subs c.loop-q.q c.in_ok-subs.field-0 (omega (arith, known.size, c.loop-q-test.true)));
      kept = step.kept ∙ known.kept;
    }

pub returns-clause-reads : goal.returns-clause-reads
returns-clause-reads g c =
    let known = c.loop-q.invariant in
    let P : List ℕ → Type 0 = λ xs. AreSubs c.args.kind xs × (g.B.BitSource.left c.args.bits.now ≡ subs_text xs ++ g.B.BitSource.left c.loop-q.bits) in
    subst P (take_all c.loop-q.q c.loop-q.subs (omega (arith, known.size)))
    (Completes-end (λ (s : ℕ) sub. sub ≤ sub_bound c.args.kind) (λ (s : ℕ) sub. ue sub) (λ (s sub : ℕ). s) 4 0 _ (4 - c.loop-q.q) 0 _ _ (omega arith) known.completes)
