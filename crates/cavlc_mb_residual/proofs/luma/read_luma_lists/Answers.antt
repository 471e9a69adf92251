use Rattle.std.proofs.Common.{◌≡◌, ◌+◌, ◌-◌, ◌++◌, ℕ, List, [], ℤ, ap, subst, ◌∙◌, refl, arith, rules}
use Rattle.std.specs.Option.{option_map}
use Rattle.arrayvec.specs.ArrayVec.{array_vec_len}
use Rattle.bit_texts.proofs.Reading.{Reads-None}
use Rattle.bit_texts.proofs.Turns.{Completes-turn, Completes-stop, Completes-end}
use Rattle.h264_types.specs.Macroblock.{luma_block}
use Rattle.h264_types.specs.declared.macroblock.Mb.{Mb}
use Rattle.cavlc_mb_residual.specs.Residual.{counted, IsLumaBlock, luma_block_text, AreLumaBlocks, luma_text}
use Rattle.cavlc_mb_residual.proofs.Firsts.{firsts-none, firsts-more, firsts-16, AreSmall-none}
use Rattle.cavlc_mb_residual.proofs.ResidualLaws.{IsPrefixFree-luma, blocks_start}
use Rattle.cavlc_mb_residual.proofs.luma.read_luma_lists.Goals as goal

pub loop-n-init : goal.loop-n-init
loop-n-init g c = record {
  taken = search rules;
  small = rw c.new-counts.ensures AreSmall-none;
  completes = blocks_start (IsLumaBlock c.args.luma c.args.max c.args.bound) (luma_block_text c.args.sides.now c.args.luma c.args.max) 16 _ _ _ c.new-counts.ensures (firsts-none (luma_block c.args.mb.now));
  rest = refl;
  kept = refl;
}

pub returns-in_err-read_luma_block-clause-reads : goal.returns-in_err-read_luma_block-clause-reads
returns-in_err-read_luma_block-clause-reads g c =
    Reads-None _ _ _ _ _ (ap (option_map _) c.from_residual.ensures)
    (Completes-stop (IsLumaBlock c.args.luma c.args.max c.args.bound) (luma_block_text c.args.sides.now c.args.luma c.args.max) counted 16 [] _ (16 - c.loop-n._n) (16 - (c.loop-n._n + 1)) c.loop-n.counts.items _ (g.B.BitSource.left c.read_luma_block.new.bits) (g.B.BitSource.left c.read_luma_block.new.bits) _ (omega arith) c.loop-n.invariant.completes c.in_err-read_luma_block.ensures.reads)

pub loop-n-preserved : goal.loop-n-preserved
loop-n-preserved g c =
    let known = c.loop-n.invariant in
    let step = c.in_ok-read_luma_block.ensures in
    let place : array_vec_len c.loop-n.counts ≡ c.loop-n._n = known.taken in
    let P : ℕ → Type 0 = λ n. IsLumaBlock c.args.luma c.args.max c.args.bound c.loop-n.counts.items (luma_block c.read_luma_block.new.mb n) × (g.B.BitSource.left c.loop-n.bits ≡ luma_block_text c.args.sides.now c.args.luma c.args.max c.loop-n.counts.items (luma_block c.read_luma_block.new.mb n) ++ g.B.BitSource.left c.read_luma_block.new.bits) in
    let here = subst P place step.reads in
    record {
      taken = omega (arith, step.len, known.taken);
      small = step.small;
      completes =
          Completes-turn (IsLumaBlock c.args.luma c.args.max c.args.bound) (luma_block_text c.args.sides.now c.args.luma c.args.max) counted 16 [] _ (16 - c.loop-n._n) (16 - (c.loop-n._n + 1)) c.loop-n.counts.items _ _ _ _ _ (luma_block c.read_luma_block.new.mb c.loop-n._n)
          (omega arith) (IsPrefixFree-luma c.args.sides.now c.args.luma c.args.max c.args.bound c.requires.max c.requires.within c.loop-n.counts.items) known.completes here.0 here.1
          (step.counts ∙ ap (λ n. counted c.loop-n.counts.items (luma_block c.read_luma_block.new.mb n)) place)
          (firsts-more (luma_block c.loop-n.mb) (luma_block c.read_luma_block.new.mb) c.loop-n._n (λ m below. step.others m (omega arith) (λ equal. absurd (omega (arith, equal, place)))));
      rest = step.rest ∙ ap (λ (mb : Mb). record mb { luma = c.read_luma_block.new.mb.luma }) known.rest;
      kept = step.kept ∙ known.kept;
    }

pub returns-clause-reads : goal.returns-clause-reads
returns-clause-reads g c =
    let P : List (List ℤ) → Type 0 = λ xs. AreLumaBlocks c.args.luma c.args.max c.args.bound xs × (g.B.BitSource.left c.args.bits.now ≡ luma_text c.args.sides.now c.args.luma c.args.max xs ++ g.B.BitSource.left c.loop-n.bits) in
    subst P (firsts-16 (luma_block c.loop-n.mb) c.loop-n._n (omega arith))
    (Completes-end (IsLumaBlock c.args.luma c.args.max c.args.bound) (luma_block_text c.args.sides.now c.args.luma c.args.max) counted 16 [] _ (16 - c.loop-n._n) c.loop-n.counts.items _ _ (omega arith) c.loop-n.invariant.completes)
