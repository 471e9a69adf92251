use Rattle.std.proofs.Common.{◌≡◌, ◌+◌, ◌-◌, ◌++◌, ◌∷◌, ℕ, List, [], ℤ, take, get_or, ap, subst, ◌∙◌, arith}
use Rattle.std.specs.Option.{option_map}
use Rattle.std.proofs.lemmas.List.{take_more, take_all}
use Rattle.arrayvec.specs.ArrayVec.{array_vec_len}
use Rattle.bit_texts.proofs.Reading.{Reads-None}
use Rattle.bit_texts.proofs.Turns.{Completes-turn, Completes-stop, Completes-end}
use Rattle.cavlc_mb_residual.specs.Residual.{counted, IsChromaBlock, chroma_block_text, AreChromaBlocks, chroma_text}
use Rattle.cavlc_mb_residual.proofs.ResidualLaws.{IsPrefixFree-chroma}
use Rattle.cavlc_mb_residual.proofs.Unsent.{chroma_none_read}
use Rattle.cavlc_mb_residual.proofs.chroma.read_chroma.Goals as goal

pub returns-then-not-coded-clause-reads : goal.returns-then-not-coded-clause-reads
returns-then-not-coded-clause-reads g c = chroma_none_read c.args.sides.now c.args.coded c.args.bound _ c.if-not-coded.true

pub returns-in_err-read_chroma_block-clause-reads : goal.returns-in_err-read_chroma_block-clause-reads
returns-in_err-read_chroma_block-clause-reads g c =
    Reads-None _ _ _ _ _ (ap (option_map _) c.from_residual.ensures)
    (Completes-stop (IsChromaBlock c.args.coded c.args.bound) (chroma_block_text c.args.sides.now c.args.coded) counted 4 [] _ (4 - c.loop-n._n) (4 - (c.loop-n._n + 1)) c.loop-n.counts.items _ (g.B.BitSource.left c.read_chroma_block.new.bits) (g.B.BitSource.left c.read_chroma_block.new.bits) _ (omega arith) c.loop-n.invariant.completes c.in_err-read_chroma_block.ensures.reads)

pub loop-n-preserved : goal.loop-n-preserved
loop-n-preserved g c =
    let known = c.loop-n.invariant in
    let step = c.in_ok-read_chroma_block.ensures in
    let place : array_vec_len c.loop-n.counts ≡ c.loop-n._n = known.taken in
    let blocks = c.read_chroma_block.new.blocks in
    let P : ℕ → Type 0 = λ n. IsChromaBlock c.args.coded c.args.bound c.loop-n.counts.items (get_or blocks n []) × (g.B.BitSource.left c.loop-n.bits ≡ chroma_block_text c.args.sides.now c.args.coded c.loop-n.counts.items (get_or blocks n []) ++ g.B.BitSource.left c.read_chroma_block.new.bits) in
    let here = subst P place step.reads in
    let before : take c.loop-n._n blocks ≡ take c.loop-n._n c.loop-n.blocks = subst (λ n. take n blocks ≡ take n c.loop-n.blocks) place step.before in
    record {
      taken = omega (arith, step.len, known.taken);
      small = step.small;
      size = step.size;
      completes =
          Completes-turn (IsChromaBlock c.args.coded c.args.bound) (chroma_block_text c.args.sides.now c.args.coded) counted 4 [] _ (4 - c.loop-n._n) (4 - (c.loop-n._n + 1)) c.loop-n.counts.items _ _ _ _ _ (get_or blocks c.loop-n._n [])
          (omega arith) (IsPrefixFree-chroma c.args.sides.now c.args.coded c.args.bound c.requires.within c.loop-n.counts.items) known.completes here.0 here.1
          (step.counts ∙ ap (λ n. counted c.loop-n.counts.items (get_or blocks n [])) place)
          (take_more blocks c.loop-n._n [] (omega (arith, step.size)) ∙ ap (λ (t : List (List ℤ)). t ++ get_or blocks c.loop-n._n [] ∷ []) before);
      kept = step.kept ∙ known.kept;
    }

pub returns-clause-reads : goal.returns-clause-reads
returns-clause-reads g c =
    let known = c.loop-n.invariant in
    let P : List (List ℤ) → Type 0 = λ xs. AreChromaBlocks c.args.coded c.args.bound xs × (g.B.BitSource.left c.args.bits.now ≡ chroma_text c.args.sides.now c.args.coded xs ++ g.B.BitSource.left c.loop-n.bits) in
    subst P (take_all c.loop-n._n c.loop-n.blocks (omega (arith, known.size)))
    (Completes-end (IsChromaBlock c.args.coded c.args.bound) (chroma_block_text c.args.sides.now c.args.coded) counted 4 [] _ (4 - c.loop-n._n) c.loop-n.counts.items _ _ (omega arith) known.completes)
