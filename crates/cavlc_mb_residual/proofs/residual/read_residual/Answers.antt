use Rattle.std.proofs.Common.{[], Some, None, ap, refl, slice_set}
use Rattle.std.specs.Option.{option_map}
use Rattle.h264_types.specs.declared.macroblock.Mb.{Mb}
use Rattle.cavlc_mb_residual.specs.LumaBlocks.{luma_blocks}
use Rattle.cavlc_mb_residual.proofs.ResidualChain.{after_dc, no_dc, after_luma, no_luma, after_cb_dc, no_cb_dc, after_cr_dc, no_cr_dc, after_cb_ac, no_cb_ac, no_cr_ac, known_as, residual_is_read, two_set}
use Rattle.cavlc_mb_residual.proofs.residual.read_residual.Goals as goal

pub returns-in_err-read_luma_dc-clause-reads : goal.returns-in_err-read_luma_dc-clause-reads
returns-in_err-read_luma_dc-clause-reads g c =
    known_as c.args.around.now _ _ _ _ c.args.bound c.args.mb.now _ (g.B.BitSource.left c.read_luma_dc.new.bits) None _ c.is_i_16x16-is_16x16.ensures c.coded_pattern-pattern.ensures (ap (option_map _) c.from_residual.ensures)
    (no_dc c.args.around.now c.is_i_16x16-is_16x16.result c.coded_pattern-pattern.result c.args.bound c.args.mb.now (g.B.BitSource.left c.args.bits.now) (g.B.BitSource.left c.read_luma_dc.new.bits) (g.B.BitSource.left c.read_luma_dc.new.bits) c.in_err-read_luma_dc.ensures.reads)

pub returns-in_err-read_luma-clause-reads : goal.returns-in_err-read_luma-clause-reads
returns-in_err-read_luma-clause-reads g c =
    known_as c.args.around.now _ _ _ _ c.args.bound c.args.mb.now _ (g.B.BitSource.left c.read_luma.new.bits) None _ c.is_i_16x16-is_16x16.ensures c.coded_pattern-pattern.ensures (ap (option_map _) c.from_residual-in_err-read_luma.ensures)
    (after_dc c.args.around.now c.is_i_16x16-is_16x16.result c.coded_pattern-pattern.result c.args.bound c.args.mb.now c.requires.within c.read_luma_dc.new.levels (g.B.BitSource.left c.args.bits.now) (g.B.BitSource.left c.read_luma_dc.new.bits) c.in_ok-read_luma_dc.ensures.reads None (g.B.BitSource.left c.read_luma.new.bits)
    (no_luma c.args.around.now c.is_i_16x16-is_16x16.result c.coded_pattern-pattern.result c.args.bound c.args.mb.now c.max_levels-max.result c.max_levels-max.ensures c.read_luma_dc.new.levels (g.B.BitSource.left c.read_luma_dc.new.bits) (g.B.BitSource.left c.read_luma.new.bits) (g.B.BitSource.left c.read_luma.new.bits) c.in_err-read_luma.ensures.reads))

pub returns-in_err-read_chroma_dc-clause-reads : goal.returns-in_err-read_chroma_dc-clause-reads
returns-in_err-read_chroma_dc-clause-reads g c =
    known_as c.args.around.now _ _ _ _ c.args.bound c.args.mb.now _ (g.B.BitSource.left c.read_chroma_dc.new.bits) None _ c.is_i_16x16-is_16x16.ensures c.coded_pattern-pattern.ensures (ap (option_map _) c.from_residual-in_err-read_chroma_dc.ensures)
    (after_dc c.args.around.now c.is_i_16x16-is_16x16.result c.coded_pattern-pattern.result c.args.bound c.args.mb.now c.requires.within c.read_luma_dc.new.levels (g.B.BitSource.left c.args.bits.now) (g.B.BitSource.left c.read_luma_dc.new.bits) c.in_ok-read_luma_dc.ensures.reads None (g.B.BitSource.left c.read_chroma_dc.new.bits)
    (after_luma c.args.around.now c.is_i_16x16-is_16x16.result c.coded_pattern-pattern.result c.args.bound c.args.mb.now c.requires.within c.max_levels-max.result c.max_levels-max.ensures c.read_luma_dc.new.levels (luma_blocks c.read_luma.new.mb) (g.B.BitSource.left c.read_luma_dc.new.bits) (g.B.BitSource.left c.read_luma.new.bits) c.in_ok-read_luma.ensures.reads None (g.B.BitSource.left c.read_chroma_dc.new.bits)
    (no_cb_dc c.args.around.now c.is_i_16x16-is_16x16.result c.coded_pattern-pattern.result c.args.bound c.args.mb.now c.read_luma_dc.new.levels (luma_blocks c.read_luma.new.mb) (g.B.BitSource.left c.read_luma.new.bits) (g.B.BitSource.left c.read_chroma_dc.new.bits) (g.B.BitSource.left c.read_chroma_dc.new.bits) c.in_err-read_chroma_dc.ensures.reads)))

pub returns-in_err-read_chroma_dc-2-clause-reads : goal.returns-in_err-read_chroma_dc-2-clause-reads
returns-in_err-read_chroma_dc-2-clause-reads g c =
    known_as c.args.around.now _ _ _ _ c.args.bound c.args.mb.now _ (g.B.BitSource.left c.read_chroma_dc-2.new.bits) None _ c.is_i_16x16-is_16x16.ensures c.coded_pattern-pattern.ensures (ap (option_map _) c.from_residual-in_err-read_chroma_dc-2.ensures)
    (after_dc c.args.around.now c.is_i_16x16-is_16x16.result c.coded_pattern-pattern.result c.args.bound c.args.mb.now c.requires.within c.read_luma_dc.new.levels (g.B.BitSource.left c.args.bits.now) (g.B.BitSource.left c.read_luma_dc.new.bits) c.in_ok-read_luma_dc.ensures.reads None (g.B.BitSource.left c.read_chroma_dc-2.new.bits)
    (after_luma c.args.around.now c.is_i_16x16-is_16x16.result c.coded_pattern-pattern.result c.args.bound c.args.mb.now c.requires.within c.max_levels-max.result c.max_levels-max.ensures c.read_luma_dc.new.levels (luma_blocks c.read_luma.new.mb) (g.B.BitSource.left c.read_luma_dc.new.bits) (g.B.BitSource.left c.read_luma.new.bits) c.in_ok-read_luma.ensures.reads None (g.B.BitSource.left c.read_chroma_dc-2.new.bits)
    (after_cb_dc c.args.around.now c.is_i_16x16-is_16x16.result c.coded_pattern-pattern.result c.args.bound c.args.mb.now c.requires.within c.read_luma_dc.new.levels (luma_blocks c.read_luma.new.mb) c.read_chroma_dc.new.levels (g.B.BitSource.left c.read_luma.new.bits) (g.B.BitSource.left c.read_chroma_dc.new.bits) c.in_ok-read_chroma_dc.ensures.reads None (g.B.BitSource.left c.read_chroma_dc-2.new.bits)
    (no_cr_dc c.args.around.now c.is_i_16x16-is_16x16.result c.coded_pattern-pattern.result c.args.bound c.args.mb.now c.read_luma_dc.new.levels (luma_blocks c.read_luma.new.mb) c.read_chroma_dc.new.levels (g.B.BitSource.left c.read_chroma_dc.new.bits) (g.B.BitSource.left c.read_chroma_dc-2.new.bits) (g.B.BitSource.left c.read_chroma_dc-2.new.bits) c.in_err-read_chroma_dc-2.ensures.reads))))

pub returns-in_err-read_chroma-clause-reads : goal.returns-in_err-read_chroma-clause-reads
returns-in_err-read_chroma-clause-reads g c =
    known_as c.args.around.now _ _ _ _ c.args.bound c.args.mb.now _ (g.B.BitSource.left c.read_chroma.new.bits) None _ c.is_i_16x16-is_16x16.ensures c.coded_pattern-pattern.ensures (ap (option_map _) c.from_residual-in_err-read_chroma.ensures)
    (after_dc c.args.around.now c.is_i_16x16-is_16x16.result c.coded_pattern-pattern.result c.args.bound c.args.mb.now c.requires.within c.read_luma_dc.new.levels (g.B.BitSource.left c.args.bits.now) (g.B.BitSource.left c.read_luma_dc.new.bits) c.in_ok-read_luma_dc.ensures.reads None (g.B.BitSource.left c.read_chroma.new.bits)
    (after_luma c.args.around.now c.is_i_16x16-is_16x16.result c.coded_pattern-pattern.result c.args.bound c.args.mb.now c.requires.within c.max_levels-max.result c.max_levels-max.ensures c.read_luma_dc.new.levels (luma_blocks c.read_luma.new.mb) (g.B.BitSource.left c.read_luma_dc.new.bits) (g.B.BitSource.left c.read_luma.new.bits) c.in_ok-read_luma.ensures.reads None (g.B.BitSource.left c.read_chroma.new.bits)
    (after_cb_dc c.args.around.now c.is_i_16x16-is_16x16.result c.coded_pattern-pattern.result c.args.bound c.args.mb.now c.requires.within c.read_luma_dc.new.levels (luma_blocks c.read_luma.new.mb) c.read_chroma_dc.new.levels (g.B.BitSource.left c.read_luma.new.bits) (g.B.BitSource.left c.read_chroma_dc.new.bits) c.in_ok-read_chroma_dc.ensures.reads None (g.B.BitSource.left c.read_chroma.new.bits)
    (after_cr_dc c.args.around.now c.is_i_16x16-is_16x16.result c.coded_pattern-pattern.result c.args.bound c.args.mb.now c.requires.within c.read_luma_dc.new.levels (luma_blocks c.read_luma.new.mb) c.read_chroma_dc.new.levels c.read_chroma_dc-2.new.levels (g.B.BitSource.left c.read_chroma_dc.new.bits) (g.B.BitSource.left c.read_chroma_dc-2.new.bits) c.in_ok-read_chroma_dc-2.ensures.reads None (g.B.BitSource.left c.read_chroma.new.bits)
    (no_cb_ac c.args.around.now c.is_i_16x16-is_16x16.result c.coded_pattern-pattern.result c.args.bound c.args.mb.now c.read_luma_dc.new.levels (luma_blocks c.read_luma.new.mb) c.read_chroma_dc.new.levels c.read_chroma_dc-2.new.levels (g.B.BitSource.left c.read_chroma_dc-2.new.bits) (g.B.BitSource.left c.read_chroma.new.bits) (g.B.BitSource.left c.read_chroma.new.bits) c.in_err-read_chroma.ensures.reads)))))

pub returns-in_err-read_chroma-2-clause-reads : goal.returns-in_err-read_chroma-2-clause-reads
returns-in_err-read_chroma-2-clause-reads g c =
    known_as c.args.around.now _ _ _ _ c.args.bound c.args.mb.now _ (g.B.BitSource.left c.read_chroma-2.new.bits) None _ c.is_i_16x16-is_16x16.ensures c.coded_pattern-pattern.ensures (ap (option_map _) c.from_residual-in_err-read_chroma-2.ensures)
    (after_dc c.args.around.now c.is_i_16x16-is_16x16.result c.coded_pattern-pattern.result c.args.bound c.args.mb.now c.requires.within c.read_luma_dc.new.levels (g.B.BitSource.left c.args.bits.now) (g.B.BitSource.left c.read_luma_dc.new.bits) c.in_ok-read_luma_dc.ensures.reads None (g.B.BitSource.left c.read_chroma-2.new.bits)
    (after_luma c.args.around.now c.is_i_16x16-is_16x16.result c.coded_pattern-pattern.result c.args.bound c.args.mb.now c.requires.within c.max_levels-max.result c.max_levels-max.ensures c.read_luma_dc.new.levels (luma_blocks c.read_luma.new.mb) (g.B.BitSource.left c.read_luma_dc.new.bits) (g.B.BitSource.left c.read_luma.new.bits) c.in_ok-read_luma.ensures.reads None (g.B.BitSource.left c.read_chroma-2.new.bits)
    (after_cb_dc c.args.around.now c.is_i_16x16-is_16x16.result c.coded_pattern-pattern.result c.args.bound c.args.mb.now c.requires.within c.read_luma_dc.new.levels (luma_blocks c.read_luma.new.mb) c.read_chroma_dc.new.levels (g.B.BitSource.left c.read_luma.new.bits) (g.B.BitSource.left c.read_chroma_dc.new.bits) c.in_ok-read_chroma_dc.ensures.reads None (g.B.BitSource.left c.read_chroma-2.new.bits)
    (after_cr_dc c.args.around.now c.is_i_16x16-is_16x16.result c.coded_pattern-pattern.result c.args.bound c.args.mb.now c.requires.within c.read_luma_dc.new.levels (luma_blocks c.read_luma.new.mb) c.read_chroma_dc.new.levels c.read_chroma_dc-2.new.levels (g.B.BitSource.left c.read_chroma_dc.new.bits) (g.B.BitSource.left c.read_chroma_dc-2.new.bits) c.in_ok-read_chroma_dc-2.ensures.reads None (g.B.BitSource.left c.read_chroma-2.new.bits)
    (after_cb_ac c.args.around.now c.is_i_16x16-is_16x16.result c.coded_pattern-pattern.result c.args.bound c.args.mb.now c.requires.within c.read_luma_dc.new.levels (luma_blocks c.read_luma.new.mb) c.read_chroma_dc.new.levels c.read_chroma_dc-2.new.levels c.read_chroma.new.blocks (g.B.BitSource.left c.read_chroma_dc-2.new.bits) (g.B.BitSource.left c.read_chroma.new.bits) c.in_ok-read_chroma.ensures.reads None (g.B.BitSource.left c.read_chroma-2.new.bits)
    (no_cr_ac c.args.around.now c.is_i_16x16-is_16x16.result c.coded_pattern-pattern.result c.args.bound c.args.mb.now c.read_luma_dc.new.levels (luma_blocks c.read_luma.new.mb) c.read_chroma_dc.new.levels c.read_chroma_dc-2.new.levels c.read_chroma.new.blocks (g.B.BitSource.left c.read_chroma.new.bits) (g.B.BitSource.left c.read_chroma-2.new.bits) (g.B.BitSource.left c.read_chroma-2.new.bits) c.in_err-read_chroma-2.ensures.reads))))))

pub returns-clause-reads : goal.returns-clause-reads
returns-clause-reads g c =
    let luma = c.read_luma.new.mb in
    let rest = c.in_ok-read_luma.ensures.rest in
    let dcs = slice_set (slice_set luma.chroma_dc 0 c.read_chroma_dc.new.levels) 1 c.read_chroma_dc-2.new.levels in
    let acs = slice_set (slice_set luma.chroma_ac 0 c.read_chroma.new.blocks) 1 c.read_chroma-2.new.blocks in
    let new : Mb = record luma { chroma_dc = dcs; chroma_ac = acs } in
    let dc = two_set luma.chroma_dc c.read_chroma_dc.new.levels c.read_chroma_dc-2.new.levels [] c.has_sizes.ensures.chroma_dc.0 in
    let ac = two_set luma.chroma_ac c.read_chroma.new.blocks c.read_chroma-2.new.blocks [] c.has_sizes.ensures.chroma_ac.0 in
    known_as c.args.around.now _ _ _ _ c.args.bound c.args.mb.now (g.B.BitSource.left c.args.bits.now) (g.B.BitSource.left c.read_chroma-2.new.bits) (Some new) (Some new) c.is_i_16x16-is_16x16.ensures c.coded_pattern-pattern.ensures refl
    (residual_is_read c.args.around.now c.is_i_16x16-is_16x16.result c.coded_pattern-pattern.result c.args.bound c.args.mb.now new c.requires.within c.has_sizes.ensures (ap (λ (m : Mb). record m { dc = luma.dc; luma = luma.luma; chroma_dc = dcs; chroma_ac = acs }) rest) c.max_levels-max.result c.max_levels-max.ensures c.read_luma_dc.new.levels (luma_blocks c.read_luma.new.mb) c.read_chroma_dc.new.levels c.read_chroma_dc-2.new.levels c.read_chroma.new.blocks c.read_chroma-2.new.blocks
    (g.B.BitSource.left c.args.bits.now) (g.B.BitSource.left c.read_luma_dc.new.bits) (g.B.BitSource.left c.read_luma.new.bits) (g.B.BitSource.left c.read_chroma_dc.new.bits) (g.B.BitSource.left c.read_chroma_dc-2.new.bits) (g.B.BitSource.left c.read_chroma.new.bits) (g.B.BitSource.left c.read_chroma-2.new.bits)
    c.in_ok-read_luma_dc.ensures.reads c.in_ok-read_luma.ensures.reads c.in_ok-read_chroma_dc.ensures.reads c.in_ok-read_chroma_dc-2.ensures.reads c.in_ok-read_chroma.ensures.reads c.in_ok-read_chroma-2.ensures.reads
    (ap (λ (m : Mb). m.dc) rest) refl dc.0 dc.1 ac.0 ac.1)
