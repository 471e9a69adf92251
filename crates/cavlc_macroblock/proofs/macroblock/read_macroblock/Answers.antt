use Rattle.std.proofs.Common.{Option, sym, subst}
use Rattle.bit_texts.specs.Cursor.{Cursor, Takes}
use Rattle.bit_texts.proofs.Inverting.{Keeps-from_kept, Takes-from_Keeps}
use Rattle.cavlc_macroblock.specs.Reading.{ReadsMacroblock}
use Rattle.cavlc_macroblock.proofs.Layers.{Typed, type_bits, no_type, reads_pcm, reads_layer}
use Rattle.cavlc_macroblock.proofs.ReadsLaws.{place_in}
use Rattle.cavlc_macroblock.proofs.macroblock.read_macroblock.Goals as goal

pub returns-in_err-kind : goal.returns-in_err-kind
returns-in_err-kind g c =
    let at = place_in g.B.BitSource.taken g.B.BitSource.left in
    let here : Cursor = at c.args.bits.now in
    let there : Cursor = at c.read_type.new.bits in
    subst (λ (r : Option (Unit {0})). ReadsMacroblock c.args.shape.now c.args.field c.args.around.now c.args.bound here r c.args.mb.now there) (sym c.from_residual.ensures)
    (no_type c.args.shape.now c.args.field c.args.around.now c.args.bound here there.left c.args.mb.now there c.in_err-kind.ensures.reads)

pub returns-then-is_i_pcm : goal.returns-then-is_i_pcm
returns-then-is_i_pcm g c =
    let at = place_in g.B.BitSource.taken g.B.BitSource.left in
    let here : Cursor = at c.args.bits.now in
    let there : Cursor = at c.read_type.new.bits in
    let type : Typed = (c.in_ok-kind.kind, c.in_ok-kind.ref0) in
    let reads = c.in_ok-kind.ensures.reads in
    let took : Takes (type_bits c.args.shape.now type) here there = Takes-from_Keeps (type_bits c.args.shape.now type) here there reads.1 (Keeps-from_kept _ _ _ _ c.in_ok-kind.ensures.kept) in
    reads_pcm c.args.shape.now c.args.field c.args.around.now c.args.bound c.requires.pair here there type reads.0 took (sym c.if-is_i_pcm.ensures) c.read_pcm.result c.read_pcm.new.mb (at c.read_pcm.new.bits) c.read_pcm.ensures

pub returns : goal.returns
returns g c =
    let at = place_in g.B.BitSource.taken g.B.BitSource.left in
    let here : Cursor = at c.args.bits.now in
    let there : Cursor = at c.read_type.new.bits in
    let type : Typed = (c.in_ok-kind.kind, c.in_ok-kind.ref0) in
    let reads = c.in_ok-kind.ensures.reads in
    let took : Takes (type_bits c.args.shape.now type) here there = Takes-from_Keeps (type_bits c.args.shape.now type) here there reads.1 (Keeps-from_kept _ _ _ _ c.in_ok-kind.ensures.kept) in
    reads_layer c.args.shape.now c.args.field c.args.around.now c.args.bound c.requires.pair here there type reads.0 took (sym c.if-is_i_pcm.ensures) c.read_layer.result c.read_layer.new.mb (at c.read_layer.new.bits) c.read_layer.ensures.reads (Keeps-from_kept _ _ _ _ c.read_layer.ensures.kept)
