use Rattle.std.proofs.Common.{◌≡◌, ℕ, Bool, List, Some, None, refl, sym, ap}
use Rattle.bit_texts.specs.Cursor.{Cursor}
use Rattle.bit_texts.specs.Bits.{bits_of}
use Rattle.bit_texts.proofs.Inverting.{Gives-from_Reads, Keeps-from_kept}
use Rattle.h264_types.specs.declared.macroblock.Mb.{Mb}
use Rattle.h264_types.specs.declared.macroblock.MbKind.TheVariants.{Intra}
use Rattle.h264_types.specs.Macroblock.{no_elements}
use Rattle.pcm_samples.specs.Samples.{AreSamples}
use Rattle.cavlc_macroblock.proofs.ReadsLaws.{place_in}
use Rattle.cavlc_macroblock.specs.Reading.{samples_at, pcm_at}
use Rattle.pcm_samples.specs.Alignment.{alignment_at}
use Rattle.cavlc_macroblock.proofs.Layers.{samples_inverts}
use Rattle.cavlc_macroblock.proofs.macroblock.read_pcm.Goals as goal

without_samples : (field : Bool) (c d : Cursor) → alignment_at c ≡ Some (tt, d) → samples_at d ≡ None → pcm_at field c ≡ None
unfolding pcm_at
without_samples field c d aligned none = rw (aligned, none) refl

with_samples : (field : Bool) (c d e : Cursor) (none : Mb) (samples : List ℕ) → none ≡ no_elements (Intra 25) → alignment_at c ≡ Some (tt, d) → samples_at d ≡ Some (samples, e) → pcm_at field c ≡ Some (record none { field = field; pcm = samples }, e)
unfolding pcm_at
with_samples field c d e none samples is aligned some = rw (aligned, some) (ap (λ (mb : Mb). Some (record mb { field = field; pcm = samples }, e)) (sym is))

pub returns-in_default : goal.returns-in_default
returns-in_default g c =
    let before = c.read_alignment.new.bits in
    let after = c.read_samples.new.bits in
    let at = place_in g.B.BitSource.taken g.B.BitSource.left in
    let none : samples_at (at before) ≡ None = Gives-from_Reads AreSamples (λ n. bits_of) samples_at samples_inverts None (at before) (at after) c.in_default.ensures.reads (Keeps-from_kept _ _ _ _ c.in_default.ensures.kept) in
    without_samples c.args.field _ (at before) c.in_ok-read_alignment.ensures none

pub returns : goal.returns
returns g c =
    let before = c.read_alignment.new.bits in
    let after = c.read_samples.new.bits in
    let at = place_in g.B.BitSource.taken g.B.BitSource.left in
    let some : samples_at (at before) ≡ Some (c.read_samples.new.samples, at after) = Gives-from_Reads AreSamples (λ n. bits_of) samples_at samples_inverts (Some c.read_samples.new.samples) (at before) (at after) c.in-Some.ensures.reads (Keeps-from_kept _ _ _ _ c.in-Some.ensures.kept) in
    with_samples c.args.field _ (at before) (at after) c.without_elements.result c.read_samples.new.samples c.without_elements.ensures c.in_ok-read_alignment.ensures some
