-- What a macroblock's type says of its elements.
use Rattle.std.proofs.Common.{◌≡◌, ℕ, ◌≤◌, Bool, true, false, List, refl, ap, arith}
use Rattle.std.specs.Prelude.{IsTrue}
use Rattle.std.proofs.lemmas.Bool.Decides.{nat_tests}
use Rattle.h264_types.specs.declared.macroblock.Mb.{Mb}
use Rattle.h264_types.specs.declared.macroblock.MbKind.{MbKind}
use Rattle.h264_types.specs.declared.macroblock.MbKind.TheVariants.{Skip, Intra, P, B}
use Rattle.h264_types.specs.Kind.{is_inter, is_i_16x16, is_i_pcm}
use Rattle.h264_types.specs.Macroblock.{pattern_of}
use Rattle.h264_types.specs.Sent.{takes_t8, mode_count, sends_pattern}

-- an element that is sent where c holds isn't where c doesn't
pub unset : (b c : Bool) → (IsTrue b → IsTrue c) → c ≡ false → b ≡ false
unset false c h e = refl
unset true c h e = let t : c ≡ true = h refl in absurd (cc (t, e))

pub named_pcm : (kind : MbKind) → is_i_pcm kind ≡ true → kind ≡ Intra 25
named_pcm (Intra n) e = let is : n ≡ 25 = grind (arith, nat_tests) in ap Intra is
named_pcm Skip e = absurd cc
named_pcm (P n) e = absurd cc
named_pcm (B n) e = absurd cc

-- an intra macroblock sends no transform_size_8x8_flag behind its coded_block_pattern
pub intra_takes_none : (direct8 : Bool) (kind : MbKind) (subs : List ℕ) → is_inter kind ≡ false → takes_t8 direct8 kind subs ≡ false
intra_takes_none direct8 (Intra n) subs e = refl
intra_takes_none direct8 Skip subs e = absurd cc
intra_takes_none direct8 (P n) subs e = absurd cc
intra_takes_none direct8 (B n) subs e = absurd cc

pub mode_count-most : (t8 : Bool) → mode_count t8 ≤ 16
mode_count-most true = omega arith
mode_count-most false = omega arith

-- the pattern of all types but I_16x16 is the one that is sent
pub other_pattern : (mb : Mb) (kind : MbKind) → is_i_16x16 kind ≡ false → pattern_of (record mb { kind = kind }) ≡ mb.pattern
other_pattern mb (Intra n) e = rw e refl
other_pattern mb Skip e = refl
other_pattern mb (P n) e = refl
other_pattern mb (B n) e = refl

pub no_16x16 : (kind : MbKind) → sends_pattern kind ≡ true → is_i_16x16 kind ≡ false
no_16x16 (Intra n) e = let is : n ≡ 0 = grind (arith, nat_tests) in ap (λ n. is_i_16x16 (Intra n)) is
no_16x16 Skip e = absurd cc
no_16x16 (P n) e = refl
no_16x16 (B n) e = refl
