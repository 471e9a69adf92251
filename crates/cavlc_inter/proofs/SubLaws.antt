-- sub_mb_type.
use Rattle.std.proofs.Common.{◌≤◌, ℕ, replicate, arith}
use Rattle.std.proofs.lemmas.Bool.Decides.{nat_tests}
use Rattle.bit_texts.specs.Texts.{IsPrefixFree}
use Rattle.bit_texts.proofs.Reading.{IsPrefixFree-when}
use Rattle.bit_texts.proofs.Turns.{IsPrefixFree-turns}
use Rattle.exp_golomb.specs.Code.{ue}
use Rattle.h264_types.specs.Kind.{has_sub_macroblocks}
use Rattle.h264_types.specs.Valid.{sub_bound}
use Rattle.h264_types.specs.declared.macroblock.MbKind.{MbKind}
use Rattle.h264_types.specs.declared.macroblock.MbKind.TheVariants.{Skip, Intra, P, B}
use Rattle.cavlc_inter.specs.InterPrediction.{AreSubs, subs_text, AreSubsIf, subs_text_if}
use Rattle.cavlc_inter.proofs.Codes.{IsPrefixFree-ue}

pub small_bound : (kind : MbKind) → sub_bound kind ≤ 12
small_bound Skip = omega arith
small_bound (Intra n) = omega arith
small_bound (P n) = grind (arith, nat_tests)
small_bound (B n) = grind (arith, nat_tests)

pub IsPrefixFree-sub : (kind : MbKind) → IsPrefixFree (λ sub. sub ≤ sub_bound kind) ue
IsPrefixFree-sub kind = let h = small_bound kind in IsPrefixFree-ue (sub_bound kind) (omega (arith, h))

pub IsPrefixFree-subs : (kind : MbKind) → IsPrefixFree (AreSubsIf kind) (subs_text_if kind)
IsPrefixFree-subs kind =
    IsPrefixFree-when (has_sub_macroblocks kind) (replicate 4 0) (AreSubs kind) subs_text
    (IsPrefixFree-turns (λ (s : ℕ) sub. sub ≤ sub_bound kind) (λ (s : ℕ) sub. ue sub) (λ (s sub : ℕ). s) (λ s. IsPrefixFree-sub kind) 4 0)
