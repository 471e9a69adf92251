-- A macroblock with its type alone, and the prediction that is put into it.
use Rattle.std.proofs.Common.{◌≡◌, ℕ, zero, suc, pos, Bool, length, replicate, refl}
use Rattle.std.specs.List.{AllByRecursion}
use Rattle.std.proofs.lemmas.List.{length-replicate}
use Rattle.h264_types.specs.Sizes.{HasSizes}
use Rattle.h264_types.specs.declared.macroblock.Mb.{Mb}
use Rattle.h264_types.specs.declared.macroblock.MbKind.{MbKind}
use Rattle.cabac_macroblock.specs.MbType.{of_kind}

abbrev pub with_inter : Mb → Mb → Mb
with_inter mb other = record mb { subs = other.subs; refs = other.refs; mvd = other.mvd }

pub each_of : {A : Type 0} (Is : A → Type 0) (x : A) → Is x → (n : ℕ) → AllByRecursion Is (replicate n x)
each_of Is x h zero = tt
each_of Is x h (suc n) = (h, each_of Is x h n)

pub kind_sized : (field : Bool) (kind : MbKind) → HasSizes (of_kind field kind)
kind_sized field kind = record {
  modes = refl;
  subs = refl;
  refs = (refl, (refl, (refl, tt)));
  mvd = (refl, ((refl, each_of (λ difference. length difference ≡ 2) (replicate 2 (pos 0)) refl 16), ((refl, each_of (λ difference. length difference ≡ 2) (replicate 2 (pos 0)) refl 16), tt)));
  dc = refl;
  luma = (refl, (refl, (refl, (refl, (refl, tt)))));
  chroma_dc = (refl, (refl, (refl, tt)));
  chroma_ac = (refl, ((refl, (refl, (refl, (refl, (refl, tt))))), ((refl, (refl, (refl, (refl, (refl, tt))))), tt)));
  pcm = length-replicate {A = ℕ} 384 0;
}
