-- The quantisers that a view has are those of the slice.
use Rattle.std.proofs.Common.{◌≡◌, ℕ, zero, suc, ◌+◌, ◌<◌, ℤ, pos, List, [], ◌∷◌, length, map, Some, refl, ap, ◌∙◌, arith}
use Rattle.std.proofs.lemmas.List.{length-map}
use Rattle.std.specs.Prelude.{option_map, slice_get, take, fold}
use Rattle.h264_types.specs.declared.macroblock.Mb.{Mb}
use Rattle.pattern_fix.specs.NormalPattern.{normal}
use Rattle.pattern_fix.proofs.SliceLaws.{qp-normal}
use Rattle.h264_types.specs.Qp.{next_qp, qp_of}
use Rattle.slice_rewrite.specs.View.{with_qp}

quantiser_at : (qp : ℤ) (mbs : List Mb) (k : ℕ) → k < length mbs → option_map (λ entry. entry.0) (slice_get (with_qp qp mbs) k) ≡ Some (fold (λ q (mb : Mb). next_qp q mb.qp_delta) qp (take (k + 1) mbs))
quantiser_at qp [] k h = absurd (omega (arith, h))
quantiser_at qp (mb ∷ mbs) zero h = refl
quantiser_at qp (mb ∷ mbs) (suc k) h =
    let more : suc (k + 1) ≡ suc k + 1 = omega arith in
    quantiser_at (next_qp qp mb.qp_delta) mbs k (omega (arith, h)) ∙ ap (λ n. Some (fold (λ q (m : Mb). next_qp q m.qp_delta) qp (take n (mb ∷ mbs)))) more

pub quantiser_in_view : (qp : ℕ) (mbs : List Mb) (k : ℕ) → k < length mbs → option_map (λ entry. entry.0) (slice_get (with_qp (pos qp) (map normal mbs)) k) ≡ Some (qp_of qp mbs k)
quantiser_in_view qp mbs k below = quantiser_at (pos qp) (map normal mbs) k (omega (arith, below, length-map mbs normal)) ∙ ap Some (qp-normal qp mbs k)
