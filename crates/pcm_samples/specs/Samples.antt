-- The samples of an I_PCM macroblock (ITU-T H.264, 7.3.5).
use Rattle.std.specs.Prelude.{◌≡◌, ℕ, ◌≤◌, List, length, All}

-- pcm_sample_luma and pcm_sample_chroma: 256 luma samples, and 64 of Cb and of Cr
pub record AreSamples (samples : List ℕ) : Type 0 where
  pub count : length samples ≡ 384
  pub bytes : All (λ sample. sample ≤ 255) samples
