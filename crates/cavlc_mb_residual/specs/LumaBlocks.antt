-- The luma blocks of a macroblock as CAVLC sends them (ITU-T H.264, 7.3.5.3.1).
use Rattle.std.specs.Prelude.{ℕ, ◌+◌, ◌*◌, ◌/◌, ◌%◌, if◌then◌else◌, ℤ, pos, List, [], ◌∷◌, ◌++◌, slice_index_or}
use Rattle.h264_types.specs.Macroblock.{quarter_of, luma_block}
use Rattle.h264_types.specs.declared.macroblock.Mb.{Mb}

-- f of 0, 1, .. to n - 1
abbrev pub four : {A : Type 0} → (ℕ → A) → List A
four f = f 0 ∷ f 1 ∷ f 2 ∷ f 3 ∷ []

unfoldable pub sixteen : {A : Type 0} → (ℕ → A) → List A
sixteen f = four f ++ (four (λ k. f (4 + k)) ++ (four (λ k. f (8 + k)) ++ four (λ k. f (12 + k))))

-- every fourth of 64 levels, from level i on: lumaLevel8x8[ 4 * k + i ] is level k of its list i
abbrev pub every_fourth : List ℤ → ℕ → List ℤ
every_fourth levels i = sixteen (λ k. slice_index_or levels (4 * k + i) (pos 0))

-- The list that is sent of luma block n: with the 8x8 transform the 64 levels of a quarter are sent as four lists, which
-- take turns.
abbrev pub sent_block : Mb → ℕ → List ℤ
sent_block mb n = if mb.t8 then every_fourth (quarter_of mb (n / 4)) (n % 4) else luma_block mb n

abbrev pub luma_blocks : Mb → List (List ℤ)
luma_blocks mb = sixteen (sent_block mb)
