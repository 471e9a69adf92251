-- Scaling lists (ITU-T H.264, 7.3.2.1.1.1), kept as their delta codes. A list that is not present has none.
use Rattle.std.specs.Prelude.{◌≡◌, ℕ, zero, suc, ℤ, pos, negsuc, ◌≤ℤ◌, ◌+◌, ◌-◌, ◌%◌, ◌==◌, nat_lt, Bool, true, false, MatchBool, List, [], ◌∷◌, if◌then◌else◌}
use Rattle.std.specs.List.{flat_map}
use Rattle.bit_texts.specs.Texts.{AreTurns}
use Rattle.exp_golomb.specs.Code as code
use Rattle.exp_golomb.specs.Syntax.{Syntax, Done, ◌>>=◌, flag, se, when, series}
use Rattle.param_sets.specs.Refusal.{Refusal}

-- ( lastScale + delta_scale + 256 ) % 256
abbrev pub next_scale : ℕ → ℤ → ℕ
next_scale last (pos delta) = (last + delta) % 256
next_scale last (negsuc delta) = (last + 255 - delta) % 256

-- delta_scale for so many entries behind one of this scale, up to one that makes the next scale 0
unfoldable pub deltas : ℕ → ℕ → Syntax Refusal (List ℤ)
deltas zero last = Done []
deltas (suc entries) last = do
  delta_scale ← se (negsuc 127) (pos 127)
  others ← (if next_scale last delta_scale == 0 then Done [] else deltas entries (next_scale last delta_scale))
  Done (delta_scale ∷ others)

-- its flag, and the list where it is present; the first scale is 8
unfoldable pub scaling_list : ℕ → Syntax Refusal (List ℤ)
scaling_list entries = do
  scaling_list_present_flag ← flag
  when scaling_list_present_flag [] (deltas entries 8)

-- the lists 0 to 5 are of 4x4 blocks, the others of 8x8 blocks
abbrev pub entries_of : ℕ → ℕ
entries_of place = if nat_lt place 6 then 16 else 64

unfoldable pub scaling_lists : ℕ → Syntax Refusal (List (List ℤ))
scaling_lists count = series count 0 (λ place. scaling_list (entries_of place))

-- so many lists where the matrix is present
unfoldable pub scaling_matrix : Bool → ℕ → Syntax Refusal (List (List ℤ))
scaling_matrix present count = when present [] (scaling_lists count)

-- ---- the codes of a list, and which lists have them

abbrev pub scaling_list_text : List ℤ → List Bool
scaling_list_text [] = false ∷ []
scaling_list_text (delta ∷ deltas) = true ∷ flat_map code.se (delta ∷ deltas)

-- every i32 but the least has a code of se(v)
abbrev pub HasCode : ℤ → Type 0
HasCode value = negsuc 2147483646 ≤ℤ value

abbrev pub scaling_lists_text : List (List ℤ) → List Bool
scaling_lists_text lists = flat_map scaling_list_text lists

-- delta_scale is -128 to 127, and the list goes on up to its entries or up to a next scale of 0 (7.4.2.1.1.1)
unfoldable pub DeltasFit : ℕ → ℕ → List ℤ → Type 0
DeltasFit zero last deltas = deltas ≡ []
DeltasFit (suc entries) last [] = ⊥
DeltasFit (suc entries) last (delta ∷ deltas) =
    (negsuc 127 ≤ℤ delta) × (delta ≤ℤ pos 127) × MatchBool (next_scale last delta == 0) (deltas ≡ []) (DeltasFit entries (next_scale last delta) deltas)

abbrev pub ScalingListFits : ℕ → List ℤ → Type 0
ScalingListFits entries [] = Unit {0}
ScalingListFits entries (delta ∷ deltas) = DeltasFit entries 8 (delta ∷ deltas)

-- so many lists, if the matrix is present
abbrev pub ScalingMatrixFits : Bool → ℕ → List (List ℤ) → Type 0
ScalingMatrixFits present count lists =
    MatchBool present (AreTurns (λ place. ScalingListFits (entries_of place)) (λ place list. place + 1) count 0 lists) (lists ≡ [])
