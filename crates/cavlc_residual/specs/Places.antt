use Rattle.std.specs.Prelude.{ℕ, ◌+◌, ◌-◌, ◌<◌, ℤ, List, [], ◌∷◌, length, if◌then◌else◌}
use Rattle.cavlc_residual.specs.Block.{is_nonzero}

-- Where the levels other than 0 of a block stand, in scan order from 0. All goes from the highest frequency down.

-- Their places in a block. So many levels are behind each.
abbrev pub places_of : List ℤ → List ℕ
places_of [] = []
places_of (l ∷ ls) = if is_nonzero l then length ls ∷ places_of ls else places_of ls

-- The first place is below n, and each other one below that before it.
abbrev pub AreFalling : ℕ → List ℕ → Type 0
AreFalling n [] = Unit {0}
AreFalling n (p ∷ ps) = (p < n) × AreFalling p ps

-- how many levels a block has up to the first of these places, and with it
abbrev pub size_up_to : List ℕ → ℕ
size_up_to [] = 0
size_up_to (p ∷ ps) = p + 1

-- run_before of levels at these places: how many levels stand between each and the next, and below the last
abbrev pub gaps : List ℕ → List ℕ
gaps [] = []
gaps (p ∷ ps) = (p - size_up_to ps) ∷ gaps ps
