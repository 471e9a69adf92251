-- Table 6-4: the neighbours between the pairs of a macroblock-adaptive frame (6.4.12.2), line by line. The first flag
-- says that the current macroblock is a field macroblock, the second that the neighbouring pair is a field pair.
-- `bottom` is 1 for the bottom macroblock of a pair and 0 for its top one, and a half names the macroblock of the
-- neighbouring pair alike: 0 the upper or top field macroblock, 1 the lower or bottom field one.
use Rattle.std.specs.Prelude.{ℕ, ◌+◌, ◌-◌, ◌*◌, ◌/◌, ◌%◌, Bool, true, false, nat_lt, if◌then◌else◌}

-- the macroblock of the left pair that has the sample to the left of row y, where a macroblock has `height` rows
abbrev pub left_half : Bool → Bool → ℕ → ℕ → ℕ → ℕ
left_half false false bottom y height = bottom
left_half false true bottom y height = y % 2
left_half true false bottom y height = if nat_lt y (height / 2) then 0 else 1
left_half true true bottom y height = bottom

-- the row of that sample in its macroblock
abbrev pub left_row : Bool → Bool → ℕ → ℕ → ℕ → ℕ
left_row false false bottom y height = y
left_row false true bottom y height = (y + bottom * height) / 2
left_row true false bottom y height = if nat_lt y (height / 2) then 2 * y + bottom else 2 * y + bottom - height
left_row true true bottom y height = y

-- the macroblock of the pair above whose lowest rows are above the current macroblock. A frame macroblock at the
-- bottom has its own pair's top there, and asks for no pair above.
abbrev pub above_half : Bool → Bool → ℕ → ℕ
above_half false above_field bottom = 1
above_half true false bottom = 1
above_half true true bottom = bottom
