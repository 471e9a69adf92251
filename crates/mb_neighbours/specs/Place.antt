-- Blocks inside a macroblock: where the upper left sample of each stands, and which block has a sample.
use Rattle.std.specs.Prelude.{ℕ, ◌+◌, ◌*◌, ◌/◌, ◌%◌, ◌<◌}
use Rattle.mb_neighbours.specs.declared.place.At.{At}
use Rattle.mb_neighbours.specs.declared.place.At.TheVariants.{Whole, Luma4, Luma8, Chroma4}

-- the number is one of that kind's
abbrev pub IsPlace : At → Type 0
IsPlace Whole = Unit {0}
IsPlace (Luma4 n) = n < 16
IsPlace (Luma8 q) = q < 4
IsPlace (Chroma4 n) = n < 4

-- how many there are in a macroblock
abbrev pub count_of : At → ℕ
count_of Whole = 1
count_of (Luma4 n) = 16
count_of (Luma8 q) = 4
count_of (Chroma4 n) = 4

-- its number among those of its kind
abbrev pub number_of : At → ℕ
number_of Whole = 0
number_of (Luma4 n) = n
number_of (Luma8 q) = q
number_of (Chroma4 n) = n

-- samples across and down in a macroblock, of the component: maxW and maxH of 6.4.12
abbrev pub size_of : At → ℕ
size_of Whole = 16
size_of (Luma4 n) = 16
size_of (Luma8 q) = 16
size_of (Chroma4 n) = 8

-- the column of the upper left sample (6.4.3, 6.4.5, 6.4.7)
abbrev pub x_of : At → ℕ
x_of Whole = 0
x_of (Luma4 n) = 8 * (n / 4 % 2) + 4 * (n % 2)
x_of (Luma8 q) = 8 * (q % 2)
x_of (Chroma4 n) = 4 * (n % 2)

-- the row of the upper left sample
abbrev pub y_of : At → ℕ
y_of Whole = 0
y_of (Luma4 n) = 8 * (n / 8) + 4 * (n % 4 / 2)
y_of (Luma8 q) = 8 * (q / 2)
y_of (Chroma4 n) = 4 * (n / 2)

-- the block of the same kind that has the sample in column x, row y (6.4.13)
abbrev pub covering : At → ℕ → ℕ → ℕ
covering Whole x y = 0
covering (Luma4 n) x y = 8 * (y / 8) + 4 * (x / 8) + 2 * (y % 8 / 4) + x % 8 / 4
covering (Luma8 q) x y = 2 * (y / 8) + x / 8
covering (Chroma4 n) x y = 2 * (y / 4) + x / 4
