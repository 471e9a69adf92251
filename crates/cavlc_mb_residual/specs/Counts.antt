-- nC, the number of levels other than 0 that is expected of a block (ITU-T H.264, 9.2.1).
use Rattle.std.specs.Prelude.{Bool, ℕ, ◌+◌, ◌-◌, ◌*◌, ◌/◌, ◌%◌, ◌≤◌, nat_lt, if◌then◌else◌, Option, Some, None, List, [], ℤ, slice_get, slice_index_or, take}
use Rattle.std.specs.Option.{option_map, option_map_or}
use Rattle.h264_types.specs.Kind.{is_i_pcm}
use Rattle.h264_types.specs.LastRows.{kept_at}
use Rattle.h264_types.specs.Slice.{field_at}
use Rattle.h264_types.specs.declared.macroblock.Mb.{Mb}
use Rattle.h264_types.specs.declared.slice_shape.SliceShape.{SliceShape}
use Rattle.mb_neighbours.specs.declared.place.At.{At}
use Rattle.mb_neighbours.specs.declared.place.At.TheVariants.{Whole, Luma4, Chroma4}
use Rattle.mb_neighbours.specs.declared.place.Spot.{Spot}
use Rattle.mb_neighbours.specs.Place.{x_of, y_of, covering}
use Rattle.mb_neighbours.specs.Near.{left_of, above_of}
use Rattle.cavlc_residual.specs.Block.{total_coeff}
use Rattle.cavlc_mb_residual.specs.LumaBlocks.{four, sixteen, sent_block}
use Rattle.cavlc_mb_residual.specs.declared.counts.Counts.{Counts}
use Rattle.cavlc_mb_residual.specs.declared.counts.Sides.{Sides}
use Rattle.cavlc_mb_residual.specs.declared.counts.Around.{Around}
use Rattle.cavlc_mb_residual.specs.declared.pairs.Component.{Component}
use Rattle.cavlc_mb_residual.specs.declared.pairs.Component.TheVariants.{Luma, Cb, Cr}

-- ---- what the blocks of a macroblock count

-- AC block n of Cb, whose number is 0, or of Cr
abbrev pub chroma_block : Mb → ℕ → ℕ → List ℤ
chroma_block mb comp n = slice_index_or (slice_index_or mb.chroma_ac comp []) n []

-- The levels other than 0 of the list that is sent of a block: in I_16x16 those of its AC block alone, and 16 in I_PCM. In a
-- macroblock of a slice the levels of a block that isn't sent are 0, by its pattern or since it is skipped: it counts 0. An AC
-- block of chroma has 15 levels in each such macroblock; `take` says so of any list, so that no block counts more than 16.
abbrev pub luma_count : Mb → ℕ → ℕ
luma_count mb n = if is_i_pcm mb.kind then 16 else total_coeff (sent_block mb n)

abbrev pub chroma_count : ℕ → Mb → ℕ → ℕ
chroma_count comp mb n = if is_i_pcm mb.kind then 16 else total_coeff (take 15 (chroma_block mb comp n))

abbrev pub counts_of : Mb → Counts
counts_of mb = record {
  luma = sixteen (luma_count mb);
  cb = four (chroma_count 0 mb);
  cr = four (chroma_count 1 mb);
  field = mb.field;
}

-- ---- nC in a list of macroblocks

-- of what the blocks to the left and above count, where they are available
abbrev pub mean : Option ℕ → Option ℕ → ℕ
mean (Some a) (Some b) = (a + b + 1) / 2
mean (Some a) None = a
mean None (Some b) = b
mean None None = 0

abbrev pub count_at : (Mb → ℕ → ℕ) → List Mb → Spot → ℕ
count_at count ms spot = option_map_or (λ (mb : Mb). count mb spot.block) (slice_get ms spot.mb) 0

abbrev pub list_nC : (Mb → ℕ → ℕ) → SliceShape → List Mb → ℕ → At → ℕ
list_nC count shape ms at place =
    mean
    (option_map (count_at count ms) (left_of shape ms at (field_at ms at) place))
    (option_map (count_at count ms) (above_of shape ms at (field_at ms at) place))

-- of luma block n, and of AC block n of a chroma component, of macroblock number `at`
abbrev pub luma_nC : SliceShape → List Mb → ℕ → ℕ → ℕ
luma_nC shape ms at n = list_nC luma_count shape ms at (Luma4 n)

abbrev pub chroma_nC : SliceShape → List Mb → ℕ → ℕ → ℕ → ℕ
chroma_nC shape ms at comp n = list_nC (chroma_count comp) shape ms at (Chroma4 n)

-- ---- nC inside a macroblock

-- what the block to the left counts: it stands in the macroblock itself, among whose blocks so far are those that counts
-- tell, or at its side
abbrev pub left_count : Sides → List ℕ → At → Option ℕ
left_count sides counts place =
    if nat_lt 0 (x_of place)
    then Some (slice_index_or counts (covering place (x_of place - 1) (y_of place)) 0)
    else option_map (λ column. slice_index_or column (y_of place / 4) 0) sides.left

abbrev pub above_count : Sides → List ℕ → At → Option ℕ
above_count sides counts place =
    if nat_lt 0 (y_of place)
    then Some (slice_index_or counts (covering place (x_of place) (y_of place - 1)) 0)
    else option_map (λ row. slice_index_or row (x_of place / 4) 0) sides.above

unfoldable pub nC : Sides → List ℕ → At → ℕ
nC sides counts place = mean (left_count sides counts place) (above_count sides counts place)

-- No block counts more than 16.
abbrev pub AreSmall : List ℕ → Type 0
AreSmall counts = (k : ℕ) → slice_index_or counts k 0 ≤ 16

abbrev pub IsSide : Option (List ℕ) → Type 0
IsSide None = Unit {0}
IsSide (Some counts) = AreSmall counts

pub record AreSides (sides : Sides) : Type 0 where
  pub left : IsSide sides.left
  pub above : IsSide sides.above

pub record AreSmallCounts (counts : Counts) : Type 0 where
  pub luma : AreSmall counts.luma
  pub cb : AreSmall counts.cb
  pub cr : AreSmall counts.cr

pub record IsAround (around : Around) : Type 0 where
  pub luma : AreSides around.luma
  pub cb : AreSides around.cb
  pub cr : AreSides around.cr

-- ---- what stands around a macroblock

-- what the blocks beside these places count, where there are such
abbrev pub side : (Spot → ℕ) → (At → Option Spot) → (ℕ → At) → Option (List ℕ)
side count find place = option_map (λ (_ : Spot). four (λ k. option_map_or count (find (place k)) 0)) (find Whole)

abbrev pub sides_in : (Mb → ℕ → ℕ) → SliceShape → List Mb → ℕ → Bool → (ℕ → At) → (ℕ → At) → Sides
sides_in count shape ms at field first_column first_row = record {
  left = side (count_at count ms) (left_of shape ms at field) first_column;
  above = side (count_at count ms) (above_of shape ms at field) first_row;
}

-- the luma blocks of the first column and of the first row; in chroma there are two, which are named twice
abbrev pub luma_column : ℕ → At
luma_column k = Luma4 (covering (Luma4 0) 0 (4 * k))

abbrev pub luma_row : ℕ → At
luma_row k = Luma4 (covering (Luma4 0) (4 * k) 0)

abbrev pub chroma_column : ℕ → At
chroma_column k = Chroma4 (2 * (k % 2))

abbrev pub chroma_row : ℕ → At
chroma_row k = Chroma4 (k % 2)

abbrev pub around_of : SliceShape → List Mb → ℕ → Bool → Around
around_of shape ms at field = record {
  luma = sides_in luma_count shape ms at field luma_column luma_row;
  cb = sides_in (chroma_count 0) shape ms at field chroma_column chroma_row;
  cr = sides_in (chroma_count 1) shape ms at field chroma_column chroma_row;
}

-- ---- by component

abbrev pub count_of : Component → Mb → ℕ → ℕ
count_of Luma = luma_count
count_of Cb = chroma_count 0
count_of Cr = chroma_count 1

abbrev pub column_of : Component → ℕ → At
column_of Luma = luma_column
column_of Cb = chroma_column
column_of Cr = chroma_column

abbrev pub row_of : Component → ℕ → At
row_of Luma = luma_row
row_of Cb = chroma_row
row_of Cr = chroma_row

-- how many blocks a macroblock has of it
abbrev pub blocks_of : Component → ℕ
blocks_of Luma = 16
blocks_of Cb = 4
blocks_of Cr = 4

-- what they count
abbrev pub counts_in : Component → Counts → List ℕ
counts_in Luma counts = counts.luma
counts_in Cb counts = counts.cb
counts_in Cr counts = counts.cr

-- ---- outside MBAFF, from what the macroblocks to the left and above count

abbrev pub beside : Option Counts → Option Counts → (Counts → List ℕ) → (ℕ → ℕ) → (ℕ → ℕ) → Sides
beside left above counts last_column last_row = record {
  left = option_map (λ (c : Counts). four (λ k. slice_index_or (counts c) (last_column k) 0)) left;
  above = option_map (λ (c : Counts). four (λ k. slice_index_or (counts c) (last_row k) 0)) above;
}

abbrev pub around_from : Option Counts → Option Counts → Around
around_from left above = record {
  luma = beside left above (λ c. c.luma) (λ k. covering (Luma4 0) 15 (4 * k)) (λ k. covering (Luma4 0) (4 * k) 15);
  cb = beside left above (λ c. c.cb) (λ k. 1 + 2 * (k % 2)) (λ k. 2 + k % 2);
  cr = beside left above (λ c. c.cr) (λ k. 1 + 2 * (k % 2)) (λ k. 2 + k % 2);
}

-- what macroblock number k of a list counts
abbrev pub counts_at : List Mb → Option ℕ → Option Counts
counts_at = kept_at counts_of
