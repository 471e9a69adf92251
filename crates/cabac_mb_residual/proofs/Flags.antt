-- coded_block_flag's context rests, in the current macroblock, on the blocks before alone.
use Rattle.std.proofs.Common.{◌≡◌, ℕ, ℤ, get_or, ◌+◌, ◌-◌, ◌*◌, ◌/◌, ◌%◌, ◌<◌, eqb, cond, Bool, true, false, ◌&&◌, ◌||◌, List, [], Option, Some, None, refl, sym, ap, ◌∙◌, arith}
use Rattle.std.proofs.lemmas.Bool.{eqb-true}
use Rattle.std.specs.Option.{option_map_or}
use Rattle.std.specs.Prelude.{slice_get}
use Rattle.h264_types.specs.Kind.{is_intra, is_i_pcm}
use Rattle.h264_types.specs.Macroblock.{pattern_of, luma_block, quarter_of, block_of}
use Rattle.h264_types.specs.Sizes.{HasSizes}
use Rattle.h264_types.specs.Slice.{IsInPicture}
use Rattle.h264_types.specs.declared.macroblock.Mb.{Mb}
use Rattle.h264_types.specs.declared.slice_shape.SliceShape.{SliceShape}
use Rattle.h264_types.proofs.ShapeLaws.{wide}
use Rattle.mb_neighbours.specs.Near.{left_of, above_of, IsBefore}
use Rattle.mb_neighbours.specs.Place.{IsPlace, number_of}
use Rattle.mb_neighbours.specs.declared.place.At.{At}
use Rattle.mb_neighbours.specs.declared.place.At.TheVariants.{Whole, Luma4, Chroma4}
use Rattle.mb_neighbours.specs.declared.place.Spot.{Spot}
use Rattle.mb_neighbours.proofs.NearLaws.{left_of-before, above_of-before}
use Rattle.cabac_contexts.specs.declared.term.Term.{Term}
use Rattle.cabac_contexts.specs.declared.term.Term.TheVariants.{LumaDcFlag, LumaFlag, ChromaDcFlag, ChromaAcFlag}
use Rattle.cabac_contexts.specs.Terms.{term_of, flag_at, has_luma, has_level, chroma_ac_of}
use Rattle.cabac_contexts.specs.Increments.{weighted, weighted_of, coded_block}
use Rattle.cabac_mb_residual.specs.Levels.{so_far}
use Rattle.cabac_mb_residual.proofs.SoFar.{four_get, two_get, quarters, quarter_size, block_of-first, first_all, ac_block, ac_blocks, chroma_ac_size}

-- what a neighbour says, where two macroblocks say the same of the blocks before the place
flag_at-same : (missing : Bool) (term : Term) (done : List Mb) (at : ℕ) (x y : Mb) (place : At) (found : Option Spot)
    → ((spot : Spot) → found ≡ Some spot → IsBefore spot at place) → ((b : ℕ) → b < number_of place → term_of term x b ≡ term_of term y b) → flag_at missing term done at x found ≡ flag_at missing term done at y found
flag_at-same missing term done at x y place None before same = refl
flag_at-same missing term done at x y place (Some spot) before same = by (eqb spot.mb at) refl
  where
    by : (own : Bool) → eqb spot.mb at ≡ own
        → option_map_or (λ found. term_of term found spot.block) (cond own (Some x) (slice_get done spot.mb)) missing ≡ option_map_or (λ found. term_of term found spot.block) (cond own (Some y) (slice_get done spot.mb)) missing
    by true e = same spot.block ((before spot refl).1 (eqb-true spot.mb at e))
    by false e = refl

weighted_of-same : (missing : Bool) (term : Term) (shape : SliceShape) (done : List Mb) (at : ℕ) (field : Bool) (x y : Mb) (place : At) → IsInPicture shape at → IsPlace place
    → ((b : ℕ) → b < number_of place → term_of term x b ≡ term_of term y b) → weighted_of missing term shape done at field x place ≡ weighted_of missing term shape done at field y place
weighted_of-same missing term shape done at field x y place picture inside same =
    let a = flag_at-same missing term done at x y place (left_of shape done at field place) (λ spot e. left_of-before shape done at field place spot inside e) same in
    let b = flag_at-same missing term done at x y place (above_of shape done at field place) (λ spot e. above_of-before shape done at field place spot (wide shape at picture) inside e) same in
    ap (λ t. weighted t (flag_at missing term done at x (above_of shape done at field place))) a ∙ ap (weighted (flag_at missing term done at y (left_of shape done at field place))) b

-- ---- the macroblock so far, and the whole one

pub dc_flag : (shape : SliceShape) (done : List Mb) (at : ℕ) (field : Bool) (mb : Mb) → IsInPicture shape at → coded_block shape done at field mb 0 0 0 ≡ coded_block shape done at field (so_far 0 0 0 0 mb) 0 0 0
unfolding so_far
dc_flag shape done at field mb picture =
    weighted_of-same (is_intra mb.kind) LumaDcFlag shape done at field mb (so_far 0 0 0 0 mb) Whole picture tt (λ b h. absurd (omega arith))

-- a luma block that was already written
luma_block-so_far : (mb : Mb) (n m : ℕ) → HasSizes mb → n < 16 → m < n → luma_block (so_far 16 (16 * n) 0 0 mb) m ≡ luma_block mb m
unfolding so_far quarters
luma_block-so_far mb n m sizes h less =
    let q : m / 4 < 4 = omega arith in
    ap (λ (l : List ℤ). block_of l (m % 4)) (four_get (quarters mb (16 * n)) (m / 4) [] q)
    ∙ block_of-first (quarter_of mb (m / 4)) (16 * n - 64 * (m / 4)) (m % 4) (quarter_size mb (m / 4) sizes q) (omega arith) (omega arith)

pub luma_flag : (shape : SliceShape) (done : List Mb) (at : ℕ) (field : Bool) (mb : Mb) (n : ℕ) → IsInPicture shape at → HasSizes mb → n < 16
    → weighted_of (is_intra mb.kind) LumaFlag shape done at field mb (Luma4 n) ≡ weighted_of (is_intra mb.kind) LumaFlag shape done at field (so_far 16 (16 * n) 0 0 mb) (Luma4 n)
unfolding so_far
luma_flag shape done at field mb n picture sizes h =
    weighted_of-same (is_intra mb.kind) LumaFlag shape done at field mb (so_far 16 (16 * n) 0 0 mb) (Luma4 n) picture h
    (λ b less. ap (λ (l : List ℤ). is_i_pcm mb.kind || (has_luma mb (b / 4) && (mb.t8 || has_level l))) (sym (luma_block-so_far mb n b sizes h less)))

pub chroma_dc_flag : (shape : SliceShape) (done : List Mb) (at : ℕ) (field : Bool) (mb : Mb) (comp : ℕ) → IsInPicture shape at → coded_block shape done at field mb 3 comp 0 ≡ coded_block shape done at field (so_far 16 256 (4 * comp) 0 mb) 3 comp 0
unfolding so_far
chroma_dc_flag shape done at field mb comp picture =
    weighted_of-same (is_intra mb.kind) (ChromaDcFlag comp) shape done at field mb (so_far 16 256 (4 * comp) 0 mb) Whole picture tt (λ b h. absurd (omega arith))

chroma_ac-so_far : (mb : Mb) (comp n m : ℕ) → HasSizes mb → comp < 2 → n < 4 → m < n → chroma_ac_of (so_far 16 256 8 (60 * comp + 15 * n) mb) comp m ≡ chroma_ac_of mb comp m
unfolding so_far ac_blocks ac_block
chroma_ac-so_far mb comp n m sizes h i less =
    ap (λ (l : List (List ℤ)). get_or l m []) (two_get (ac_blocks mb (60 * comp + 15 * n)) comp [] h)
    ∙ four_get (ac_block mb (60 * comp + 15 * n) comp) m [] (omega arith)
    ∙ first_all 15 (60 * comp + 15 * n - 15 * (4 * comp + m)) (chroma_ac_of mb comp m) (chroma_ac_size mb comp m sizes h (omega arith)) (omega arith)

pub chroma_ac_flag : (shape : SliceShape) (done : List Mb) (at : ℕ) (field : Bool) (mb : Mb) (comp n : ℕ) → IsInPicture shape at → HasSizes mb → comp < 2 → n < 4
    → coded_block shape done at field mb 4 comp n ≡ coded_block shape done at field (so_far 16 256 8 (60 * comp + 15 * n) mb) 4 comp n
unfolding so_far
chroma_ac_flag shape done at field mb comp n picture sizes h i =
    weighted_of-same (is_intra mb.kind) (ChromaAcFlag comp) shape done at field mb (so_far 16 256 8 (60 * comp + 15 * n) mb) (Chroma4 n) picture i
    (λ b less. ap (λ (l : List ℤ). is_i_pcm mb.kind || (eqb (pattern_of mb).chroma 2 && has_level l)) (sym (chroma_ac-so_far mb comp n b sizes h i less)))
