-- Of the current macroblock, the increments rest on the blocks before the place alone.
use Rattle.std.proofs.Common.{◌≡◌, ℕ, ◌<◌, Bool, false, List, ap, ◌∙◌, arith}
use Rattle.h264_types.specs.Slice.{IsInPicture}
use Rattle.h264_types.specs.declared.macroblock.Mb.{Mb}
use Rattle.h264_types.specs.declared.slice_shape.SliceShape.{SliceShape}
use Rattle.h264_types.proofs.ShapeLaws.{wide}
use Rattle.mb_neighbours.specs.Place.{IsPlace, number_of}
use Rattle.mb_neighbours.specs.declared.place.At.{At}
use Rattle.mb_neighbours.specs.declared.place.At.TheVariants.{Whole}
use Rattle.cabac_contexts.specs.declared.term.Term.{Term}
use Rattle.cabac_contexts.specs.Terms.{term_of, flag_a, flag_b}
use Rattle.cabac_contexts.specs.Increments.{sum, weighted, sum_of, weighted_of}
use Rattle.cabac_contexts.proofs.Neighbours.{same_flag_a, same_flag_b}

-- the macroblocks answer alike at the blocks before the place
abbrev pub AnswersAlike : Term → Mb → Mb → At → Type 0
AnswersAlike term mb other place = (block : ℕ) → block < number_of place → term_of term mb block ≡ term_of term other block

pub same_sum : (term : Term) (shape : SliceShape) (done : List Mb) (at : ℕ) (field : Bool) (mb other : Mb) → IsInPicture shape at → sum_of term shape done at field mb ≡ sum_of term shape done at field other
same_sum term shape done at field mb other h =
    let alike : AnswersAlike term mb other Whole = λ block below. absurd (omega (arith, below)) in
    ap (λ a. sum a (flag_b false term shape done at field mb Whole)) (same_flag_a false term shape done at field mb other Whole tt alike)
    ∙ ap (λ b. sum (flag_a false term shape done at field other Whole) b) (same_flag_b false term shape done at field mb other Whole (wide shape at h) tt alike)

pub same_weighted : (missing : Bool) (term : Term) (shape : SliceShape) (done : List Mb) (at : ℕ) (field : Bool) (mb other : Mb) (place : At) → IsInPicture shape at → IsPlace place → AnswersAlike term mb other place
    → weighted_of missing term shape done at field mb place ≡ weighted_of missing term shape done at field other place
same_weighted missing term shape done at field mb other place h is alike =
    ap (λ a. weighted a (flag_b missing term shape done at field mb place)) (same_flag_a missing term shape done at field mb other place is alike)
    ∙ ap (λ b. weighted (flag_a missing term shape done at field other place) b) (same_flag_b missing term shape done at field mb other place (wide shape at h) is alike)

pub same_whole : (missing : Bool) (term : Term) (shape : SliceShape) (done : List Mb) (at : ℕ) (field : Bool) (mb other : Mb) → IsInPicture shape at
    → weighted_of missing term shape done at field mb Whole ≡ weighted_of missing term shape done at field other Whole
same_whole missing term shape done at field mb other h = same_weighted missing term shape done at field mb other Whole h tt (λ block below. absurd (omega (arith, below)))
