-- What the answers of neighbours rest on.
use Rattle.std.proofs.Common.{◌≡◌, ℕ, ◌<◌, Bool, true, false, cond, eqb, List, Option, Some, None, refl, sym, ◌∙◌}
use Rattle.std.specs.List.{slice_get}
use Rattle.std.specs.Option.{IfSome, option_map_or}
use Rattle.std.proofs.lemmas.Bool.{eqb-true}
use Rattle.h264_types.specs.LastRows.{LastRows, StandsAt, IsRecent}
use Rattle.h264_types.specs.declared.macroblock.Mb.{Mb}
use Rattle.h264_types.specs.declared.slice_shape.SliceShape.{SliceShape}
use Rattle.mb_neighbours.specs.Near.{left_of, above_of, IsBefore}
use Rattle.mb_neighbours.specs.Place.{IsPlace, number_of}
use Rattle.mb_neighbours.specs.declared.place.At.{At}
use Rattle.mb_neighbours.specs.declared.place.Spot.{Spot}
use Rattle.mb_neighbours.proofs.NearLaws.{left_of-before, above_of-before}
use Rattle.mb_neighbours.proofs.Recent.{left_of-recent, above_of-recent}
use Rattle.cabac_contexts.specs.declared.term.Term.{Term}
use Rattle.cabac_contexts.specs.Terms.{term_of, flag_at, flag_a, flag_b}

same_flag : (missing : Bool) (term : Term) (done : List Mb) (at : ℕ) (mb other : Mb) (place : At) (found : Option Spot)
    → ((spot : Spot) → found ≡ Some spot → IsBefore spot at place)
    → ((block : ℕ) → block < number_of place → term_of term mb block ≡ term_of term other block)
    → flag_at missing term done at mb found ≡ flag_at missing term done at other found
same_flag missing term done at mb other place None before same = refl
same_flag missing term done at mb other place (Some spot) before same = by (eqb spot.mb at) refl
  where
    by : (b : Bool) → eqb spot.mb at ≡ b
        → option_map_or (λ found. term_of term found spot.block) (cond b (Some mb) (slice_get done spot.mb)) missing
        ≡ option_map_or (λ found. term_of term found spot.block) (cond b (Some other) (slice_get done spot.mb)) missing
    by true e = same spot.block ((before spot refl).1 (eqb-true spot.mb at e))
    by false e = refl

pub same_flag_a : (missing : Bool) (term : Term) (shape : SliceShape) (done : List Mb) (at : ℕ) (field : Bool) (mb other : Mb) (place : At) → IsPlace place
    → ((block : ℕ) → block < number_of place → term_of term mb block ≡ term_of term other block)
    → flag_a missing term shape done at field mb place ≡ flag_a missing term shape done at field other place
same_flag_a missing term shape done at field mb other place p same =
    same_flag missing term done at mb other place (left_of shape done at field place) (λ spot e. left_of-before shape done at field place spot p e) same

pub same_flag_b : (missing : Bool) (term : Term) (shape : SliceShape) (done : List Mb) (at : ℕ) (field : Bool) (mb other : Mb) (place : At) → 0 < shape.width → IsPlace place
    → ((block : ℕ) → block < number_of place → term_of term mb block ≡ term_of term other block)
    → flag_b missing term shape done at field mb place ≡ flag_b missing term shape done at field other place
same_flag_b missing term shape done at field mb other place w p same =
    same_flag missing term done at mb other place (above_of shape done at field place) (λ spot e. above_of-before shape done at field place spot w p e) same

-- ---- what was found isn't before the last two rows

if_some : {P : Spot → Type 0} (found : Option Spot) → ((spot : Spot) → found ≡ Some spot → P spot) → IfSome found P
if_some (Some spot) each = each spot refl
if_some None each = tt

pub recent_left : (shape : SliceShape) (rows : LastRows Mb) (mbs : List Mb) (at : ℕ) (field : Bool) (place : At) (found : Option Spot)
    → StandsAt (λ mb. mb) shape rows mbs at → found ≡ left_of shape mbs at field place → IfSome found (λ spot. IsRecent rows spot.mb)
recent_left shape rows mbs at field place found stands e =
    if_some found (λ spot is. left_of-recent (λ mb. mb) shape rows mbs at field place spot stands (sym e ∙ is))

pub recent_above : (shape : SliceShape) (rows : LastRows Mb) (mbs : List Mb) (at : ℕ) (field : Bool) (place : At) (found : Option Spot)
    → StandsAt (λ mb. mb) shape rows mbs at → found ≡ above_of shape mbs at field place → IfSome found (λ spot. IsRecent rows spot.mb)
recent_above shape rows mbs at field place found stands e =
    if_some found (λ spot is. above_of-recent (λ mb. mb) shape rows mbs at field place spot stands (sym e ∙ is))
