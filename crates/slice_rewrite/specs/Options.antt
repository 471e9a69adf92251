-- What a run rests on.
use Rattle.std.specs.Prelude.{◌≡◌, ℕ, ◌<◌, Option, None}
use Rattle.h264_types.specs.declared.layer.Layer.{Layer}
use Rattle.init_table.specs.declared.table.InitTable.{InitTable}
use Rattle.slice_rewrite.specs.declared.pick.Tries.{Tries}
use Rattle.slice_rewrite.specs.declared.pick.Tries.TheVariants.{One, All}
use Rattle.slice_rewrite.specs.declared.plan.Plan.{Plan}

-- the wanted layer, the table of initial pairs (9.3.1.1), what is tried as cabac_init_idc, and the periods of a partial run
pub record Options : Type 0 where
  pub to : Layer
  pub init : InitTable
  pub tries : Tries
  pub range : Option (ℕ × ℕ)

abbrev pub options : Plan → InitTable → Tries → Options
options plan init tries = record { to = plan.to; init = init; tries = tries; range = plan.range }

-- a number that may be written as cabac_init_idc, from 0 to 2 (7.4.3)
abbrev pub IsTried : Tries → ℕ → Type 0
IsTried (One k) idc = (idc < 3) × (idc ≡ k)
IsTried All idc = idc < 3

-- those of a run that isn't partial
abbrev pub whole_run : Layer → InitTable → Tries → Options
whole_run to init tries = record { to = to; init = init; tries = tries; range = None }
