-- The words that the program is called with.
use Rattle.std.specs.Prelude.{◌≡◌, ℕ, ◌^◌, Bool, true, false, ◌&&◌, nat_lt, nat_le, if◌then◌else◌, List, [], ◌∷◌, length, Option, Some, None, Result, Ok, Err, codes}
use Rattle.std.specs.Str.{bytes_eq}
use Rattle.std.specs.Char.{is_ascii_digit}
use Rattle.std.specs.List.{list_all}
use Rattle.std.specs.Str.Parse.{digits_value}
use Rattle.std.specs.Option.{option_map, option_and_then}
use Rattle.clap.specs.Kinds.{Kinds}
use Rattle.clap.specs.Walk.{Row, Rule, Text, first_of}
use Rattle.clap.specs.Simple.{App, new_app, new_rule, with_rule, matches_of}
use Rattle.clap.specs.Faults.{fault_of}
use Rattle.clap.specs.declared.error.kind.ErrorKind.{ErrorKind}
use Rattle.clap.specs.declared.error.kind.ErrorKind.TheVariants.{OutOfMemory}
use Rattle.h264_types.specs.declared.layer.Layer.{Layer}
use Rattle.h264_types.specs.declared.layer.Layer.TheVariants.{Cavlc, Cabac}
use Rattle.recode_run.specs.declared.words.Asked.{Asked}
use Rattle.recode_run.specs.declared.words.WordsFault.{WordsFault}
use Rattle.recode_run.specs.declared.words.WordsFault.TheVariants.{Bad, Memory}

-- A wanted layer, the text that is to be a table, what is tried as cabac_init_idc, and the first and the last IDR period to
-- be recoded, where the run is partial.
pub record Request : Type 0 where
  pub to : Layer
  pub table : List ℕ
  pub idc : ℕ
  pub range : Option (ℕ × ℕ)

abbrev pub request_of : Asked → Request
request_of asked = record { to = asked.to; table = asked.table.now; idc = asked.idc; range = asked.range }

-- ## Values

-- the layer of this name
abbrev pub layer_of : List ℕ → Option Layer
layer_of name =
    if bytes_eq name (codes "cavlc") then Some Cavlc
    else (if bytes_eq name (codes "cabac") then Some Cabac else None)

-- what is tried as cabac_init_idc: 0, 1 or 2, and 0 where none is named
abbrev pub idc_of : Option (List ℕ) → Option ℕ
idc_of None = Some 0
idc_of (Some name) =
    if bytes_eq name (codes "0") then Some 0
    else (if bytes_eq name (codes "1") then Some 1
    else (if bytes_eq name (codes "2") then Some 2 else None))

-- the number below 2^32 that one to ten decimal digits write
abbrev pub number_of : List ℕ → Option ℕ
number_of text =
    if (nat_lt 0 (length text) && (nat_le (length text) 10 && list_all is_ascii_digit text)) && nat_lt (digits_value 10 text) (2 ^ 32)
    then Some (digits_value 10 text) else None

-- the range of these periods, of which the first doesn't come behind the last
abbrev pub range_between : Option ℕ → Option ℕ → Option (ℕ × ℕ)
range_between (Some first) (Some last) = if nat_le first last then Some (first, last) else None
range_between _ _ = None

-- the range that is named: none where the run isn't partial
abbrev pub range_of : Option (List ℕ) → Option (List ℕ) → Option (Option (ℕ × ℕ))
range_of None None = Some None
range_of (Some first) (Some last) = option_map (λ range. Some range) (range_between (number_of first) (number_of last))
range_of _ _ = None

-- what these values of the options ask for
abbrev pub request_from : Option (List ℕ) → Option (List ℕ) → Option (List ℕ) → Option (List ℕ) → Option (List ℕ) → Option Request
request_from to table init first last =
    option_and_then (λ layer. option_and_then (λ text. option_and_then (λ idc. option_map
    (λ range. record { to = layer; table = text; idc = idc; range = range })
    (range_of first last)) (idc_of init)) table) (option_and_then layer_of to)

-- ## Words

-- an option of this name, which takes one value
abbrev pub option_rule : Text → Rule
option_rule name = record (new_rule name) { long = Some name }

abbrev pub required_rule : Text → Rule
required_rule name = record (option_rule name) { required = true }

-- The command: `--to` and `--table` are required, and `--init`, `--first` and `--last` may be left out.
abbrev pub recode_app : App
recode_app =
    with_rule (with_rule (with_rule (with_rule (with_rule (new_app (codes "recode"))
    (required_rule (codes "to"))) (required_rule (codes "table")))
    (option_rule (codes "init"))) (option_rule (codes "first"))) (option_rule (codes "last"))

-- what the values that were found ask for
abbrev pub request_in : List Row → Option Request
request_in rows =
    request_from (first_of (codes "to") rows) (first_of (codes "table") rows) (first_of (codes "init") rows)
    (first_of (codes "first") rows) (first_of (codes "last") rows)

-- no step of a parse fails
abbrev pub is_none : Kinds → Bool
is_none [] = true
is_none (kind ∷ kinds) = false

-- What the words ask for: the first is recode, a parse of the command takes them, and its values ask for it.
abbrev pub words_of : List (List ℕ) → Option Request
words_of [] = None
words_of (command ∷ rest) =
    if bytes_eq command (codes "recode") && is_none (fault_of recode_app (command ∷ rest))
    then request_in (matches_of recode_app (command ∷ rest)) else None

-- ## Answers

-- the request of the words was read, or they have none, or memory was wanting
abbrev pub Reads : Option Request → Result Asked WordsFault → Type 0
Reads request (Ok asked) = request ≡ Some (request_of asked)
Reads request (Err Bad) = request ≡ None
Reads request (Err Memory) = Unit {0}

-- why an error of this kind refused words
abbrev pub IsRefusal : ErrorKind → WordsFault → Type 0
IsRefusal kind Memory = kind ≡ OutOfMemory
IsRefusal kind Bad = kind ≡ OutOfMemory → ⊥
