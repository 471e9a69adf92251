-- An element that stands under a condition: its syntax, its code, its values.
use Rattle.std.specs.Prelude.{Bool, List}
use Rattle.bit_texts.specs.Texts.{when_text, IsWhen}
use Rattle.exp_golomb.specs.Code.{Kind, Value, IsIn, code}
use Rattle.exp_golomb.specs.Syntax.{Syntax, Done, Element, when}
use Rattle.header_parts.specs.Refusal.{Refusal}

unfoldable pub element_when : Bool → (kind : Kind) → Value kind → Syntax Refusal (Value kind)
element_when present kind absent = when present absent (Element kind Done)

abbrev pub code_when : Bool → (kind : Kind) → Value kind → List Bool
code_when present kind value = when_text present (code kind) value

-- in range where it stands, else the absent value
abbrev pub IsInWhen : Bool → (kind : Kind) → Value kind → Value kind → Type 0
IsInWhen present kind absent value = IsWhen present absent (IsIn kind) value
