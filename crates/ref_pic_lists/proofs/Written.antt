-- Texts that are written part by part, and the fronts of them that are written where a part fails.
use Rattle.std.proofs.Common.{ℕ, ◌+◌, ◌<◌, Bool, List, [], ◌++◌, length, drop, Result, IsErr, sym, ap, ◌∙◌, append_assoc}
use Rattle.std.proofs.Math.ListN.{get_or}
use Rattle.std.proofs.lemmas.List.{append-nil, at_drop_more}
use Rattle.std.specs.List.{flat_map}
use Rattle.bit_texts.specs.Texts.{Appended, Wrote, Appends}
use Rattle.bit_texts.proofs.Writing.{Appends-then, Appends-same, Appends-Err, Wrote-stop}

-- a writer ended in a fault, with a front of this text written
pub record Stopped (old new text : List Bool) : Type 0 where
  pub rest : List Bool
  pub wrote : Wrote old new text rest

pub stopped : {old new text : List Bool} → (rest : List Bool) × Wrote old new text rest → Stopped old new text
stopped (rest, w) = record { rest = rest; wrote = w }

-- in the first part
pub within : {old new first : List Bool} (second : List Bool) → Stopped old new first → Stopped old new (first ++ second)
within {old} {new} {first} second s =
    record {
      rest = s.rest ++ second;
      wrote = record { front = s.wrote.front; text_is = ap (λ (t : List Bool). t ++ second) s.wrote.text_is ∙ append_assoc s.wrote.front s.rest second; now_is = s.wrote.now_is };
    }

-- behind it
pub behind : {old mid new first second : List Bool} → Appended old mid first → Stopped mid new second → Stopped old new (first ++ second)
behind {old} {mid} {new} {first} {second} h s =
    record {
      rest = s.rest;
      wrote = record {
        front = first ++ s.wrote.front;
        text_is = ap (λ t. first ++ t) s.wrote.text_is ∙ sym (append_assoc first s.wrote.front s.rest);
        now_is = s.wrote.now_is ∙ ap (λ t. t ++ s.wrote.front) h.is ∙ append_assoc old first s.wrote.front;
      };
    }

pub failed : {T E : Type 0} {old new text : List Bool} (r : Result T E) → IsErr r → Stopped old new text → Appends old new text r
failed {T} {E} {old} {new} {text} r err s = Appends-Err old new text s.rest r err s.wrote

-- what a last part answered is the answer
pub record Ends {T E : Type 0} (old new text : List Bool) (r : Result T E) : Type 0 where
  pub is : Appends old new text r

pub ends : {T E : Type 0} {old new text : List Bool} (r : Result T E) → Appends old new text r → Ends old new text r
ends r h = record { is = h }

pub after : {T E : Type 0} {old mid new first second : List Bool} {r : Result T E} → Appended old mid first → Ends mid new second r → Ends old new (first ++ second) r
after {T} {E} {old} {mid} {new} {first} {second} {r} h e = record { is = Appends-then old mid new first second r h e.is }

-- nothing stands behind it
pub last : {T E : Type 0} {old new text : List Bool} {r : Result T E} → Ends old new text r → Ends old new (text ++ []) r
last {T} {E} {old} {new} {text} {r} e = record { is = Appends-same old new text (text ++ []) r (sym (append-nil text)) e.is }

-- in a member of a list whose members before it are written
pub member_stopped : {A : Type 0} (text : A → List Bool) (xs : List A) (i : ℕ) (d : A) (old now new : List Bool) → i < length xs → Wrote old now (flat_map text xs) (flat_map text (drop i xs))
    → Stopped now new (text (get_or xs i d)) → Stopped old new (flat_map text xs)
member_stopped {A} text xs i d old now new lt w s =
    record { rest = s.rest ++ flat_map text (drop (i + 1) xs); wrote = Wrote-stop old now new (flat_map text xs) (text (get_or xs i d)) _ _ s.rest (at_drop_more (flat_map text) xs i d lt) w s.wrote }
