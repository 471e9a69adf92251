-- A parse of the command.
use Rattle.std.proofs.Common.{◌≡◌, ◌∙◌, sym, ap, refl, inl, inr, true, false, ◌<◌, List, [], ◌∷◌, length, map, get_or, codes, arith}
use Rattle.std.specs.Prelude.{Option, Some, None, Ok, Err, Bool, ◌⊎◌, ◌&&◌}
use Rattle.std.specs.Option.{option_map, ok_or}
use Rattle.std.specs.Str.{bytes_eq}
use Rattle.clap.specs.Kinds.{Kinds, FailsBy, IsAmong}
use Rattle.clap.specs.Walk.{Text, rows_of}
use Rattle.clap.specs.Simple.{App, HasMatchesOf, is_simple, matches_of}
use Rattle.clap.specs.Faults.{fault_of, is_simple_and_free}
use Rattle.clap.specs.Matches.{found_of, first_value}
use Rattle.clap.specs.Values.{kind_of}
use Rattle.clap.specs.declared.error.Error.{Error}
use Rattle.clap.specs.declared.error.kind.ErrorKind.{ErrorKind}
use Rattle.clap.specs.declared.error.kind.ErrorKind.TheVariants.{OutOfMemory}
use Rattle.clap.specs.declared.parser.matches.ArgMatches.{ArgMatches}
use Rattle.clap.specs.declared.parser.matches.Found.{Found}
use Rattle.clap.proofs.OnLiterals.{clap_on_literals}
use Rattle.clap.proofs.WalkLemmas.{first_value-rows}
use Rattle.recode_run.specs.Words.{Request, recode_app, request_from, request_in, request_of, is_none, Reads, IsRefusal, words_of}
use Rattle.recode_run.specs.declared.words.Asked.{Asked}
use Rattle.recode_run.specs.declared.words.WordsFault.{WordsFault}
use Rattle.recode_run.specs.declared.words.WordsFault.TheVariants.{Bad, Memory}

pub is_simple_app : is_simple recode_app ≡ true
unfolding clap_on_literals
is_simple_app = refl

pub is_free_app : is_simple_and_free recode_app ≡ true
unfolding clap_on_literals
is_free_app = refl

-- what the values that a parse found ask for
abbrev pub request_found : Found → Option Request
request_found f = request_from (first_value f (codes "to")) (first_value f (codes "table")) (first_value f (codes "init")) (first_value f (codes "first")) (first_value f (codes "last"))

found-in : (f : Found) → request_found f ≡ request_in (rows_of f)
found-in f = rw (first_value-rows f (codes "to"), first_value-rows f (codes "table"), first_value-rows f (codes "init"), first_value-rows f (codes "first"), first_value-rows f (codes "last")) refl

-- the first of these words
pub first-word : {X : Type 0} (text : X → Text) (ws : List X) (w : X) → 0 < length ws → w ≡ get_or ws 0 w → bytes_eq (text w) (codes "recode") ≡ true
    → (0 < length (map text ws)) × (bytes_eq (get_or (map text ws) 0 []) (codes "recode") ≡ true)
first-word text [] w some first same = absurd (omega arith)
first-word text (x ∷ ws) w some first same = (omega arith, ap (λ v. bytes_eq (text v) (codes "recode")) (sym first) ∙ same)

-- the words of a parse that succeeds ask for what its values ask for
pub parsed-asks : (a : App) (ws : List Text) (m : ArgMatches) → a ≡ recode_app → 0 < length ws → bytes_eq (get_or ws 0 []) (codes "recode") ≡ true
    → FailsBy {T = ArgMatches} (fault_of a ws) (Ok m) → HasMatchesOf a ws m → words_of ws ≡ request_found (found_of m)
parsed-asks a [] m same some first takes has = absurd (omega arith)
parsed-asks a (command ∷ rest) m same some first takes has =
    let none : fault_of recode_app (command ∷ rest) ≡ [] = ap (λ (b : App). fault_of b (command ∷ rest)) (sym same) ∙ takes in
    let rows : rows_of (found_of m) ≡ matches_of recode_app (command ∷ rest) = (has (ap is_simple same ∙ is_simple_app)).0 ∙ ap (λ (b : App). matches_of b (command ∷ rest)) same in
    rw (first, none) (ap request_in (sym rows) ∙ sym (found-in (found_of m)))

-- the request of these words, where their values ask for it
pub reads-asked : (request : Option Request) (asked : Option Asked) → option_map request_of asked ≡ request → Reads request (ok_or asked Bad)
reads-asked request None h = sym h
reads-asked request (Some asked) h = sym h

not_none : (kind : ErrorKind) (kinds : Kinds) → IsAmong kind kinds → is_none kinds ≡ false
not_none kind [] h = absurd h
not_none kind (first ∷ kinds) h = refl

and_false : (t : Bool) → (t && false) ≡ false
and_false true = refl
and_false false = refl

-- words that a parse refuses for another cause than memory ask for nothing
refused-none : (a : App) (ws : List Text) (e : Error) → a ≡ recode_app → FailsBy {T = ArgMatches} (fault_of a ws) (Err e)
    → (kind_of e ≡ OutOfMemory → ⊥) → words_of ws ≡ None
refused-none a [] e same fails other = refl
refused-none a (command ∷ rest) e same fails other = by fails
  where
    by : (kind_of e ≡ OutOfMemory) ⊎ IsAmong (kind_of e) (fault_of a (command ∷ rest)) → words_of (command ∷ rest) ≡ None
    by (inl memory) = absurd (other memory)
    by (inr among) =
        let some : is_none (fault_of recode_app (command ∷ rest)) ≡ false = ap (λ (b : App). is_none (fault_of b (command ∷ rest))) (sym same) ∙ not_none (kind_of e) (fault_of a (command ∷ rest)) among in
        rw (some, and_false (bytes_eq command (codes "recode"))) refl

pub refused-reads : (a : App) (ws : List Text) (e : Error) (fault : WordsFault) → a ≡ recode_app → FailsBy {T = ArgMatches} (fault_of a ws) (Err e)
    → IsRefusal (kind_of e) fault → Reads (words_of ws) (Err fault)
refused-reads a ws e Memory same fails why = tt
refused-reads a ws e Bad same fails why = refused-none a ws e same fails why
