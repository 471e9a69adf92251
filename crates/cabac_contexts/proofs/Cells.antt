-- What a bin makes of a coder with its contexts.
use Rattle.std.proofs.Common.{◌≡◌, ℕ, ◌<◌, Bool, List, [], set, Option, Some, None, sym, ap, subst, ◌∙◌}
use Rattle.std.specs.List.{slice_get}
use Rattle.cabac_interval.specs.Tables.{next_p, next_mps}
use Rattle.cabac_interval.specs.Interval.{Kind, context, interval, Begins, with_bin}
use Rattle.cabac_engine.specs.Bins.{Slot, in_context}
use Rattle.cabac_engine.specs.Decoding.{Decoding, Decodes, HasDecoded}
use Rattle.cabac_engine.specs.Encoding.{Encoding, Encodes, HasEncoded}
use Rattle.cabac_contexts.specs.States.{bit_in, state_of, kind_after, with_states}
use Rattle.cabac_contexts.specs.Coders.{InCoding, OutCoding, Answers, TakesBin}
use Rattle.cabac_contexts.proofs.Steps.{with_states-push, states_plain, states_context}

some_is : {X : Type 0} (x y : X) → Some x ≡ Some y → x ≡ y
some_is x y e = cc

pair_is : (s : ℕ × Bool) (n : ℕ) (b : Bool) → s.0 ≡ n → s.1 ≡ b → s ≡ (n, b)
pair_is s n b h k = ap (λ x. (x, s.1)) h ∙ ap (λ y. (n, y)) k

-- ---- the decoder

-- the answer to a bin that no context counts
pub gives_plain : (old : InCoding) (e : Decoding) (slot : Slot) (kind : Kind) → ((c : ℕ) (bit : Bool) → bit_in c slot bit ≡ [])
    → ((start : ℕ → ℕ × Bool) (bins : List (Slot × Bool)) → kind ≡ kind_after start bins slot)
    → (r : Option Bool) → Decodes kind old.decoder r e → Answers old slot r (record { decoder = e; cells = old.cells })
gives_plain old e slot kind none same None answer all start bins h = λ bit b.
    answer all (with_states start [] bins) h.decoded bit (subst (λ x. Begins all (interval (with_bin (with_states start [] bins) x bit))) (sym (same start bins)) b)
gives_plain old e slot kind none same (Some bit) answer all start bins h =
    let given = subst (λ x. HasDecoded all (with_bin (with_states start [] bins) x bit) e.range e.offset e.left) (same start bins) (answer all (with_states start [] bins) h.decoded) in
    record {
      decoded = subst (λ bs. HasDecoded all bs e.range e.offset e.left) (sym (with_states-push start bins slot bit)) given;
      states = states_plain start bins old.cells slot bit (λ c. none c bit) h.states;
    }

-- no bin of a context
pub gives_none : (old new : InCoding) (ctx : ℕ) (cell : ℕ × Bool) → ctx < 460 → slice_get old.cells ctx ≡ Some cell
    → (e : Decoding) → Decodes (context cell.0 cell.1) old.decoder None e → Answers old (in_context ctx) None new
gives_none old new ctx cell below was e answer all start bins h = λ bit b.
    let is : cell ≡ state_of start bins ctx = some_is cell (state_of start bins ctx) (sym was ∙ h.states ctx below) in
    answer all (with_states start [] bins) h.decoded bit
    (subst (λ (s : ℕ × Bool). Begins all (interval (with_bin (with_states start [] bins) (context s.0 s.1) bit))) (sym is) b)

-- the bin of a context
pub gives_context : (old : InCoding) (ctx : ℕ) (cell new : ℕ × Bool) (bit : Bool) → ctx < 460 → slice_get old.cells ctx ≡ Some cell
    → new.0 ≡ next_p cell.0 cell.1 bit → new.1 ≡ next_mps cell.0 cell.1 bit
    → (e : Decoding) → Decodes (context cell.0 cell.1) old.decoder (Some bit) e → Answers old (in_context ctx) (Some bit) (record { decoder = e; cells = set old.cells ctx new })
gives_context old ctx cell new bit below was p mps e answer all start bins h =
    let st = state_of start bins ctx in
    let is : cell ≡ st = some_is cell st (sym was ∙ h.states ctx below) in
    let moved : new ≡ (next_p st.0 st.1 bit, next_mps st.0 st.1 bit) = pair_is new (next_p cell.0 cell.1 bit) (next_mps cell.0 cell.1 bit) p mps ∙ ap (λ (s : ℕ × Bool). (next_p s.0 s.1 bit, next_mps s.0 s.1 bit)) is in
    let given = subst (λ (s : ℕ × Bool). HasDecoded all (with_bin (with_states start [] bins) (context s.0 s.1) bit) e.range e.offset e.left) is (answer all (with_states start [] bins) h.decoded) in
    record {
      decoded = subst (λ bs. HasDecoded all bs e.range e.offset e.left) (sym (with_states-push start bins (in_context ctx) bit)) given;
      states = rw moved (states_context start bins old.cells ctx bit below h.states);
    }

-- ---- the encoder

pub takes_plain : (old : OutCoding) (e : Encoding) (slot : Slot) (kind : Kind) (bit : Bool) → ((c : ℕ) → bit_in c slot bit ≡ [])
    → ((start : ℕ → ℕ × Bool) (bins : List (Slot × Bool)) → kind ≡ kind_after start bins slot)
    → Encodes kind bit old.encoder e → TakesBin old slot bit (record { encoder = e; cells = old.cells })
takes_plain old e slot kind bit none same encodes before start bins h = record {
  encoded = subst (λ bs. HasEncoded before bs e) (sym (with_states-push start bins slot bit))
      (subst (λ x. HasEncoded before (with_bin (with_states start [] bins) x bit) e) (same start bins) (encodes before (with_states start [] bins) h.encoded));
  states = states_plain start bins old.cells slot bit none h.states;
}

pub takes_context : (old : OutCoding) (ctx : ℕ) (cell new : ℕ × Bool) (bit : Bool) → ctx < 460 → slice_get old.cells ctx ≡ Some cell
    → new.0 ≡ next_p cell.0 cell.1 bit → new.1 ≡ next_mps cell.0 cell.1 bit
    → (e : Encoding) → Encodes (context cell.0 cell.1) bit old.encoder e → TakesBin old (in_context ctx) bit (record { encoder = e; cells = set old.cells ctx new })
takes_context old ctx cell new bit below was p mps e encodes before start bins h =
    let st = state_of start bins ctx in
    let is : cell ≡ st = some_is cell st (sym was ∙ h.states ctx below) in
    let moved : new ≡ (next_p st.0 st.1 bit, next_mps st.0 st.1 bit) = pair_is new (next_p cell.0 cell.1 bit) (next_mps cell.0 cell.1 bit) p mps ∙ ap (λ (s : ℕ × Bool). (next_p s.0 s.1 bit, next_mps s.0 s.1 bit)) is in
    record {
      encoded = subst (λ bs. HasEncoded before bs e) (sym (with_states-push start bins (in_context ctx) bit))
          (subst (λ (s : ℕ × Bool). HasEncoded before (with_bin (with_states start [] bins) (context s.0 s.1) bit) e) is (encodes before (with_states start [] bins) h.encoded));
      states = rw moved (states_context start bins old.cells ctx bit below h.states);
    }
