-- The zeros up to the end of a byte, as a loop writes them.
use Rattle.std.proofs.Common.{◌≡◌, ℕ, zero, suc, ◌+◌, ◌-◌, ◌*◌, ◌/◌, ◌%◌, Bool, true, false, cond, eqb, List, [], ◌∷◌, ◌++◌, length, take, drop, replicate, refl, sym, ap, ◌∙◌, arith, length-append, length-drop}
use Rattle.std.specs.List.{list_any}
use Rattle.std.proofs.lemmas.Bool.Decides.{nat_tests}
use Rattle.std.proofs.lemmas.List.{length-replicate, drop-drop, drop-append-le, take_all}
use Rattle.std.proofs.lemmas.List.Sums.{fold_push}
use Rattle.std.proofs.lemmas.Nat.{pow_pos}
use Rattle.bit_texts.specs.Bits.{number, bytes_in, bytes_of}
use Rattle.bit_texts.proofs.Numbers.{number-cons}
use Rattle.exp_golomb.specs.EmulationPrevention.{zeros_at_end}
use Rattle.param_sets.proofs.Trailing.{one_within}
use Rattle.bit_texts.specs.Texts.{Appended, Wrote}
use Rattle.param_sets.specs.TrailingBits.{trailing_bits, payload_text, IsPayload}
use Rattle.bit_texts.proofs.Writing.{Wrote-next}

abbrev zeros_after : List Bool → List Bool
zeros_after bits = replicate ((8 - length bits % 8) % 8) false

pub zero_written : (old now new text : List Bool) → (length now % 8 ≡ 0 → ⊥) → Wrote old now text (zeros_after now) → Appended now new (false ∷ []) → Wrote old new text (zeros_after new)
zero_written old now new text open_byte w step =
    let longer : length new ≡ length now + 1 = ap length step.is ∙ length-append now (false ∷ []) in
    let one_less : (8 - length now % 8) % 8 ≡ suc ((8 - length new % 8) % 8) = omega arith in
    Wrote-next old now new text (false ∷ []) (zeros_after now) (zeros_after new) (rw one_less refl) w step

-- the fields and then the trailing bits are the payload
pub payload_written : {start mid end fields bits : List Bool} → start ≡ [] → Appended start mid fields → Appended mid end (trailing_bits (length mid)) → bits ≡ end → bits ≡ payload_text fields
payload_written {start} {mid} {end} {fields} none first second e =
    let mid_is : mid ≡ fields = first.is ∙ ap (λ t. t ++ fields) none in
    e ∙ second.is ∙ ap payload_text mid_is

-- ---- the last byte

bytes_in-push : (q : ℕ) (bits : List Bool) → bytes_in (suc q) bits ≡ bytes_in q bits ++ number (take 8 (drop (8 * q) bits)) ∷ []
unfolding bytes_in
bytes_in-push zero bits = refl
bytes_in-push (suc q) bits =
    let behind : drop (8 * q) (drop 8 bits) ≡ drop (8 * suc q) bits = drop-drop (8 * q) 8 bits ∙ ap (λ n. drop n bits) (sym (eight_more q)) in
    ap (λ bytes. number (take 8 bits) ∷ bytes) (bytes_in-push q (drop 8 bits) ∙ ap (λ t. bytes_in q (drop 8 bits) ++ number (take 8 t) ∷ []) behind)
  where
    eight_more : (q : ℕ) → 8 * suc q ≡ 8 + 8 * q
    eight_more q = omega arith

-- a number with a 1 bit
number_of_one : (xs : List Bool) → list_any (λ b. b) xs ≡ true → number xs ≡ 0 → ⊥
number_of_one [] one none = absurd cc
number_of_one (true ∷ xs) one none = absurd (omega (arith, none, number-cons true xs, pow_pos (length xs)))
number_of_one (false ∷ xs) one none = number_of_one xs one (omega (arith, none, number-cons false xs))

no_zero_last : (bytes : List ℕ) (last : ℕ) → (last ≡ 0 → ⊥) → zeros_at_end (bytes ++ last ∷ []) ≡ 0
no_zero_last bytes last some =
    let tested : eqb last 0 ≡ false = grind (arith, nat_tests) in
    fold_push (λ zeros byte. cond (eqb byte 0) (zeros + 1) 0) 0 bytes last ∙ rw tested refl

-- a payload with trailing bits is whole bytes, and its last one has the stop bit
pub payload_ends : (fields : List Bool) → IsPayload (payload_text fields)
payload_ends fields =
    let bits = payload_text fields in
    let open_bits = length fields % 8 in
    let q = length fields / 8 in
    let zeros = replicate (7 - open_bits) false in
    let size : length bits ≡ 8 * suc q = length-append fields (true ∷ zeros) ∙ omega (arith, length-replicate (7 - open_bits) false) in
    let behind : drop (8 * q) bits ≡ drop (8 * q) fields ++ true ∷ zeros = drop-append-le (8 * q) fields (true ∷ zeros) (omega arith) in
    let last : take 8 (drop (8 * q) bits) ≡ drop (8 * q) fields ++ true ∷ zeros = ap (take 8) behind ∙ take_all 8 _ (omega (arith, length-append (drop (8 * q) fields) (true ∷ zeros), length-drop (8 * q) fields, length-replicate (7 - open_bits) false)) in
    let count : length bits / 8 ≡ suc q = omega arith in
    let bytes : bytes_of bits ≡ bytes_in q bits ++ number (drop (8 * q) fields ++ true ∷ zeros) ∷ [] = ap (λ n. bytes_in n bits) count ∙ bytes_in-push q bits ∙ ap (λ t. bytes_in q bits ++ number t ∷ []) last in
    record {
      whole = omega arith;
      no_zeros_at_end = ap zeros_at_end bytes ∙ no_zero_last (bytes_in q bits) _ (number_of_one (drop (8 * q) fields ++ true ∷ zeros) (one_within (drop (8 * q) fields) zeros));
    }
