-- Operations of reference picture marking, as a loop reads them.
use Rattle.std.proofs.Common.{◌≡◌, ℕ, zero, suc, ◌<◌, ◌≤◌, Bool, false, cond, eqb, List, [], ◌∷◌, ◌++◌, length, Some, None, refl, sym, ap, subst, ◌∙◌, arith}
use Rattle.std.proofs.lemmas.List.{append-nil}
use Rattle.std.proofs.lemmas.Bool.Decides.{nat_tests}
use Rattle.exp_golomb.specs.Code.{Ue}
use Rattle.exp_golomb.specs.Element.{front}
use Rattle.exp_golomb.specs.Syntax.{Syntax, Done, Outcome, Found, NoText, outcome_of, chained, ◌>>=◌}
use Rattle.exp_golomb.proofs.Fronts.{ue_shorter}
use Rattle.exp_golomb.proofs.Syntaxes.{outcome_of_then, spelled}
use Rattle.exp_golomb.proofs.Series.{prepended, prepended-prepended, prepended_none}
use Rattle.header_parts.specs.Refusal.{Refusal, header_says}
use Rattle.header_parts.specs.RefPicMarking.{operands, operations, operation_list}
use Rattle.header_parts.specs.declared.fault.HeaderFault.{HeaderFault}
use Rattle.header_parts.specs.declared.header.MemoryManagement.{MemoryManagement}
use Rattle.ref_pic_lists.proofs.Loops.{no_longer}
use Rattle.header_parts.proofs.Loops.{says_then}

-- what was read, and what is still read, is the whole; the bound is no less than the bits that are left
pub record IsReading (read : List MemoryManagement) (bits : List Bool) (total : Outcome Refusal (List MemoryManagement)) : Type 0 where
  pub bound : ℕ
  pub enough : length bits ≤ bound
  pub whole : prepended read (outcome_of (operations bound) bits) ≡ total

pub reading_begins : (bits : List Bool) → IsReading [] bits (outcome_of operation_list bits)
unfolding outcome_of
reading_begins bits = record { bound = length bits; enough = omega arith; whole = prepended_none (outcome_of (operations (length bits)) bits) }

abbrev others_after : ℕ → MemoryManagement → Syntax Refusal (List MemoryManagement)
others_after bound first = operations bound >>= (λ others. Done (first ∷ others))

-- what follows a number other than 0
abbrev more : ℕ → ℕ → Syntax Refusal (List MemoryManagement)
more bound number = operands number >>= others_after bound

step : (bound number : ℕ) (bits mid : List Bool) → front (Ue 6) bits ≡ Some (number, mid) → (number ≡ 0 → ⊥)
    → outcome_of (operations (suc bound)) bits ≡ chained (outcome_of (operands number) mid) (λ first after. outcome_of (others_after bound first) after)
unfolding operations outcome_of
step bound number bits mid h other =
    let test : eqb number 0 ≡ false = grind (arith, nat_tests) in
    rw h (ap (λ (b : Bool). outcome_of (cond b (Done []) (more bound number)) mid) test) ∙ outcome_of_then (operands number) (others_after bound) mid

operands_no_longer : (number : ℕ) (mid after : List Bool) (first : MemoryManagement) → outcome_of (operands number) mid ≡ Found first after → length after ≤ length mid
operands_no_longer number mid after first k = no_longer (operands number) mid first after (spelled (operands number) mid (Found first after) k (λ e. cc))

-- one more
pub reading_goes_on : (read : List MemoryManagement) (bits mid after : List Bool) (number : ℕ) (first : MemoryManagement) (total : Outcome Refusal (List MemoryManagement)) → front (Ue 6) bits ≡ Some (number, mid) → (number ≡ 0 → ⊥)
    → outcome_of (operands number) mid ≡ Found first after → IsReading read bits total → IsReading (read ++ first ∷ []) after total
unfolding outcome_of
reading_goes_on read bits mid after number first total h other k r = at r.bound r.enough r.whole
  where
    at : (bound : ℕ) → length bits ≤ bound → prepended read (outcome_of (operations bound) bits) ≡ total → IsReading (read ++ first ∷ []) after total
    at zero enough whole = absurd (omega (arith, ue_shorter 6 number bits mid h))
    at (suc bound) enough whole =
        let stepped : outcome_of (operations (suc bound)) bits ≡ prepended (first ∷ []) (outcome_of (operations bound) after) =
        step bound number bits mid h other ∙ rw k (outcome_of_then (operations bound) (λ others. Done (first ∷ others)) after) in
        record {
          bound = bound;
          enough = omega (arith, ue_shorter 6 number bits mid h, operands_no_longer number mid after first k);
          whole = sym (prepended-prepended read first (outcome_of (operations bound) after)) ∙ sym (rw stepped refl) ∙ whole;
        }

-- a number of 0
pub reading_ends : (read : List MemoryManagement) (bits after : List Bool) (number : ℕ) (total : Outcome Refusal (List MemoryManagement)) → front (Ue 6) bits ≡ Some (number, after) → number ≡ 0 → IsReading read bits total → total ≡ Found read after
unfolding operations outcome_of
reading_ends read bits after number total h last r = at r.bound r.enough r.whole
  where
    at : (bound : ℕ) → length bits ≤ bound → prepended read (outcome_of (operations bound) bits) ≡ total → total ≡ Found read after
    at zero enough whole = absurd (omega (arith, ue_shorter 6 number bits after h))
    at (suc bound) enough whole = sym whole ∙ rw (h, last) (ap (λ (xs : List MemoryManagement). Found xs after) (append-nil read))

pub reading_cut : (read : List MemoryManagement) (bits : List Bool) (total : Outcome Refusal (List MemoryManagement)) → front (Ue 6) bits ≡ None → IsReading read bits total → total ≡ NoText
unfolding operations outcome_of
reading_cut read bits total h r = at r.bound r.whole
  where
    at : (bound : ℕ) → prepended read (outcome_of (operations bound) bits) ≡ total → total ≡ NoText
    at zero whole = sym whole
    at (suc bound) whole = sym whole ∙ rw h refl

-- operands that fail
pub reading_fails : (fault : HeaderFault) (read : List MemoryManagement) (bits mid : List Bool) (number : ℕ) (total : Outcome Refusal (List MemoryManagement)) → front (Ue 6) bits ≡ Some (number, mid) → (number ≡ 0 → ⊥)
    → header_says fault (outcome_of (operands number) mid) → IsReading read bits total → header_says fault total
reading_fails fault read bits mid number total h other k r = at r.bound r.enough r.whole
  where
    at : (bound : ℕ) → length bits ≤ bound → prepended read (outcome_of (operations bound) bits) ≡ total → header_says fault total
    at zero enough whole = absurd (omega (arith, ue_shorter 6 number bits mid h))
    at (suc bound) enough whole =
        let failed = says_then fault (outcome_of (operands number) mid) (λ first after. outcome_of (others_after bound first) after) k in
        let whole_fails = says_then fault (outcome_of (operations (suc bound)) bits) (λ xs after. Found (read ++ xs) after) (subst (header_says fault) (sym (step bound number bits mid h other)) failed) in
        subst (header_says fault) whole whole_fails

-- a number takes bits
pub shorter : (bits mid after : List Bool) (number : ℕ) (first : MemoryManagement) → front (Ue 6) bits ≡ Some (number, mid) → outcome_of (operands number) mid ≡ Found first after → length after < length bits
shorter bits mid after number first h k = omega (arith, ue_shorter 6 number bits mid h, operands_no_longer number mid after first k)
