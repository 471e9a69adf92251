-- The sets that are written stand for those that were read.
use Rattle.std.proofs.Common.{◌≡◌, ◌≢◌, ◌⊎◌, inl, inr, ℕ, ◌-◌, ◌<◌, Bool, true, false, cond, eqb, List, [], ◌∷◌, Option, Some, None, option_map, refl, sym, ap, ◌∙◌, arith}
use Rattle.std.specs.Prelude.{is_some, ◌||◌, ◌==◌}
use Rattle.std.proofs.lemmas.Bool.Decides.{eqb_tells}
use Rattle.h264_types.specs.declared.layer.Layer.{Layer}
use Rattle.param_sets.specs.PpsCodes.{pps_in}
use Rattle.param_sets.specs.Sets.{SetMaps, find_pps, find_sps, sps_put, pps_put}
use Rattle.param_sets.specs.SpsCodes.{without_constraints}
use Rattle.param_sets.specs.declared.pps.Pps.{Pps}
use Rattle.param_sets.specs.declared.sps.Sps.{Sps}
use Rattle.param_sets.proofs.SetMapLaws.{last_found}
use Rattle.slice_rewrite.specs.Items.{Item, Carried, TheSps, ThePps, TheSlice, sets_behind}
use Rattle.slice_rewrite.specs.Periods.{is_period_in, number_in}
use Rattle.slice_rewrite.specs.Verdict.{has_pps, number_stop}

-- Each set that was read stands as slices in range name it, in the wanted layer, and in a partial run as it was read too.
pub record Stand (to : Layer) (range : Option (ℕ × ℕ)) (sets new : SetMaps) : Type 0 where
  pub sps : (n : ℕ) → find_sps n new ≡ option_map without_constraints (find_sps n sets)
  pub moved : (n : ℕ) (pps : Pps) → find_pps n sets ≡ Some pps → find_pps (number_in range n) new ≡ Some (pps_in to (number_in range n) pps)
  pub kept : (period : ℕ) → is_period_in range period ≡ false → (n : ℕ) (pps : Pps) → find_pps n sets ≡ Some pps → find_pps n new ≡ Some pps
  pub few : (n : ℕ) (pps : Pps) → find_pps n sets ≡ Some pps → n < 256

-- ## What is found behind a set that was put

found-here : (pps : Pps) (sets : SetMaps) (n : ℕ) → n ≡ pps.pic_parameter_set_id → find_pps n (pps_put pps sets) ≡ Some pps
found-here pps sets n e = last_found n pps.pic_parameter_set_id pps sets.pps ∙ at (eqb_tells n pps.pic_parameter_set_id)
  where
    at : ((eqb n pps.pic_parameter_set_id ≡ true) × (n ≡ pps.pic_parameter_set_id)) ⊎ ((eqb n pps.pic_parameter_set_id ≡ false) × (n ≢ pps.pic_parameter_set_id)) → cond (eqb n pps.pic_parameter_set_id) (Some pps) (find_pps n sets) ≡ Some pps
    at (inl (t, same)) = ap (λ b. cond b (Some pps) (find_pps n sets)) t
    at (inr (t, other)) = absurd (other e)

found-behind : (pps : Pps) (sets : SetMaps) (n : ℕ) → n ≢ pps.pic_parameter_set_id → find_pps n (pps_put pps sets) ≡ find_pps n sets
found-behind pps sets n ne = last_found n pps.pic_parameter_set_id pps sets.pps ∙ at (eqb_tells n pps.pic_parameter_set_id)
  where
    at : ((eqb n pps.pic_parameter_set_id ≡ true) × (n ≡ pps.pic_parameter_set_id)) ⊎ ((eqb n pps.pic_parameter_set_id ≡ false) × (n ≢ pps.pic_parameter_set_id)) → cond (eqb n pps.pic_parameter_set_id) (Some pps) (find_pps n sets) ≡ find_pps n sets
    at (inl (t, same)) = absurd (ne same)
    at (inr (t, other)) = ap (λ b. cond b (Some pps) (find_pps n sets)) t

-- the set of a number is the one that was put, or it stood before
abbrev Found : Pps → SetMaps → ℕ → Pps → Type 0
Found pps sets n q = ((n ≡ pps.pic_parameter_set_id) × (pps ≡ q)) ⊎ ((n ≢ pps.pic_parameter_set_id) × (find_pps n sets ≡ Some q))

found : (pps : Pps) (sets : SetMaps) (n : ℕ) (q : Pps) → find_pps n (pps_put pps sets) ≡ Some q → Found pps sets n q
found pps sets n q e = at (eqb_tells n pps.pic_parameter_set_id)
  where
    at : ((eqb n pps.pic_parameter_set_id ≡ true) × (n ≡ pps.pic_parameter_set_id)) ⊎ ((eqb n pps.pic_parameter_set_id ≡ false) × (n ≢ pps.pic_parameter_set_id)) → Found pps sets n q
    at (inl (t, same)) = let g : Some pps ≡ Some q = sym (found-here pps sets n same) ∙ e in inl (same, cc)
    at (inr (t, other)) = inr (other, sym (found-behind pps sets n other) ∙ e)

none-some : {A : Type 0} {x : A} → None ≡ Some x → ⊥
none-some e = cc

-- ## Sequence parameter sets

pub stand-put_sps : (to : Layer) (range : Option (ℕ × ℕ)) (sets new : SetMaps) (sps : Sps) → Stand to range sets new → Stand to range (sps_put sps sets) (sps_put (without_constraints sps) new)
stand-put_sps to range sets new sps h = record {
  sps = λ n. last_found n sps.seq_parameter_set_id (without_constraints sps) new.sps ∙ at n (eqb n sps.seq_parameter_set_id) (h.sps n)
      ∙ ap (option_map without_constraints) (sym (last_found n sps.seq_parameter_set_id sps sets.sps));
  moved = h.moved;
  kept = h.kept;
  few = h.few;
}
  where
    at : (n : ℕ) (same : Bool) → find_sps n new ≡ option_map without_constraints (find_sps n sets)
        → cond same (Some (without_constraints sps)) (find_sps n new) ≡ option_map without_constraints (cond same (Some sps) (find_sps n sets))
    at n true e = refl
    at n false e = e

-- ## Picture parameter sets

few-put : (to : Layer) (range : Option (ℕ × ℕ)) (sets new : SetMaps) (pps : Pps) → pps.pic_parameter_set_id < 256 → Stand to range sets new → (n : ℕ) (q : Pps) → find_pps n (pps_put pps sets) ≡ Some q → n < 256
few-put to range sets new pps small h n q e = at (found pps sets n q e)
  where
    at : Found pps sets n q → n < 256
    at (inl (same, is)) = omega (arith, same, small)
    at (inr (other, f)) = h.few n q f

-- in a run that isn't partial
pub stand-one : (to : Layer) (sets new : SetMaps) (pps : Pps) → pps.pic_parameter_set_id < 256 → Stand to None sets new → Stand to None (pps_put pps sets) (pps_put (pps_in to pps.pic_parameter_set_id pps) new)
stand-one to sets new pps small h = record { sps = h.sps; moved = λ n q e. moved n q (found pps sets n q e); kept = λ period out. absurd (let both : true ≡ false = out in cc); few = few-put to None sets new pps small h }
  where
    moved : (n : ℕ) (q : Pps) → Found pps sets n q → find_pps n (pps_put (pps_in to pps.pic_parameter_set_id pps) new) ≡ Some (pps_in to n q)
    moved n q (inl (same, is)) =
        found-here (pps_in to pps.pic_parameter_set_id pps) new n same ∙ ap (λ k. Some (pps_in to k pps)) (sym same) ∙ ap (λ x. Some (pps_in to n x)) is
    moved n q (inr (other, e)) = found-behind (pps_in to pps.pic_parameter_set_id pps) new n other ∙ h.moved n q e

-- in a partial run, where the other number is free
pub stand-two : (to : Layer) (range : ℕ × ℕ) (sets new : SetMaps) (pps : Pps) → pps.pic_parameter_set_id < 256 → find_pps (255 - pps.pic_parameter_set_id) sets ≡ None → Stand to (Some range) sets new
    → Stand to (Some range) (pps_put pps sets) (pps_put (pps_in to (255 - pps.pic_parameter_set_id) pps) (pps_put pps new))
stand-two to range sets new pps small free h = record { sps = h.sps; moved = λ n q e. moved n q (found pps sets n q e); kept = λ period out n q e. kept period out n q (found pps sets n q e); few = few-put to (Some range) sets new pps small h }
  where
    -- the set of the other number wasn't read
    other_number : (n : ℕ) (q : Pps) → find_pps n sets ≡ Some q → n ≢ 255 - pps.pic_parameter_set_id
    other_number n q f e = none-some (sym free ∙ ap (λ k. find_pps k sets) (sym e) ∙ f)

    kept : (period : ℕ) → is_period_in (Some range) period ≡ false → (n : ℕ) (q : Pps) → Found pps sets n q → find_pps n (pps_put (pps_in to (255 - pps.pic_parameter_set_id) pps) (pps_put pps new)) ≡ Some q
    kept period out n q (inl (same, is)) =
        let far : n ≢ 255 - pps.pic_parameter_set_id = λ k. absurd (omega (arith, k, same, small)) in
        found-behind (pps_in to (255 - pps.pic_parameter_set_id) pps) (pps_put pps new) n far ∙ found-here pps new n same ∙ ap Some is
    kept period out n q (inr (other, e)) =
        found-behind (pps_in to (255 - pps.pic_parameter_set_id) pps) (pps_put pps new) n (other_number n q e) ∙ found-behind pps new n other ∙ h.kept period out n q e

    moved : (n : ℕ) (q : Pps) → Found pps sets n q → find_pps (255 - n) (pps_put (pps_in to (255 - pps.pic_parameter_set_id) pps) (pps_put pps new)) ≡ Some (pps_in to (255 - n) q)
    moved n q (inl (same, is)) =
        let k : 255 - n ≡ 255 - pps.pic_parameter_set_id = ap (λ v. 255 - v) same in
        found-here (pps_in to (255 - pps.pic_parameter_set_id) pps) (pps_put pps new) (255 - n) k ∙ ap (λ v. Some (pps_in to v pps)) (sym k) ∙ ap (λ x. Some (pps_in to (255 - n) x)) is
    moved n q (inr (other, e)) =
        let few : n < 256 = h.few n q e in
        let far = other_number n q e in
        let first : 255 - n ≢ 255 - pps.pic_parameter_set_id = λ k. other (omega (arith, k, few, small)) in
        let second : 255 - n ≢ pps.pic_parameter_set_id = λ k. far (omega (arith, k, few, small)) in
        found-behind (pps_in to (255 - pps.pic_parameter_set_id) pps) (pps_put pps new) (255 - n) first ∙ found-behind pps new (255 - n) second ∙ h.moved n q e

-- ## The sets that were put

-- a set of a number stands where one was put
pub found_put : (before : List Item) (n : ℕ) → is_some (find_pps n (sets_behind before)) ≡ has_pps before n
found_put [] n = refl
found_put (Carried unit ∷ before) n = found_put before n
found_put (TheSps header sps ∷ before) n = found_put before n
found_put (TheSlice s ∷ before) n = found_put before n
found_put (ThePps header pps ∷ before) n =
    ap is_some (last_found n pps.pic_parameter_set_id pps (sets_behind before).pps) ∙ at (eqb_tells n pps.pic_parameter_set_id) (eqb_tells pps.pic_parameter_set_id n) (found_put before n)
  where
    at : ((eqb n pps.pic_parameter_set_id ≡ true) × (n ≡ pps.pic_parameter_set_id)) ⊎ ((eqb n pps.pic_parameter_set_id ≡ false) × (n ≢ pps.pic_parameter_set_id))
        → ((eqb pps.pic_parameter_set_id n ≡ true) × (pps.pic_parameter_set_id ≡ n)) ⊎ ((eqb pps.pic_parameter_set_id n ≡ false) × (pps.pic_parameter_set_id ≢ n))
        → is_some (find_pps n (sets_behind before)) ≡ has_pps before n → is_some (cond (eqb n pps.pic_parameter_set_id) (Some pps) (find_pps n (sets_behind before))) ≡ ((pps.pic_parameter_set_id == n) || has_pps before n)
    at (inl (t, e)) (inl (u, f)) later = ap (λ b. is_some (cond b (Some pps) (find_pps n (sets_behind before)))) t ∙ sym (ap (λ b. b || has_pps before n) u)
    at (inl (t, e)) (inr (u, f)) later = absurd (f (sym e))
    at (inr (t, e)) (inl (u, f)) later = absurd (e (sym f))
    at (inr (t, e)) (inr (u, f)) later = ap (λ b. is_some (cond b (Some pps) (find_pps n (sets_behind before)))) t ∙ later ∙ sym (ap (λ b. b || has_pps before n) u)

-- where the number of a set that is put isn't taken, the other number is free
pub free_number : (range : ℕ × ℕ) (before : List Item) (n : ℕ) → number_stop (Some range) (has_pps before (255 - n)) ≡ None → find_pps (255 - n) (sets_behind before) ≡ None
free_number range before n go = none (find_pps (255 - n) (sets_behind before)) (found_put before (255 - n) ∙ untaken (has_pps before (255 - n)) go)
  where
    untaken : (taken : Bool) → number_stop (Some range) taken ≡ None → taken ≡ false
    untaken true e = absurd (let stop : Some _ ≡ None = e in cc)
    untaken false e = refl

    none : (o : Option Pps) → is_some o ≡ false → o ≡ None
    none None e = refl
    none (Some pps) e = absurd (let both : true ≡ false = e in cc)
