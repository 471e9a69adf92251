-- The active references, the modifications of their lists and their weights are read from their texts, and what is read
-- has that text.
use Rattle.std.proofs.Common.{◌≡◌, ℕ, ◌≤◌, Bool, true, false, not, List, ◌++◌, Option, Some, None, refl, sym, ◌∙◌, append_assoc, arith}
use Rattle.std.specs.Prelude.{◌&&◌}
use Rattle.bit_texts.specs.Texts.{IsWhen, when_text}
use Rattle.exp_golomb.specs.Code.{Flag, Ue}
use Rattle.exp_golomb.specs.Syntax.{Syntax, Done, Found, Spells, outcome_of}
use Rattle.exp_golomb.proofs.Written.{done_again, holds_in_range, part_again}
use Rattle.param_sets.proofs.Spelled.{found_then, found_in_range, same_found, Begins, begins, begins_then, begins_last, ue_most}
use Rattle.param_sets.specs.declared.pps.Pps.{Pps}
use Rattle.ref_pic_lists.specs.Faults.{list_says}
use Rattle.ref_pic_lists.specs.PredWeightTable.{pred_weight_table, InRange, IsOptional}
use Rattle.ref_pic_lists.specs.RefPicListModification.{modification_text, ModificationFits}
use Rattle.ref_pic_lists.specs.declared.fault.ListFault.{ListFault}
use Rattle.ref_pic_lists.specs.declared.fault.ListFault.TheVariants as lists
use Rattle.ref_pic_lists.specs.declared.modification.ListModification.{ListModification}
use Rattle.ref_pic_lists.specs.declared.weights.WeightTable.{WeightTable}
use Rattle.ref_pic_lists.proofs.AnyRefusal.{Alike}
use Rattle.ref_pic_lists.proofs.ModificationTexts.{modification_spelled, modification_again}
use Rattle.ref_pic_lists.proofs.WeightTexts.{weights_spelled, weights_again}
use Rattle.header_parts.specs.Refusal.{Refusal, header_says, list_fault}
use Rattle.header_parts.specs.SliceTypes.{is_i, is_b}
use Rattle.header_parts.specs.When.{element_when, IsInWhen}
use Rattle.header_parts.specs.References.{active_l0, are_few, active_references, references_text, ReferencesFit}
use Rattle.header_parts.specs.ReferenceLists.{no_modification, modification_when, has_weights, weighted_l1, weights_when, reference_lists, table_text, lists_text, TableFits, ListsFit}
use Rattle.header_parts.specs.declared.parts.ActiveReferences.{ActiveReferences}
use Rattle.header_parts.specs.declared.parts.ReferenceLists.{ReferenceLists}
use Rattle.header_parts.proofs.PartTexts.{when_spelled, when_again}

-- ---- the active references

pub references_spelled : (pps : Pps) (slice_type : ℕ) (field : Bool) (bits : List Bool) (r : ActiveReferences) (rest : List Bool) → Spells (active_references pps slice_type field) bits (Found r rest)
    → ReferencesFit pps slice_type field r × Begins (references_text slice_type r) bits rest
unfolding active_references
references_spelled pps slice_type field bits r rest h =
    let a = found_then (element_when (is_b slice_type) Flag false) _ bits r rest h in
    let b = found_then (element_when (not (is_i slice_type)) Flag false) _ a.1 r rest a.3 in
    let c = found_then (element_when b.0 (Ue 31) 0) _ b.1 r rest b.3 in
    let d = found_then (element_when (b.0 && is_b slice_type) (Ue 31) 0) _ c.1 r rest c.3 in
    let found : ActiveReferences = record { direct_spatial_mv_pred_flag = a.0; num_ref_idx_active_override_flag = b.0; num_ref_idx_l0_active_minus1 = c.0; num_ref_idx_l1_active_minus1 = d.0 } in
    let few = found_in_range {E = Refusal} {A = ActiveReferences} (are_few pps slice_type field found) _ d.1 r rest d.3 in
    let direct = when_spelled (is_b slice_type) Flag false bits a.0 a.1 a.2 in
    let overridden = when_spelled (not (is_i slice_type)) Flag false a.1 b.0 b.1 b.2 in
    let l0 = when_spelled b.0 (Ue 31) 0 b.1 c.0 c.1 c.2 in
    let l1 = when_spelled (b.0 && is_b slice_type) (Ue 31) 0 c.1 d.0 d.1 d.2 in
    let same = same_found r found rest d.1 (Found r rest) refl few.1 in
    done _ _ same.0 same.1 (
      record {
        direct_spatial_mv_pred_flag = direct.0;
        num_ref_idx_active_override_flag = overridden.0;
        num_ref_idx_l0_active_minus1 = l0.0;
        num_ref_idx_l1_active_minus1 = l1.0;
        few = few.0;
      },
      begins_then direct.1 (begins_then overridden.1 (begins_then l0.1 (begins_last l1.1))),
    )
  where
    done : (q : ActiveReferences) (tail : List Bool) → r ≡ q → rest ≡ tail → ReferencesFit pps slice_type field q × Begins (references_text slice_type q) bits tail → ReferencesFit pps slice_type field r × Begins (references_text slice_type r) bits rest
    done q tail e k so = rw (e, k) so

pub references_again : (pps : Pps) (slice_type : ℕ) (field : Bool) (r : ActiveReferences) (rest : List Bool) → ReferencesFit pps slice_type field r
    → outcome_of (active_references pps slice_type field) (references_text slice_type r ++ rest) ≡ Found r rest
unfolding active_references
references_again pps slice_type field r rest fits =
    simp append_assoc (
    part_again (element_when (is_b slice_type) Flag false) _ r.direct_spatial_mv_pred_flag _ _ (when_again (is_b slice_type) Flag false r.direct_spatial_mv_pred_flag _ fits.direct_spatial_mv_pred_flag)
    ∙ part_again (element_when (not (is_i slice_type)) Flag false) _ r.num_ref_idx_active_override_flag _ _ (when_again (not (is_i slice_type)) Flag false r.num_ref_idx_active_override_flag _ fits.num_ref_idx_active_override_flag)
    ∙ part_again (element_when r.num_ref_idx_active_override_flag (Ue 31) 0) _ r.num_ref_idx_l0_active_minus1 _ _ (when_again r.num_ref_idx_active_override_flag (Ue 31) 0 r.num_ref_idx_l0_active_minus1 _ fits.num_ref_idx_l0_active_minus1)
    ∙ part_again (element_when (r.num_ref_idx_active_override_flag && is_b slice_type) (Ue 31) 0) _ r.num_ref_idx_l1_active_minus1 _ _ (when_again (r.num_ref_idx_active_override_flag && is_b slice_type) (Ue 31) 0 r.num_ref_idx_l1_active_minus1 _ fits.num_ref_idx_l1_active_minus1)
    ∙ holds_in_range _ _ _ fits.few
    ∙ done_again r rest)

-- what is sent in a header is at most 31
pub sent_most : (present : Bool) (most value : ℕ) → IsInWhen present (Ue most) 0 value → value ≤ most
sent_most true most value h = ue_most most value h
sent_most false most value h = rw h (omega arith)

-- ---- what a reader of reference lists answers is what one of headers does

pub answers_alike : {A : Type 0} (syntax : Syntax ⊥ A) (wide : Syntax Refusal A) → Alike syntax wide → (value : A) (bits rest : List Bool) → outcome_of syntax bits ≡ Found value rest → outcome_of wide bits ≡ Found value rest
answers_alike {A} syntax wide alike value bits rest h = alike.same bits ∙ rw h refl

pub faults_alike : {A : Type 0} (syntax : Syntax ⊥ A) (wide : Syntax Refusal A) → Alike syntax wide → (fault : ListFault) (bits : List Bool) → list_says fault (outcome_of syntax bits) → header_says (list_fault fault) (outcome_of wide bits)
faults_alike syntax wide alike lists.NoReading bits h = alike.same bits ∙ rw h refl
faults_alike syntax wide alike lists.Memory bits h = tt

-- ---- the lists

modification_when_spelled : (present : Bool) (bits : List Bool) (m : ListModification) (rest : List Bool) → Spells (modification_when present) bits (Found m rest)
    → IsWhen present no_modification ModificationFits m × Begins (when_text present modification_text m) bits rest
modification_when_spelled true bits m rest h = modification_spelled Refusal bits m rest h
modification_when_spelled false bits m rest h =
    let same = same_found m no_modification rest bits (Found m rest) refl h in
    (same.0, begins (sym same.1))

modification_when_again : (present : Bool) (m : ListModification) (rest : List Bool) → IsWhen present no_modification ModificationFits m → outcome_of (modification_when present) (when_text present modification_text m ++ rest) ≡ Found m rest
modification_when_again true m rest h = modification_again {E = Refusal} m rest h
modification_when_again false m rest h = rw h (done_again no_modification rest)

abbrev some : WeightTable → Option WeightTable
some table = Some table

table_spelled : (present : Bool) (l0 : ℕ) (l1 : Option ℕ) (bits : List Bool) (t : Option WeightTable) (rest : List Bool) → Spells (weights_when present l0 l1) bits (Found t rest)
    → TableFits present l0 l1 t × Begins (table_text t) bits rest
unfolding weights_when
table_spelled true l0 l1 bits t rest h =
    let a = found_then (pred_weight_table l0 l1) (λ table. Done (some table)) bits t rest h in
    let one = weights_spelled Refusal l0 l1 bits a.0 a.1 a.2 in
    let same = same_found t (some a.0) rest a.1 (Found t rest) refl a.3 in
    done (some a.0) a.1 same.0 same.1 one
  where
    done : (q : Option WeightTable) (tail : List Bool) → t ≡ q → rest ≡ tail → TableFits true l0 l1 q × Begins (table_text q) bits tail → TableFits true l0 l1 t × Begins (table_text t) bits rest
    done q tail e k so = rw (e, k) so
table_spelled false l0 l1 bits t rest h =
    let none : Option WeightTable = None in
    let same = same_found t none rest bits (Found t rest) refl h in
    (same.0, rw same.0 (begins (sym same.1)))

table_again : (present : Bool) (l0 : ℕ) (l1 : Option ℕ) (t : Option WeightTable) (rest : List Bool) → TableFits present l0 l1 t → outcome_of (weights_when present l0 l1) (table_text t ++ rest) ≡ Found t rest
unfolding weights_when
table_again true l0 l1 None rest h = absurd h
table_again true l0 l1 (Some t) rest h = part_again (pred_weight_table l0 l1) (λ table. Done (some table)) t _ rest (weights_again {E = Refusal} l0 l1 t rest h) ∙ done_again (some t) rest
table_again false l0 l1 t rest h = let none : Option WeightTable = None in rw h (done_again none rest)

-- the table of a header is in range
pub table_in_range : (present : Bool) (l0 : ℕ) (l1 : Option ℕ) (t : Option WeightTable) → TableFits present l0 l1 t → IsOptional InRange t
table_in_range true l0 l1 None h = absurd h
table_in_range true l0 l1 (Some t) h = h.in_range
table_in_range false l0 l1 t h = rw h tt

pub lists_spelled : (pps : Pps) (slice_type : ℕ) (r : ActiveReferences) (bits : List Bool) (l : ReferenceLists) (rest : List Bool) → Spells (reference_lists pps slice_type r) bits (Found l rest)
    → ListsFit pps slice_type r l × Begins (lists_text slice_type l) bits rest
unfolding reference_lists
lists_spelled pps slice_type r bits l rest h =
    let a = found_then (modification_when (not (is_i slice_type))) _ bits l rest h in
    let b = found_then (modification_when (is_b slice_type)) _ a.1 l rest a.3 in
    let c = found_then (weights_when (has_weights pps slice_type) (active_l0 pps slice_type r) (weighted_l1 pps slice_type r)) _ b.1 l rest b.3 in
    let first = modification_when_spelled (not (is_i slice_type)) bits a.0 a.1 a.2 in
    let second = modification_when_spelled (is_b slice_type) a.1 b.0 b.1 b.2 in
    let table = table_spelled (has_weights pps slice_type) (active_l0 pps slice_type r) (weighted_l1 pps slice_type r) b.1 c.0 c.1 c.2 in
    let same = same_found l _ rest _ (Found l rest) refl c.3 in
    done _ _ same.0 same.1 (record { modification_l0 = first.0; modification_l1 = second.0; pred_weight_table = table.0 }, begins_then first.1 (begins_then second.1 (begins_last table.1)))
  where
    done : (q : ReferenceLists) (tail : List Bool) → l ≡ q → rest ≡ tail → ListsFit pps slice_type r q × Begins (lists_text slice_type q) bits tail → ListsFit pps slice_type r l × Begins (lists_text slice_type l) bits rest
    done q tail e k so = rw (e, k) so

pub lists_again : (pps : Pps) (slice_type : ℕ) (r : ActiveReferences) (l : ReferenceLists) (rest : List Bool) → ListsFit pps slice_type r l → outcome_of (reference_lists pps slice_type r) (lists_text slice_type l ++ rest) ≡ Found l rest
unfolding reference_lists
lists_again pps slice_type r l rest fits =
    simp append_assoc (
    part_again (modification_when (not (is_i slice_type))) _ l.modification_l0 _ _ (modification_when_again (not (is_i slice_type)) l.modification_l0 _ fits.modification_l0)
    ∙ part_again (modification_when (is_b slice_type)) _ l.modification_l1 _ _ (modification_when_again (is_b slice_type) l.modification_l1 _ fits.modification_l1)
    ∙ part_again (weights_when (has_weights pps slice_type) (active_l0 pps slice_type r) (weighted_l1 pps slice_type r)) _ l.pred_weight_table _ _ (table_again (has_weights pps slice_type) (active_l0 pps slice_type r) (weighted_l1 pps slice_type r) l.pred_weight_table _ fits.pred_weight_table)
    ∙ done_again l rest)
