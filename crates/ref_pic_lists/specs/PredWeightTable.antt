-- The table of prediction weights (ITU-T H.264, 7.3.3.2), where chroma stands.
use Rattle.std.specs.Prelude.{◌≡◌, ℕ, ℤ, pos, negsuc, Bool, true, false, List, [], ◌∷◌, ◌++◌, length, Option, Some, None, if◌then◌else◌, Result, Ok, Err}
use Rattle.std.specs.List.{flat_map, AllByRecursion}
use Rattle.exp_golomb.specs.Code as code
use Rattle.exp_golomb.specs.Code.{Ue, Se, IsIn}
use Rattle.exp_golomb.specs.Syntax.{Syntax, Done, Found, Spells, ◌>>=◌, flag, ue, se, series, joined}
use Rattle.ref_pic_lists.specs.declared.fault.ListFault.{ListFault}
use Rattle.ref_pic_lists.specs.declared.fault.ListFault.TheVariants.{NoReading, Memory}
use Rattle.ref_pic_lists.specs.declared.weights.Weight.{Weight}
use Rattle.ref_pic_lists.specs.declared.weights.ChromaWeights.{ChromaWeights}
use Rattle.ref_pic_lists.specs.declared.weights.EntryWeights.{EntryWeights}
use Rattle.ref_pic_lists.specs.declared.weights.WeightTable.{WeightTable}

-- a weight or an offset
abbrev pub signed : {E : Type 0} → Syntax E ℤ
signed = se (negsuc 127) (pos 127)

unfoldable pub weight_and_offset : {E : Type 0} → Syntax E Weight
weight_and_offset = do
  weight ← signed
  offset ← signed
  Done (record { weight = weight; offset = offset })

-- for Cb, and then for Cr
unfoldable pub chroma_weights : {E : Type 0} → Syntax E ChromaWeights
chroma_weights = do
  cb ← weight_and_offset
  cr ← weight_and_offset
  Done (record { cb = cb; cr = cr })

-- what stands behind its flag where this is 1
unfoldable pub luma_when : {E : Type 0} → Bool → Syntax E (Option Weight)
luma_when luma_weight_flag = if luma_weight_flag then weight_and_offset >>= (λ luma. Done (Some luma)) else Done None

unfoldable pub chroma_when : {E : Type 0} → Bool → Syntax E (Option ChromaWeights)
chroma_when chroma_weight_flag = if chroma_weight_flag then chroma_weights >>= (λ chroma. Done (Some chroma)) else Done None

-- the weights of one reference
unfoldable pub entry : {E : Type 0} → Syntax E EntryWeights
entry = do
  luma_weight_flag ← flag
  luma ← luma_when luma_weight_flag
  chroma_weight_flag ← flag
  chroma ← chroma_when chroma_weight_flag
  Done (record { luma = luma; chroma = chroma })

-- those of so many active references
abbrev pub entries : {E : Type 0} → ℕ → Syntax E (List EntryWeights)
entries num_ref_idx_active = series num_ref_idx_active 0 (λ place. entry)

-- list 1 stands in B slices alone: elsewhere it has no number of active references
abbrev pub count_of : Option ℕ → ℕ
count_of None = 0
count_of (Some num_ref_idx_active) = num_ref_idx_active

-- pred_weight_table( )
unfoldable pub pred_weight_table : {E : Type 0} → ℕ → Option ℕ → Syntax E WeightTable
pred_weight_table num_ref_idx_l0_active num_ref_idx_l1_active = do
  luma_log2_weight_denom ← ue 7
  chroma_log2_weight_denom ← ue 7
  list_0 ← entries num_ref_idx_l0_active
  list_1 ← entries (count_of num_ref_idx_l1_active)
  Done (record {
    luma_log2_weight_denom = luma_log2_weight_denom;
    chroma_log2_weight_denom = chroma_log2_weight_denom;
    list_0 = list_0;
    list_1 = list_1;
  })

-- the bits begin with the text of this table for so many active references, and these follow
abbrev pub WeightsText : ℕ → Option ℕ → WeightTable → List Bool → List Bool → Type 0
WeightsText l0 l1 t bits rest = Spells {E = ⊥} (pred_weight_table l0 l1) bits (Found t rest)

-- what a reader answers of these bits, and leaves; NoReading says that they begin with the text of no table
abbrev pub ReadsWeights : ℕ → Option ℕ → Result WeightTable ListFault → List Bool → List Bool → Type 0
ReadsWeights l0 l1 (Ok t) bits rest = WeightsText l0 l1 t bits rest
ReadsWeights l0 l1 (Err NoReading) bits rest = (t : WeightTable) (after : List Bool) → ¬ WeightsText l0 l1 t bits after
ReadsWeights l0 l1 (Err Memory) bits rest = Unit {0}

-- ---- codes

abbrev pub weight_text : Weight → List Bool
weight_text w = code.se w.weight ++ code.se w.offset

abbrev pub chroma_text : ChromaWeights → List Bool
chroma_text c = weight_text c.cb ++ weight_text c.cr

abbrev pub optional_text : {A : Type 0} → (A → List Bool) → Option A → List Bool
optional_text text None = false ∷ []
optional_text text (Some value) = true ∷ text value

abbrev pub entry_text : EntryWeights → List Bool
entry_text e = optional_text weight_text e.luma ++ optional_text chroma_text e.chroma

abbrev pub weights_text : WeightTable → List Bool
weights_text t = joined (
    code.ue t.luma_log2_weight_denom
    ∷ code.ue t.chroma_log2_weight_denom
    ∷ flat_map entry_text t.list_0
    ∷ flat_map entry_text t.list_1
    ∷ [])

-- ---- ranges

abbrev pub IsSigned : ℤ → Type 0
IsSigned value = IsIn (Se (negsuc 127) (pos 127)) value

abbrev pub IsWeight : Weight → Type 0
IsWeight w = IsSigned w.weight × IsSigned w.offset

abbrev pub IsChroma : ChromaWeights → Type 0
IsChroma c = IsWeight c.cb × IsWeight c.cr

abbrev pub IsOptional : {A : Type 0} → (A → Type 0) → Option A → Type 0
IsOptional Is None = Unit {0}
IsOptional Is (Some value) = Is value

abbrev pub IsEntry : EntryWeights → Type 0
IsEntry e = IsOptional IsWeight e.luma × IsOptional IsChroma e.chroma

-- The elements are in range. That the sum of two weights is within its bounds where a reference of each list is weighted
-- explicitly isn't judged here.
pub record InRange (t : WeightTable) : Type 0 where
  pub luma_log2_weight_denom : IsIn (Ue 7) t.luma_log2_weight_denom
  pub chroma_log2_weight_denom : IsIn (Ue 7) t.chroma_log2_weight_denom
  pub list_0 : AllByRecursion IsEntry t.list_0
  pub list_1 : AllByRecursion IsEntry t.list_1

-- and the lists have an entry for each active reference
pub record WeightsFit (l0 : ℕ) (l1 : Option ℕ) (t : WeightTable) : Type 0 where
  pub in_range : InRange t
  pub count_0 : length t.list_0 ≡ l0
  pub count_1 : length t.list_1 ≡ count_of l1
