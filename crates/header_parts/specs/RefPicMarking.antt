-- Decoded reference picture marking (ITU-T H.264, 7.3.3.3, with Table 7-9).
use Rattle.std.specs.Prelude.{ℕ, zero, suc, ◌==◌, Bool, false, not, ◌&&◌, List, [], ◌∷◌, ◌++◌, if◌then◌else◌}
use Rattle.std.specs.List.{flat_map, AllByRecursion}
use Rattle.bit_texts.specs.Texts.{when_text, IsWhen}
use Rattle.exp_golomb.specs.Code as code
use Rattle.exp_golomb.specs.Code.{Flag, Ue, IsIn}
use Rattle.exp_golomb.specs.Syntax.{Syntax, Done, Never, Bounded, ◌>>=◌, ue, when, joined}
use Rattle.header_parts.specs.Refusal.{Refusal}
use Rattle.header_parts.specs.NalHeader.{is_idr, is_reference}
use Rattle.header_parts.specs.When.{element_when, code_when, IsInWhen}
use Rattle.header_parts.specs.declared.header.MemoryManagement.{MemoryManagement}
use Rattle.header_parts.specs.declared.header.MemoryManagement.TheVariants.{ShortTermUnused, LongTermUnused, ShortTermToLongTerm, MaxLongTerm, AllUnused, CurrentToLongTerm}
use Rattle.header_parts.specs.declared.parts.Marking.{Marking}

-- a number without a bound of its own
abbrev pub any : Syntax Refusal ℕ
any = ue 4294967294

-- the operands of an operation, 1 to 6
unfoldable pub operands : ℕ → Syntax Refusal MemoryManagement
operands operation =
    if operation == 1 then any >>= (λ difference_of_pic_nums_minus1. Done (ShortTermUnused difference_of_pic_nums_minus1))
    else if operation == 2 then any >>= (λ long_term_pic_num. Done (LongTermUnused long_term_pic_num))
    else if operation == 3 then any >>= (λ difference_of_pic_nums_minus1. any >>= (λ long_term_frame_idx. Done (ShortTermToLongTerm difference_of_pic_nums_minus1 long_term_frame_idx)))
    else if operation == 4 then any >>= (λ max_long_term_frame_idx_plus1. Done (MaxLongTerm max_long_term_frame_idx_plus1))
    else if operation == 5 then Done AllUnused
    else any >>= (λ long_term_frame_idx. Done (CurrentToLongTerm long_term_frame_idx))

-- operations up to one of number 0; at most so many members
unfoldable pub operations : ℕ → Syntax Refusal (List MemoryManagement)
operations zero = Never
operations (suc bound) = do
  memory_management_control_operation ← ue 6
  if memory_management_control_operation == 0 then Done [] else (do
    first ← operands memory_management_control_operation
    others ← operations bound
    Done (first ∷ others))

abbrev pub operation_list : Syntax Refusal (List MemoryManagement)
operation_list = Bounded operations

-- the marking of an IDR picture, and that of another reference picture
abbrev pub marks_idr : ℕ → Bool
marks_idr nal = is_reference nal && is_idr nal

abbrev pub marks_other : ℕ → Bool
marks_other nal = is_reference nal && not (is_idr nal)

-- dec_ref_pic_marking( ), where nal_ref_idc isn't 0
unfoldable pub dec_ref_pic_marking : ℕ → Syntax Refusal Marking
dec_ref_pic_marking nal = do
  no_output_of_prior_pics_flag ← element_when (marks_idr nal) Flag false
  long_term_reference_flag ← element_when (marks_idr nal) Flag false
  adaptive_ref_pic_marking_mode_flag ← element_when (marks_other nal) Flag false
  operations ← when adaptive_ref_pic_marking_mode_flag [] operation_list
  Done (record {
    no_output_of_prior_pics_flag = no_output_of_prior_pics_flag;
    long_term_reference_flag = long_term_reference_flag;
    adaptive_ref_pic_marking_mode_flag = adaptive_ref_pic_marking_mode_flag;
    operations = operations;
  })

-- ---- codes

-- an operation and its operands
abbrev pub operation_text : MemoryManagement → List Bool
operation_text (ShortTermUnused difference_of_pic_nums_minus1) = code.ue 1 ++ code.ue difference_of_pic_nums_minus1
operation_text (LongTermUnused long_term_pic_num) = code.ue 2 ++ code.ue long_term_pic_num
operation_text (ShortTermToLongTerm difference_of_pic_nums_minus1 long_term_frame_idx) = code.ue 3 ++ (code.ue difference_of_pic_nums_minus1 ++ code.ue long_term_frame_idx)
operation_text (MaxLongTerm max_long_term_frame_idx_plus1) = code.ue 4 ++ code.ue max_long_term_frame_idx_plus1
operation_text AllUnused = code.ue 5
operation_text (CurrentToLongTerm long_term_frame_idx) = code.ue 6 ++ code.ue long_term_frame_idx

abbrev pub operations_text : List MemoryManagement → List Bool
operations_text operations = flat_map operation_text operations ++ code.ue 0

abbrev pub marking_text : ℕ → Marking → List Bool
marking_text nal m = joined (
    code_when (marks_idr nal) Flag m.no_output_of_prior_pics_flag
    ∷ code_when (marks_idr nal) Flag m.long_term_reference_flag
    ∷ code_when (marks_other nal) Flag m.adaptive_ref_pic_marking_mode_flag
    ∷ when_text m.adaptive_ref_pic_marking_mode_flag operations_text m.operations
    ∷ [])

-- ---- ranges

abbrev pub IsAny : ℕ → Type 0
IsAny value = IsIn (Ue 4294967294) value

abbrev pub IsOperation : MemoryManagement → Type 0
IsOperation (ShortTermUnused difference_of_pic_nums_minus1) = IsAny difference_of_pic_nums_minus1
IsOperation (LongTermUnused long_term_pic_num) = IsAny long_term_pic_num
IsOperation (ShortTermToLongTerm difference_of_pic_nums_minus1 long_term_frame_idx) = IsAny difference_of_pic_nums_minus1 × IsAny long_term_frame_idx
IsOperation (MaxLongTerm max_long_term_frame_idx_plus1) = IsAny max_long_term_frame_idx_plus1
IsOperation AllUnused = Unit {0}
IsOperation (CurrentToLongTerm long_term_frame_idx) = IsAny long_term_frame_idx

pub record MarkingFits (nal : ℕ) (m : Marking) : Type 0 where
  pub no_output_of_prior_pics_flag : IsInWhen (marks_idr nal) Flag false m.no_output_of_prior_pics_flag
  pub long_term_reference_flag : IsInWhen (marks_idr nal) Flag false m.long_term_reference_flag
  pub adaptive_ref_pic_marking_mode_flag : IsInWhen (marks_other nal) Flag false m.adaptive_ref_pic_marking_mode_flag
  pub operations : IsWhen m.adaptive_ref_pic_marking_mode_flag [] (λ operations. AllByRecursion IsOperation operations) m.operations
