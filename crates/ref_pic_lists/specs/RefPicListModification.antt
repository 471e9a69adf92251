-- The modification of a reference picture list (ITU-T H.264, 7.3.3.1, with Table 7-7).
use Rattle.std.specs.Prelude.{ℕ, zero, suc, ◌==◌, Bool, List, [], ◌∷◌, ◌++◌, if◌then◌else◌, Result, Ok, Err}
use Rattle.std.specs.List.{flat_map, AllByRecursion}
use Rattle.bit_texts.specs.Texts.{when_text, IsWhen}
use Rattle.exp_golomb.specs.Code as code
use Rattle.exp_golomb.specs.Code.{Ue, IsIn}
use Rattle.exp_golomb.specs.Syntax.{Syntax, Done, Never, Bounded, Found, Spells, ◌>>=◌, flag, ue, when, joined}
use Rattle.ref_pic_lists.specs.declared.fault.ListFault.{ListFault}
use Rattle.ref_pic_lists.specs.declared.fault.ListFault.TheVariants.{NoReading, Memory}
use Rattle.ref_pic_lists.specs.declared.modification.ListModification.{ListModification}
use Rattle.ref_pic_lists.specs.declared.modification.PicNumModification.{PicNumModification}
use Rattle.ref_pic_lists.specs.declared.modification.PicNumModification.TheVariants.{Subtract, Add, LongTerm}

-- a number without a bound of its own
abbrev pub any : {E : Type 0} → Syntax E ℕ
any = ue 4294967294

-- the operand of an operation, 0 to 2
unfoldable pub operand : {E : Type 0} → ℕ → Syntax E PicNumModification
operand modification_of_pic_nums_idc =
    if modification_of_pic_nums_idc == 0 then any >>= (λ abs_diff_pic_num_minus1. Done (Subtract abs_diff_pic_num_minus1))
    else if modification_of_pic_nums_idc == 1 then any >>= (λ abs_diff_pic_num_minus1. Done (Add abs_diff_pic_num_minus1))
    else any >>= (λ long_term_pic_num. Done (LongTerm long_term_pic_num))

-- operations up to one of 3; at most so many members
unfoldable pub operations : {E : Type 0} → ℕ → Syntax E (List PicNumModification)
operations zero = Never
operations (suc bound) = do
  modification_of_pic_nums_idc ← ue 3
  if modification_of_pic_nums_idc == 3 then Done [] else (do
    first ← operand modification_of_pic_nums_idc
    others ← operations bound
    Done (first ∷ others))

abbrev pub operation_list : {E : Type 0} → Syntax E (List PicNumModification)
operation_list = Bounded operations

-- ref_pic_list_modification( ) of one list: ref_pic_list_modification_flag_l0 or _l1, and its operations
unfoldable pub ref_pic_list_modification : {E : Type 0} → Syntax E ListModification
ref_pic_list_modification = do
  ref_pic_list_modification_flag ← flag
  operations ← when ref_pic_list_modification_flag [] operation_list
  Done (record { flag = ref_pic_list_modification_flag; operations = operations })

-- the bits begin with the text of this modification, and these follow
abbrev pub ModificationText : ListModification → List Bool → List Bool → Type 0
ModificationText m bits rest = Spells {E = ⊥} ref_pic_list_modification bits (Found m rest)

-- what a reader answers of these bits, and leaves; NoReading says that they begin with the text of no modification
abbrev pub ReadsModification : Result ListModification ListFault → List Bool → List Bool → Type 0
ReadsModification (Ok m) bits rest = ModificationText m bits rest
ReadsModification (Err NoReading) bits rest = (m : ListModification) (after : List Bool) → ¬ ModificationText m bits after
ReadsModification (Err Memory) bits rest = Unit {0}

-- ---- codes

-- an operation and its operand
abbrev pub operation_text : PicNumModification → List Bool
operation_text (Subtract abs_diff_pic_num_minus1) = code.ue 0 ++ code.ue abs_diff_pic_num_minus1
operation_text (Add abs_diff_pic_num_minus1) = code.ue 1 ++ code.ue abs_diff_pic_num_minus1
operation_text (LongTerm long_term_pic_num) = code.ue 2 ++ code.ue long_term_pic_num

abbrev pub operations_text : List PicNumModification → List Bool
operations_text operations = flat_map operation_text operations ++ code.ue 3

abbrev pub modification_text : ListModification → List Bool
modification_text m = joined ((m.flag ∷ []) ∷ when_text m.flag operations_text m.operations ∷ [])

-- ---- ranges

abbrev pub IsAny : ℕ → Type 0
IsAny value = IsIn (Ue 4294967294) value

abbrev pub IsOperation : PicNumModification → Type 0
IsOperation (Subtract abs_diff_pic_num_minus1) = IsAny abs_diff_pic_num_minus1
IsOperation (Add abs_diff_pic_num_minus1) = IsAny abs_diff_pic_num_minus1
IsOperation (LongTerm long_term_pic_num) = IsAny long_term_pic_num

-- The operands are in range, and where the flag is 0 no operation is kept. How many operations there are, and that each
-- names a picture, isn't judged here.
pub record ModificationFits (m : ListModification) : Type 0 where
  pub operations : IsWhen m.flag [] (λ operations. AllByRecursion IsOperation operations) m.operations
