-- The prediction of P and B macroblocks (7.3.5.1, 7.3.5.2).
use Rattle.std.specs.Prelude.{◌≡◌, ℕ, ◌-◌, ◌*◌, ◌/◌, ◌≤◌, ◌&&◌, nat_lt, Bool, if◌then◌else◌, ℤ, pos, negsuc, ◌≤ℤ◌, List, [], ◌∷◌, ◌++◌, length, replicate, slice_index, slice_index_or}
use Rattle.bit_texts.specs.Texts.{IsWhen, when_text, AreTurns, turns_text}
use Rattle.exp_golomb.specs.Code.{ue, te, se}
use Rattle.h264_types.specs.Kind.{has_sub_macroblocks}
use Rattle.h264_types.specs.Partition.{prediction_of, uses_list, partition_of, part_of}
use Rattle.h264_types.specs.Valid.{sub_bound}
use Rattle.h264_types.specs.declared.macroblock.MbKind.{MbKind}
use Rattle.h264_types.specs.declared.macroblock.Mb.{Mb}
use Rattle.h264_types.specs.declared.slice_shape.SliceShape.{SliceShape}
use Rattle.cavlc_inter.specs.declared.parts.Parts.{Parts}
use Rattle.cavlc_inter.specs.Parts.{IsElement, element_text, AreElements, elements_text, is_sent}

-- ---- sub_mb_type, of P_8x8, P_8x8ref0 and B_8x8

abbrev pub AreSubs : MbKind → List ℕ → Type 0
AreSubs kind subs = AreTurns (λ (_ : ℕ) sub. sub ≤ sub_bound kind) (λ s _. s) 4 0 subs

abbrev pub subs_text : List ℕ → List Bool
subs_text subs = turns_text (λ (_ : ℕ) sub. ue sub) (λ s _. s) 0 subs

abbrev pub AreSubsIf : MbKind → List ℕ → Type 0
AreSubsIf kind subs = IsWhen (has_sub_macroblocks kind) (replicate 4 0) (AreSubs kind) subs

abbrev pub subs_text_if : MbKind → List ℕ → List Bool
subs_text_if kind subs = when_text (has_sub_macroblocks kind) subs_text subs

-- whether a quarter is predicted from list x by what is sent
abbrev pub uses : Parts → ℕ → ℕ → Bool
uses parts x q = uses_list (prediction_of parts.kind (slice_index parts.subs q) q) x

-- ---- reference indices

-- the greatest index that is sent; 0, and none is, where one reference alone is active, and for P_8x8ref0
abbrev pub greatest_ref : Bool → ℕ → ℕ
greatest_ref ref0 active = if ref0 then 0 else active - 1

-- whether the partition of a quarter has an index of list x
abbrev pub has_ref : Parts → ℕ → ℕ → ℕ → Bool
has_ref parts x greatest q = nat_lt 0 greatest && uses parts x q

abbrev pub sends_ref : Parts → ℕ → ℕ → ℕ → Bool
sends_ref parts x greatest q = is_sent (partition_of parts.kind) (has_ref parts x greatest) q

abbrev pub IsRef : Parts → ℕ → ℕ → List ℕ → ℕ → Type 0
IsRef parts x greatest before index = IsElement (partition_of parts.kind) (has_ref parts x greatest) 0 (λ i. i ≤ greatest) before index

abbrev pub ref_text : Parts → ℕ → ℕ → List ℕ → ℕ → List Bool
ref_text parts x greatest before index = element_text (partition_of parts.kind) (has_ref parts x greatest) (te greatest) before index

abbrev pub AreRefs : Parts → ℕ → ℕ → List ℕ → Type 0
AreRefs parts x greatest refs = AreElements 4 (partition_of parts.kind) (has_ref parts x greatest) 0 (λ i. i ≤ greatest) refs

abbrev pub refs_text : Parts → ℕ → ℕ → List ℕ → List Bool
refs_text parts x greatest refs = elements_text (partition_of parts.kind) (has_ref parts x greatest) (te greatest) refs

-- ---- motion vector differences

abbrev pub IsDifference : ℤ → Type 0
IsDifference d = (negsuc 32766 ≤ℤ d) × (d ≤ℤ pos 32767)

-- x, then y
pub record IsVector (vector : List ℤ) : Type 0 where
  pub size : length vector ≡ 2
  pub x : IsDifference (slice_index_or vector 0 (pos 0))
  pub y : IsDifference (slice_index_or vector 1 (pos 0))

abbrev pub vector_text : List ℤ → List Bool
vector_text vector = se (slice_index_or vector 0 (pos 0)) ++ se (slice_index_or vector 1 (pos 0))

abbrev pub no_vector : List ℤ
no_vector = replicate 2 (pos 0)

-- whether the part of a block has a vector of list x
abbrev pub has_mvd : Parts → ℕ → ℕ → Bool
has_mvd parts x n = uses parts x (n / 4)

abbrev pub sends_mvd : Parts → ℕ → ℕ → Bool
sends_mvd parts x n = is_sent (part_of parts.kind parts.subs) (has_mvd parts x) n

abbrev pub IsMvd : Parts → ℕ → List (List ℤ) → List ℤ → Type 0
IsMvd parts x before vector = IsElement (part_of parts.kind parts.subs) (has_mvd parts x) no_vector IsVector before vector

abbrev pub mvd_text : Parts → ℕ → List (List ℤ) → List ℤ → List Bool
mvd_text parts x before vector = element_text (part_of parts.kind parts.subs) (has_mvd parts x) vector_text before vector

abbrev pub AreMvds : Parts → ℕ → List (List ℤ) → Type 0
AreMvds parts x vectors = AreElements 16 (part_of parts.kind parts.subs) (has_mvd parts x) no_vector IsVector vectors

abbrev pub mvds_text : Parts → ℕ → List (List ℤ) → List Bool
mvds_text parts x vectors = elements_text (part_of parts.kind parts.subs) (has_mvd parts x) vector_text vectors

-- ---- the prediction

abbrev pub parts_of : MbKind → Mb → Parts
parts_of kind mb = record { kind = kind; subs = mb.subs }

abbrev pub refs_of : ℕ → Mb → List ℕ
refs_of x mb = slice_index_or mb.refs x []

abbrev pub mvds_of : ℕ → Mb → List (List ℤ)
mvds_of x mb = slice_index_or mb.mvd x []

-- the greatest index of list x
abbrev pub greatest_of : Bool → List ℕ → ℕ → ℕ
greatest_of ref0 active x = greatest_ref ref0 (slice_index active x)

-- the elements of a macroblock of this type behind its mb_type, where so many references of each list are active
unfoldable pub inter_text : MbKind → Bool → List ℕ → Mb → List Bool
inter_text kind ref0 active mb =
    subs_text_if kind mb.subs
    ++ (refs_text (parts_of kind mb) 0 (greatest_of ref0 active 0) (refs_of 0 mb)
    ++ (refs_text (parts_of kind mb) 1 (greatest_of ref0 active 1) (refs_of 1 mb)
    ++ (mvds_text (parts_of kind mb) 0 (mvds_of 0 mb)
    ++ mvds_text (parts_of kind mb) 1 (mvds_of 1 mb))))

-- each element in its range where it is sent, else what its part has, and 0 where that has none
pub record IsInter (kind : MbKind) (ref0 : Bool) (active : List ℕ) (mb : Mb) : Type 0 where
  pub subs : AreSubsIf kind mb.subs
  pub refs_l0 : AreRefs (parts_of kind mb) 0 (greatest_of ref0 active 0) (refs_of 0 mb)
  pub refs_l1 : AreRefs (parts_of kind mb) 1 (greatest_of ref0 active 1) (refs_of 1 mb)
  pub mvd_l0 : AreMvds (parts_of kind mb) 0 (mvds_of 0 mb)
  pub mvd_l1 : AreMvds (parts_of kind mb) 1 (mvds_of 1 mb)
  pub lists : (length mb.refs ≡ 2) × (length mb.mvd ≡ 2)

-- a macroblock with the prediction of another one
abbrev pub with_inter : Mb → Mb → Mb
with_inter mb other = record mb { subs = other.subs; refs = other.refs; mvd = other.mvd }

-- ---- validity

-- how many references of list x are active for a macroblock: in a field macroblock of a frame twice as many (7.4.5.1)
abbrev pub active_at : SliceShape → Mb → ℕ → ℕ
active_at shape mb x = slice_index shape.refs x * (if shape.mbaff && mb.field then 2 else 1)

abbrev pub active_refs : SliceShape → Mb → List ℕ
active_refs shape mb = active_at shape mb 0 ∷ active_at shape mb 1 ∷ []
