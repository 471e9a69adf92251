-- The prediction of P and B macroblocks in CABAC (7.3.5.1, 7.3.5.2). The elements are put into a macroblock one after another,
-- so that contexts rest on the macroblock as far as it was read. Which partitions send an element doesn't rest on the entropy
-- layer: those definitions are shared with CAVLC.
use Rattle.std.specs.Prelude.{ℕ, ◌-◌, nat_lt, Bool, if◌then◌else◌, ℤ, List, [], ◌∷◌, replicate, slice_set}
use Rattle.binarisation.specs.BinString.{BinString, Value, NoValue, ◌>>=◌}
use Rattle.binarisation.specs.Each.{each}
use Rattle.binarisation.specs.Elements as elements
use Rattle.binarisation.specs.MacroblockType as types
use Rattle.h264_types.specs.Kind.{has_sub_macroblocks}
use Rattle.h264_types.specs.Partition.{partition_of, part_of}
use Rattle.h264_types.specs.Valid as valid
use Rattle.h264_types.specs.declared.macroblock.Mb.{Mb}
use Rattle.h264_types.specs.declared.macroblock.MbKind.{MbKind}
use Rattle.h264_types.specs.declared.macroblock.MbKind.TheVariants.{Skip, Intra, P, B}
use Rattle.h264_types.specs.declared.slice_shape.SliceShape.{SliceShape}
use Rattle.cabac_contexts.specs.Increments as inc
use Rattle.cavlc_inter.specs.Parts.{first_of}
use Rattle.cavlc_inter.specs.InterPrediction.{has_ref, has_mvd, no_vector, parts_of, refs_of, mvds_of, active_at}

-- ---- sub_mb_type, of P_8x8 and B_8x8

-- the sub_mb_type of a quarter, by the slice type
abbrev pub sub_type : MbKind → BinString ℕ
sub_type (P n) = types.sub_p
sub_type (B n) = types.sub_b
sub_type Skip = NoValue
sub_type (Intra n) = NoValue

unfoldable pub sub_at : ℕ → Mb → BinString Mb
sub_at q mb = sub_type mb.kind >>= (λ sub. Value (record mb { subs = slice_set mb.subs q sub }))

-- those of all quarters, or 0
unfoldable pub subs : Mb → BinString Mb
subs mb = if has_sub_macroblocks mb.kind then each 4 sub_at 0 mb else Value (record mb { subs = replicate 4 0 })

-- ---- elements of partitions

-- The element of a place: behind the first place of its part, what the macroblock has there; at the first place, the element
-- that is sent where the part has one, and else `none`.
abbrev pub element : {A : Type 0} → (ℕ → ℕ) → (ℕ → Bool) → (ℕ → A) → A → BinString A → ℕ → BinString A
element part has before none sent n =
    if nat_lt (first_of part n) n then Value (before (first_of part n)) else
    if has n then sent else Value none

-- ---- ref_idx_l0 and ref_idx_l1, list x being 0 or 1

-- the greatest index of a list: none is sent where it is 0, since one reference alone is active
abbrev pub greatest_at : SliceShape → Mb → ℕ → ℕ
greatest_at shape mb x = active_at shape mb x - 1

-- whether the partition of a quarter has an index of the list
abbrev pub sends_refs : SliceShape → Mb → ℕ → ℕ → Bool
sends_refs shape mb x q = has_ref (parts_of mb.kind mb) x (greatest_at shape mb x) q

-- a greater index is of no macroblock
abbrev pub up_to : ℕ → ℕ → BinString ℕ
up_to greatest index = if nat_lt greatest index then NoValue else Value index

unfoldable pub sent_ref : SliceShape → List Mb → ℕ → ℕ → ℕ → Mb → BinString ℕ
sent_ref shape done at x q mb = elements.ref_idx (inc.ref_idx shape done at mb.field mb x q) >>= up_to (greatest_at shape mb x)

-- the index of a quarter
unfoldable pub ref_of : SliceShape → List Mb → ℕ → ℕ → ℕ → Mb → BinString ℕ
ref_of shape done at x q mb = element (partition_of mb.kind) (sends_refs shape mb x) (valid.ref_at mb x) 0 (sent_ref shape done at x q mb) q

abbrev pub with_refs : ℕ → Mb → List ℕ → Mb
with_refs x mb refs = record mb { refs = slice_set mb.refs x refs }

unfoldable pub ref_at : SliceShape → List Mb → ℕ → ℕ → ℕ → Mb → BinString Mb
ref_at shape done at x q mb = ref_of shape done at x q mb >>= (λ index. Value (with_refs x mb (slice_set (refs_of x mb) q index)))

unfoldable pub refs : SliceShape → List Mb → ℕ → ℕ → Mb → BinString Mb
refs shape done at x mb = each 4 (ref_at shape done at x) 0 mb

-- ---- mvd_l0 and mvd_l1

-- whether the part of a 4x4 block has a vector difference of the list
abbrev pub sends_mvds : Mb → ℕ → ℕ → Bool
sends_mvds mb x n = has_mvd (parts_of mb.kind mb) x n

-- x, then y
unfoldable pub sent_mvd : SliceShape → List Mb → ℕ → ℕ → ℕ → Mb → BinString (List ℤ)
sent_mvd shape done at x n mb =
    elements.mvd 40 (inc.mvd shape done at mb.field mb x n 0)
    >>= (λ across. elements.mvd 47 (inc.mvd shape done at mb.field mb x n 1)
    >>= (λ down. Value (across ∷ down ∷ [])))

-- the vector difference of a 4x4 block
unfoldable pub mvd_of : SliceShape → List Mb → ℕ → ℕ → ℕ → Mb → BinString (List ℤ)
mvd_of shape done at x n mb = element (part_of mb.kind mb.subs) (sends_mvds mb x) (valid.mvd_of mb x) no_vector (sent_mvd shape done at x n mb) n

abbrev pub with_mvds : ℕ → Mb → List (List ℤ) → Mb
with_mvds x mb mvds = record mb { mvd = slice_set mb.mvd x mvds }

unfoldable pub mvd_at : SliceShape → List Mb → ℕ → ℕ → ℕ → Mb → BinString Mb
mvd_at shape done at x n mb = mvd_of shape done at x n mb >>= (λ vector. Value (with_mvds x mb (slice_set (mvds_of x mb) n vector)))

unfoldable pub mvds : SliceShape → List Mb → ℕ → ℕ → Mb → BinString Mb
mvds shape done at x mb = each 16 (mvd_at shape done at x) 0 mb

-- ---- the prediction

-- the elements of a macroblock behind its mb_type and before its coded_block_pattern; skipped and direct ones have none
unfoldable pub inter_prediction : SliceShape → List Mb → ℕ → Mb → BinString Mb
inter_prediction shape done at mb =
    subs mb >>= refs shape done at 0 >>= refs shape done at 1 >>= mvds shape done at 0 >>= mvds shape done at 1
