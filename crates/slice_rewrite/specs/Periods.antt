-- The IDR periods of a stream, which are numbered from 1 on, and those that are recoded: each begins with an IDR picture, and
-- the slices before the first one are those of period 0.
use Rattle.std.specs.Prelude.{ℕ, ◌+◌, ◌-◌, Bool, true, false, not, ◌&&◌, ◌==◌, nat_le, if◌then◌else◌, List, [], ◌∷◌, Option, Some, None}
use Rattle.header_parts.specs.NalHeader.{is_idr}
use Rattle.slice_rewrite.specs.Items.{Slice, Item, Carried, TheSps, ThePps, TheSlice}

-- idr_pic_id of a slice of an IDR picture (7.4.3)
abbrev pub idr_of : Slice → Option ℕ
idr_of s = if is_idr s.header.nal then Some s.header.idr_pic_id else None

-- that of the last slice among these items, of which the last one comes first, where there is one and it is of an IDR picture
abbrev pub idr_before : List Item → Option ℕ
idr_before [] = None
idr_before (Carried unit ∷ before) = idr_before before
idr_before (TheSps header sps ∷ before) = idr_before before
idr_before (ThePps header pps ∷ before) = idr_before before
idr_before (TheSlice s ∷ before) = idr_of s

-- an IDR picture begins with a slice of an IDR picture, unless the slice before it is one of the same idr_pic_id (7.4.1.2.4)
abbrev pub begins_idr : Option ℕ → Option ℕ → Bool
begins_idr last None = false
begins_idr None (Some id) = true
begins_idr (Some last) (Some id) = not (last == id)

-- a period begins with this slice, behind these items
abbrev pub begins_period : List Item → Slice → Bool
begins_period before s = begins_idr (idr_before before) (idr_of s)

-- how many periods have begun among these items, of which the last one comes first
abbrev pub periods_in : List Item → ℕ
periods_in [] = 0
periods_in (Carried unit ∷ before) = periods_in before
periods_in (TheSps header sps ∷ before) = periods_in before
periods_in (ThePps header pps ∷ before) = periods_in before
periods_in (TheSlice s ∷ before) = if begins_period before s then periods_in before + 1 else periods_in before

-- the period of a slice behind these items
abbrev pub period_of : List Item → Slice → ℕ
period_of before s = periods_in (TheSlice s ∷ before)

-- a period is among those from the first to the last one of a range; without a range all are
abbrev pub is_period_in : Option (ℕ × ℕ) → ℕ → Bool
is_period_in None period = true
is_period_in (Some range) period = nat_le range.0 period && nat_le period range.1

-- the slice is recoded
abbrev pub is_in_range : Option (ℕ × ℕ) → List Item → Slice → Bool
is_in_range range before s = is_period_in range (period_of before s)

-- the number under which a slice that is recoded names the picture parameter set of this number: in a partial run that of the
-- one in the wanted layer
abbrev pub number_in : Option (ℕ × ℕ) → ℕ → ℕ
number_in None number = number
number_in (Some range) number = 255 - number
