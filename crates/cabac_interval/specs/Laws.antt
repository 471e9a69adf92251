-- What the laws of intervals and codes say.
use Rattle.std.specs.Prelude.{◌≡◌, ℕ, ◌+◌, ◌*◌, ◌^◌, ◌≤◌, Bool, List, ◌∷◌, ◌++◌}
use Rattle.bit_texts.specs.Bits.{EndsInOne}
use Rattle.cabac_interval.specs.Interval.{Kind, Bin, Interval, IsCode}

-- the numbers of the inner interval begin with numbers of the outer one
pub record LiesWithin (inner outer : Interval) : Type 0 where
  pub more : ℕ
  pub doublings_are : inner.doublings ≡ outer.doublings + more
  pub above : outer.low * 2 ^ more ≤ inner.low
  pub below : inner.low + inner.range ≤ (outer.low + outer.range) * 2 ^ more

-- the kind of each bin is a function of the bins before it
abbrev pub FollowsRule : (List Bin → Kind) → List Bin → Type 0
FollowsRule rule bins = (earlier later : List Bin) (bin : Bin) → bins ≡ earlier ++ bin ∷ later → bin.kind ≡ rule earlier

-- the code of a segment's bins whose last bit is 1
pub record IsClosingCode (bins : List Bin) (code : List Bool) : Type 0 where
  pub is_code : IsCode bins code
  pub last_is_one : EndsInOne code
