-- Units that are written with start codes of four bytes split into themselves.
use Rattle.std.proofs.Common.{Option, ◌≡◌, ◌≢◌, ℕ, ◌<◌, true, false, List, [], ◌∷◌, map, replicate, None, refl, arith, ◌⊎◌, inl, inr, lit<, lit≤}
use Rattle.std.specs.List.{concat}
use Rattle.std.proofs.lemmas.Bool.Decides.{nat_tests}
use Rattle.h264_types.specs.declared.fault.Why.{Why}
use Rattle.h264_types.specs.Units.{ends_unit, NoEndIn, IsHeaded, IsClosed, EndsNonzero, IsUnitBefore, Splits}
use Rattle.h264_types.proofs.Seen.{ends_unit-first, ends_unit-second}
use Rattle.slice_rewrite.specs.Written.{with_start_code}

-- a unit that can be written
pub record Fits (u : List ℕ) : Type 0 where
  pub headed : IsHeaded u
  pub closed : IsClosed u
  pub ends : EndsNonzero u

abbrev pub AllFit : List (List ℕ) → Type 0
AllFit [] = Unit {0}
AllFit (u ∷ us) = Fits u × AllFit us

closed-from : (u t : List ℕ) → NoEndIn u t → EndsNonzero u → IsClosed u
closed-from [] t h e v = tt
closed-from (x ∷ []) t h e v = (ends_unit-first x v e, tt)
closed-from (x ∷ y ∷ []) t h e v = (ends_unit-second x y v e, (ends_unit-first y v e, tt))
closed-from (x ∷ y ∷ z ∷ u) t h e v = (h.0, closed-from (y ∷ z ∷ u) t h.1 e v)

last-byte : (x : ℕ) (t : List ℕ) → ends_unit (x ∷ t) ≡ false → ends_unit t ≡ true → x ≢ 0
last-byte x [] h e = absurd (cc)
last-byte x (a ∷ []) h e = absurd (cc)
last-byte x (a ∷ b ∷ []) h e = absurd (cc)
last-byte x (a ∷ b ∷ c ∷ t) h e = grind (arith, nat_tests)

-- in front of a place where a unit ends stands no zero byte
nonzero-before : (u t : List ℕ) → NoEndIn u t → ends_unit t ≡ true → EndsNonzero u
nonzero-before [] t h e = tt
nonzero-before (x ∷ []) t h e = last-byte x t h.0 e
nonzero-before (x ∷ y ∷ u) t h e = nonzero-before (y ∷ u) t h.1 e

ends-nonzero : (u t : List ℕ) → NoEndIn u t → (ends_unit t ≡ true) ⊎ ((k : ℕ) × (k < 3) × (t ≡ replicate k 0) × EndsNonzero u) → EndsNonzero u
ends-nonzero u t h (inl e) = nonzero-before u t h e
ends-nonzero u t h (inr k) = k.3

unit-fits : (u t : List ℕ) → IsUnitBefore u t → IsHeaded u → Fits u
unit-fits u t h headed =
    let e = ends-nonzero u t h.first h.end in
    record { headed = headed; closed = closed-from u t h.first e; ends = e }

-- the units that were read can be written
pub split-units_fit : (b : List ℕ) (us : List (List ℕ)) (fault : Option Why) → Splits b us fault → AllFit us
split-units_fit b [] fault h = tt
split-units_fit b (u ∷ us) fault h = (unit-fits u h.1 h.4 h.5, split-units_fit h.1 us fault h.6)

-- what is written splits into the units
pub written-splits : (us : List (List ℕ)) → AllFit us → Splits (concat (map with_start_code us)) us None
written-splits [] h = (0, refl)
written-splits (u ∷ us) h =
    (3, concat (map with_start_code us), lit≤ tt, refl, record { first = h.0.closed (concat (map with_start_code us)); end = end us }, h.0.headed, written-splits us h.1)
  where
    end : (vs : List (List ℕ)) → (ends_unit (concat (map with_start_code vs)) ≡ true) ⊎ ((k : ℕ) × (k < 3) × (concat (map with_start_code vs) ≡ replicate k 0) × EndsNonzero u)
    end [] = inr (0, lit< tt, refl, h.0.ends)
    end (v ∷ vs) = inl refl
