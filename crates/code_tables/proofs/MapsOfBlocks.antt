-- The entries of the maps of 8x8 blocks, by one test of each.
use Rattle.std.proofs.Common.{◌≡◌, ℕ, ◌<◌, Bool, true, false, get_or, nat_lt, Some, refl}
use Rattle.std.specs.Prelude.{slice_get}
use Rattle.std.proofs.lemmas.Bool.{ltb-true}
use Rattle.std.proofs.lemmas.Option.{slice_get-get_or}
use Rattle.code_tables.specs.SignificanceMaps.{significance_list, last_list}
use Rattle.code_tables.proofs.CodeTables.{all_below-at}

pub last_entry : (place at : ℕ) → at ≡ place → place < 63 → slice_get last_list place ≡ Some (get_or last_list at 0)
last_entry place at e h = rw e (slice_get-get_or last_list place 0 h)

pub last_in_range : (place at : ℕ) → at ≡ place → place < 63 → get_or last_list at 0 < 9
last_in_range place at e h = rw e (ltb-true (get_or last_list place 0) 9 (all_below-at (λ i. nat_lt (get_or last_list i 0) 9) 63 place refl h))

pub entry : (field : Bool) (place at : ℕ) → at ≡ place → place < 63 → slice_get (significance_list field) place ≡ Some (get_or (significance_list field) at 0)
entry true place at e h = rw e (slice_get-get_or (significance_list true) place 0 h)
entry false place at e h = rw e (slice_get-get_or (significance_list false) place 0 h)

pub in_range : (field : Bool) (place at : ℕ) → at ≡ place → place < 63 → get_or (significance_list field) at 0 < 15
in_range true place at e h = rw e (ltb-true (get_or (significance_list true) place 0) 15 (all_below-at (λ i. nat_lt (get_or (significance_list true) i 0) 15) 63 place refl h))
in_range false place at e h = rw e (ltb-true (get_or (significance_list false) place 0) 15 (all_below-at (λ i. nat_lt (get_or (significance_list false) i 0) 15) 63 place refl h))
