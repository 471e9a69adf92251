-- No prediction has two strings of bins.
use Rattle.std.proofs.Common.{◌≡◌, ℕ, ◌<◌, ℤ, List, [], length, get_or, inl, inr, refl, sym, ap, subst, ◌∙◌, arith}
use Rattle.std.specs.Prelude.{slice_set}
use Rattle.std.proofs.lemmas.Bool.{cases_eq}
use Rattle.std.proofs.lemmas.List.{length-set, get_or-set_same, get_or-set_other, set-get_or}
use Rattle.binarisation.specs.BinString.{HasOneString, ◌>>=◌}
use Rattle.binarisation.proofs.Each.{then_one_where}
use Rattle.h264_types.specs.Sizes.{HasSizes}
use Rattle.h264_types.specs.declared.macroblock.Mb.{Mb}
use Rattle.h264_types.specs.declared.slice_shape.SliceShape.{SliceShape}
use Rattle.h264_types.proofs.Lists.{lists_of}
use Rattle.cavlc_inter.specs.InterPrediction.{refs_of, mvds_of}
use Rattle.cabac_inter.specs.InterPrediction.{subs, refs, with_refs, mvds, with_mvds, inter_prediction}
use Rattle.cabac_inter.proofs.Fronts.{set_set}
use Rattle.cabac_inter.proofs.Spelled.{Keeps, keeps_then}
use Rattle.cabac_inter.proofs.SpelledLists.{subs_kept, subs_one, refs_kept, refs_one, mvds_kept, mvds_one}

-- the lists of indices and of vector differences have their lengths
pub record Fits (m : Mb) : Type 0 where
  pub refs : length m.refs ≡ 2
  pub mvd : length m.mvd ≡ 2
  pub refs_of : (x : ℕ) → x < 2 → length (refs_of x m) ≡ 4
  pub mvds_of : (x : ℕ) → x < 2 → length (mvds_of x m) ≡ 16

pub fits_of : (mb : Mb) → HasSizes mb → Fits mb
fits_of mb sizes = let lists = lists_of mb sizes in record { refs = lists.refs; mvd = lists.mvd; refs_of = lists.refs_of; mvds_of = lists.mvds_of }

list_length : {A : Type 0} (n x y : ℕ) (lists : List (List A)) (xs : List A) → x < length lists → length xs ≡ n → length (get_or lists y []) ≡ n → length (get_or (slice_set lists x xs) y []) ≡ n
list_length n x y lists xs inside size others =
    elim (cases_eq y x) [
      | inl same ↦ ap (λ i. length (get_or (slice_set lists x xs) i [])) same ∙ ap length (get_or-set_same lists x xs [] inside) ∙ size
      | inr other ↦ ap length (get_or-set_other lists x y xs [] other) ∙ others
    ]

pub fits_refs : (x : ℕ) (m : Mb) (xs : List ℕ) → x < 2 → length xs ≡ 4 → Fits m → Fits (with_refs x m xs)
fits_refs x m xs h size fits = record {
  refs = length-set m.refs x xs ∙ fits.refs;
  mvd = fits.mvd;
  refs_of = λ y below. list_length 4 x y m.refs xs (omega (arith, h, fits.refs)) size (fits.refs_of y below);
  mvds_of = fits.mvds_of;
}

pub fits_mvds : (x : ℕ) (m : Mb) (xs : List (List ℤ)) → x < 2 → length xs ≡ 16 → Fits m → Fits (with_mvds x m xs)
fits_mvds x m xs h size fits = record {
  refs = fits.refs;
  mvd = length-set m.mvd x xs ∙ fits.mvd;
  refs_of = fits.refs_of;
  mvds_of = λ y below. list_length 16 x y m.mvd xs (omega (arith, h, fits.mvd)) size (fits.mvds_of y below);
}

module _ (shape : SliceShape) (done : List Mb) (at : ℕ) (mb : Mb) (size : length mb.subs ≡ 4) (start : Fits mb) where
  -- what each list keeps of the macroblock that the string began with
  abbrev AfterSubs : Mb → Type 0
  AfterSubs m = Fits m × (m.refs ≡ mb.refs) × (m.mvd ≡ mb.mvd)

  abbrev AfterL0 : Mb → Type 0
  AfterL0 m = Fits m × (refs_of 1 m ≡ refs_of 1 mb) × (m.mvd ≡ mb.mvd)

  abbrev AfterRefs : Mb → Type 0
  AfterRefs m = Fits m × (m.mvd ≡ mb.mvd)

  abbrev AfterMvdL0 : Mb → Type 0
  AfterMvdL0 m = Fits m × (mvds_of 1 m ≡ mvds_of 1 mb)

  after_subs : Keeps AfterSubs (subs mb)
  after_subs bins m h =
      let made = subs_kept mb size bins m h in
      subst AfterSubs (sym made.3) (record { refs = start.refs; mvd = start.mvd; refs_of = start.refs_of; mvds_of = start.mvds_of }, refl, refl)

  after_l0 : (m : Mb) → AfterSubs m → Keeps AfterL0 (refs shape done at 0 m)
  after_l0 m p bins v h =
      let made = refs_kept shape done at 0 m (omega (arith, p.0.refs)) (p.0.refs_of 0 (omega arith)) bins v h in
      subst AfterL0 (sym made.3) (fits_refs 0 m made.0 (omega arith) made.2 p.0, get_or-set_other m.refs 0 1 made.0 [] (λ e. omega (arith, e)) ∙ ap (λ l. get_or l 1 []) p.1, p.2)

  after_refs : (m : Mb) → AfterL0 m → Keeps AfterRefs (refs shape done at 1 m)
  after_refs m p bins v h =
      let made = refs_kept shape done at 1 m (omega (arith, p.0.refs)) (p.0.refs_of 1 (omega arith)) bins v h in
      subst AfterRefs (sym made.3) (fits_refs 1 m made.0 (omega arith) made.2 p.0, p.2)

  after_mvd_l0 : (m : Mb) → AfterRefs m → Keeps AfterMvdL0 (mvds shape done at 0 m)
  after_mvd_l0 m p bins v h =
      let made = mvds_kept shape done at 0 m (omega (arith, p.0.mvd)) (p.0.mvds_of 0 (omega arith)) bins v h in
      subst AfterMvdL0 (sym made.3) (fits_mvds 0 m made.0 (omega arith) made.2 p.0, get_or-set_other m.mvd 0 1 made.0 [] (λ e. omega (arith, e)) ∙ ap (λ l. get_or l 1 []) p.1)

  -- what follows tells what was before it
  before_l0 : (m : Mb) → AfterSubs m → Keeps (λ v. record v { refs = mb.refs } ≡ m) (refs shape done at 0 m)
  before_l0 m p bins v h =
      let made = refs_kept shape done at 0 m (omega (arith, p.0.refs)) (p.0.refs_of 0 (omega arith)) bins v h in
      ap (λ (w : Mb). record w { refs = mb.refs }) made.3 ∙ ap (λ l. record m { refs = l }) (sym p.1)

  before_refs : (m : Mb) → AfterL0 m → Keeps (λ v. record v { refs = slice_set v.refs 1 (refs_of 1 mb) } ≡ m) (refs shape done at 1 m)
  before_refs m p bins v h =
      let made = refs_kept shape done at 1 m (omega (arith, p.0.refs)) (p.0.refs_of 1 (omega arith)) bins v h in
      ap (λ (w : Mb). record w { refs = slice_set w.refs 1 (refs_of 1 mb) }) made.3
      ∙ ap (λ l. record m { refs = l }) (set_set m.refs 1 made.0 (refs_of 1 mb) ∙ ap (slice_set m.refs 1) (sym p.1) ∙ set-get_or m.refs 1 [])

  before_mvd_l0 : (m : Mb) → AfterRefs m → Keeps (λ v. record v { mvd = mb.mvd } ≡ m) (mvds shape done at 0 m)
  before_mvd_l0 m p bins v h =
      let made = mvds_kept shape done at 0 m (omega (arith, p.0.mvd)) (p.0.mvds_of 0 (omega arith)) bins v h in
      ap (λ (w : Mb). record w { mvd = mb.mvd }) made.3 ∙ ap (λ l. record m { mvd = l }) (sym p.1)

  before_mvds : (m : Mb) → AfterMvdL0 m → Keeps (λ v. record v { mvd = slice_set v.mvd 1 (mvds_of 1 mb) } ≡ m) (mvds shape done at 1 m)
  before_mvds m p bins v h =
      let made = mvds_kept shape done at 1 m (omega (arith, p.0.mvd)) (p.0.mvds_of 1 (omega arith)) bins v h in
      ap (λ (w : Mb). record w { mvd = slice_set w.mvd 1 (mvds_of 1 mb) }) made.3
      ∙ ap (λ l. record m { mvd = l }) (set_set m.mvd 1 made.0 (mvds_of 1 mb) ∙ ap (slice_set m.mvd 1) (sym p.1) ∙ set-get_or m.mvd 1 [])

  pub fitting_one : HasOneString (inter_prediction shape done at mb)
  unfolding inter_prediction
  fitting_one =
      then_one_where AfterMvdL0 (subs mb >>= refs shape done at 0 >>= refs shape done at 1 >>= mvds shape done at 0) (mvds shape done at 1) kept_mvd_l0
      (then_one_where AfterRefs (subs mb >>= refs shape done at 0 >>= refs shape done at 1) (mvds shape done at 0) kept_refs
      (then_one_where AfterL0 (subs mb >>= refs shape done at 0) (refs shape done at 1) kept_l0
      (then_one_where AfterSubs (subs mb) (refs shape done at 0) after_subs (subs_one mb size)
      (λ m p. refs_one shape done at 0 m (omega (arith, p.0.refs)) (p.0.refs_of 0 (omega arith)))
      (λ x y first second value p q h g. sym (before_l0 x p first value h) ∙ before_l0 y q second value g))
      (λ m p. refs_one shape done at 1 m (omega (arith, p.0.refs)) (p.0.refs_of 1 (omega arith)))
      (λ x y first second value p q h g. sym (before_refs x p first value h) ∙ before_refs y q second value g))
      (λ m p. mvds_one shape done at 0 m (omega (arith, p.0.mvd)) (p.0.mvds_of 0 (omega arith)))
      (λ x y first second value p q h g. sym (before_mvd_l0 x p first value h) ∙ before_mvd_l0 y q second value g))
      (λ m p. mvds_one shape done at 1 m (omega (arith, p.0.mvd)) (p.0.mvds_of 1 (omega arith)))
      (λ x y first second value p q h g. sym (before_mvds x p first value h) ∙ before_mvds y q second value g)
    where
      kept_l0 : Keeps AfterL0 (subs mb >>= refs shape done at 0)
      kept_l0 = keeps_then AfterSubs AfterL0 (subs mb) (refs shape done at 0) after_subs after_l0

      kept_refs : Keeps AfterRefs (subs mb >>= refs shape done at 0 >>= refs shape done at 1)
      kept_refs = keeps_then AfterL0 AfterRefs (subs mb >>= refs shape done at 0) (refs shape done at 1) kept_l0 after_refs

      kept_mvd_l0 : Keeps AfterMvdL0 (subs mb >>= refs shape done at 0 >>= refs shape done at 1 >>= mvds shape done at 0)
      kept_mvd_l0 = keeps_then AfterRefs AfterMvdL0 (subs mb >>= refs shape done at 0 >>= refs shape done at 1) (mvds shape done at 0) kept_refs after_mvd_l0

pub prediction_one : (shape : SliceShape) (done : List Mb) (at : ℕ) (mb : Mb) → HasSizes mb → HasOneString (inter_prediction shape done at mb)
prediction_one shape done at mb sizes = fitting_one shape done at mb sizes.subs (fits_of mb sizes)
