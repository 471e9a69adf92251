-- The string of an element rests on the macroblock so far alone: its type, the flag of its pair, its sub-macroblock types, and
-- the elements of the places before.
use Rattle.std.proofs.Common.{◌≡◌, ◌⊎◌, ℕ, ◌/◌, ◌<◌, ◌≤◌, Bool, true, false, List, inl, inr, refl, sym, ap, ◌∙◌, arith}
use Rattle.std.proofs.lemmas.Bool.{cases_lt}
use Rattle.binarisation.specs.BinString.{BinString, ◌>>=◌}
use Rattle.binarisation.specs.Elements as syntax
use Rattle.h264_types.specs.Partition.{partition_of, part_of}
use Rattle.h264_types.specs.Slice.{IsInPicture}
use Rattle.h264_types.specs.Valid as valid
use Rattle.h264_types.specs.declared.macroblock.Mb.{Mb}
use Rattle.h264_types.specs.declared.slice_shape.SliceShape.{SliceShape}
use Rattle.h264_types.proofs.ShapeLaws.{wide}
use Rattle.mb_neighbours.specs.declared.place.At.TheVariants.{Luma8}
use Rattle.cabac_contexts.specs.declared.term.Term.TheVariants.{Reference}
use Rattle.cabac_contexts.specs.Terms.{term_of, magnitude_of}
use Rattle.cabac_contexts.specs.Increments as incs
use Rattle.cabac_contexts.proofs.Neighbours.{same_flag_a, same_flag_b}
use Rattle.cabac_contexts.proofs.Magnitudes.{same_magnitudes}
use Rattle.cavlc_inter.specs.InterPrediction.{no_vector}
use Rattle.cavlc_inter.specs.Parts.{first_of}
use Rattle.cabac_inter.specs.InterPrediction.{element, greatest_at, sends_refs, up_to, sent_ref, ref_of, sends_mvds, sent_mvd, mvd_of}
use Rattle.cabac_inter.proofs.Places.{element_later, element_none, element_sent}

-- what tells the parts of a macroblock, and its pair flag
pub record IsAlike (mb other : Mb) : Type 0 where
  pub kind : mb.kind ≡ other.kind
  pub field : mb.field ≡ other.field
  pub subs : mb.subs ≡ other.subs

-- an element rests on where its part begins, what stands before, and whether it is sent
same_element : {A : Type 0} (part part' : ℕ → ℕ) (has has' : ℕ → Bool) (before before' : ℕ → A) (none : A) (sent sent' : BinString A) (n : ℕ)
    → first_of part n ≡ first_of part' n → has n ≡ has' n → ((i : ℕ) → i < n → before i ≡ before' i) → sent ≡ sent'
    → element part has before none sent n ≡ element part' has' before' none sent' n
same_element part part' has has' before before' none sent sent' n first alike earlier same = by (cases_lt (first_of part n) n)
  where
    by : (first_of part n < n) ⊎ (n ≤ first_of part n) → element part has before none sent n ≡ element part' has' before' none sent' n
    by (inl less) = rw (element_later part has before none sent n (first_of part n) refl less, element_later part' has' before' none sent' n (first_of part' n) refl (omega (arith, first, less)), earlier (first_of part n) less, first) refl
    by (inr itself) = at_first (has n) refl
      where
        at_first : (b : Bool) → has n ≡ b → element part has before none sent n ≡ element part' has' before' none sent' n
        at_first true e = element_sent part has before none sent n (first_of part n) refl itself e ∙ same ∙ sym (element_sent part' has' before' none sent' n (first_of part' n) refl (omega (arith, first, itself)) (sym alike ∙ e))
        at_first false e = element_none part has before none sent n (first_of part n) refl itself e ∙ sym (element_none part' has' before' none sent' n (first_of part' n) refl (omega (arith, first, itself)) (sym alike ∙ e))

module _ (shape : SliceShape) (done : List Mb) (at x : ℕ) (mb other : Mb) (inside : IsInPicture shape at) (alike : IsAlike mb other) where
  same_use : (q : ℕ) → valid.list_is_used mb x q ≡ valid.list_is_used other x q
  same_use q = rw (alike.kind, alike.subs) refl

  same_greatest : greatest_at shape mb x ≡ greatest_at shape other x
  same_greatest = rw alike.field refl

  module _ (q : ℕ) (below : q < 4) (before : (i : ℕ) → i < q → valid.ref_at mb x i ≡ valid.ref_at other x i) where
    same_term : (field : Bool) (i : ℕ) → i < q → term_of (Reference x field) mb i ≡ term_of (Reference x field) other i
    same_term field i h = rw (same_use i, alike.field, before i h) refl

    same_ref_inc : incs.ref_idx shape done at mb.field mb x q ≡ incs.ref_idx shape done at other.field other x q
    same_ref_inc =
        let field : Bool = other.field in
        let a = same_flag_a false (Reference x field) shape done at field mb other (Luma8 q) below (same_term field) in
        let b = same_flag_b false (Reference x field) shape done at field mb other (Luma8 q) (wide shape at inside) below (same_term field) in
        ap (λ f. incs.ref_idx shape done at f mb x q) alike.field ∙ rw (a, b) refl

    same_sent_ref : sent_ref shape done at x q mb ≡ sent_ref shape done at x q other
    unfolding sent_ref
    same_sent_ref = ap (λ inc. syntax.ref_idx inc >>= up_to (greatest_at shape mb x)) same_ref_inc ∙ ap (λ n. syntax.ref_idx (incs.ref_idx shape done at other.field other x q) >>= up_to n) same_greatest

    pub same_ref_of : ref_of shape done at x q mb ≡ ref_of shape done at x q other
    unfolding ref_of
    same_ref_of =
        same_element (partition_of mb.kind) (partition_of other.kind) (sends_refs shape mb x) (sends_refs shape other x) (valid.ref_at mb x) (valid.ref_at other x) 0 _ _ q
        (ap (λ k. first_of (partition_of k) q) alike.kind) (rw (same_greatest, same_use q) refl) before same_sent_ref

  module _ (n : ℕ) (below : n < 16) (before : (i : ℕ) → i < n → valid.mvd_of mb x i ≡ valid.mvd_of other x i) where
    same_mvd_inc : (axis : ℕ) → incs.mvd shape done at mb.field mb x n axis ≡ incs.mvd shape done at other.field other x n axis
    same_mvd_inc axis =
        let field : Bool = other.field in
        let here : (i : ℕ) → i < n → magnitude_of x axis field mb i ≡ magnitude_of x axis field other i = λ i h. rw (same_use (i / 4), alike.field, before i h) refl in
        ap (λ f. incs.mvd shape done at f mb x n axis) alike.field ∙ rw (same_magnitudes shape done at field x axis n mb other here (wide shape at inside) below) refl

    same_sent_mvd : sent_mvd shape done at x n mb ≡ sent_mvd shape done at x n other
    unfolding sent_mvd
    same_sent_mvd = rw (same_mvd_inc 0, same_mvd_inc 1) refl

    pub same_mvd_of : mvd_of shape done at x n mb ≡ mvd_of shape done at x n other
    unfolding mvd_of
    same_mvd_of =
        same_element (part_of mb.kind mb.subs) (part_of other.kind other.subs) (sends_mvds mb x) (sends_mvds other x) (valid.mvd_of mb x) (valid.mvd_of other x) no_vector _ _ n
        (ap (λ k. first_of (part_of k mb.subs) n) alike.kind ∙ ap (λ s. first_of (part_of other.kind s) n) alike.subs) (same_use (n / 4)) before same_sent_mvd
