-- What bins spell of sub_mb_type, of the indices and of the vector differences of a list.
use Rattle.std.proofs.Common.{◌≡◌, ℕ, ◌+◌, ◌<◌, ◌≤◌, ℤ, pos, unsigned_abs, eqb, ltb, Bool, true, false, cond, List, [], ◌∷◌, length, take, get_or, replicate, refl, sym, ap, subst, ◌∙◌, arith}
use Rattle.std.specs.Prelude.{nat_lt, nat_le, ◌&&◌, slice_set}
use Rattle.std.proofs.lemmas.Bool.{and_parts}
use Rattle.std.proofs.lemmas.Bool.Decides.{nat_tests}
use Rattle.std.proofs.lemmas.List.{length-take-le, get_or-take, get_or_past, get_or_default, get_or-set_same, set-get_or}
use Rattle.cabac_engine.specs.Bins.{Slot, in_bypass}
use Rattle.bit_texts.specs.Texts.{IsWhen, AreTurns}
use Rattle.binarisation.specs.BinString.{BinString, Value, NoValue, Next, Spells, HasOneString, ◌>>=◌}
use Rattle.binarisation.specs.Codes.{signed_of, signed, ueg}
use Rattle.binarisation.specs.Each.{each}
use Rattle.binarisation.specs.Elements as syntax
use Rattle.binarisation.specs.MacroblockType as types
use Rattle.binarisation.specs.MacroblockType.{two_bits, sub_b_more}
use Rattle.binarisation.proofs.OneString.{value_one, none_one, then_one, signed-back}
use Rattle.binarisation.proofs.ElementStrings.{ref_idx_one, mvd_one, sub_p_one, sub_b_one}
use Rattle.h264_types.specs.Kind.{has_sub_macroblocks}
use Rattle.h264_types.specs.Partition.{partition_of, part_of}
use Rattle.h264_types.specs.Valid as valid
use Rattle.h264_types.specs.Valid.{sub_bound}
use Rattle.h264_types.specs.declared.macroblock.Mb.{Mb}
use Rattle.h264_types.specs.declared.macroblock.MbKind.{MbKind}
use Rattle.h264_types.specs.declared.macroblock.MbKind.TheVariants.{Skip, Intra, P, B}
use Rattle.h264_types.specs.declared.slice_shape.SliceShape.{SliceShape}
use Rattle.cabac_contexts.specs.Increments as incs
use Rattle.cavlc_inter.specs.Parts.{first_of, is_sent, IsElement}
use Rattle.cavlc_inter.specs.InterPrediction.{no_vector, refs_of, mvds_of, parts_of, IsVector, AreSubs, AreSubsIf, AreRefs, AreMvds}
use Rattle.cavlc_inter.proofs.Elements.{elements_from}
use Rattle.cavlc_inter.proofs.Firsts.{first_is}
use Rattle.cavlc_inter.proofs.InterValid.{difference_of}
use Rattle.cabac_inter.specs.InterPrediction.{sub_type, sub_at, subs, element, greatest_at, sends_refs, up_to, sent_ref, ref_of, with_refs, ref_at, refs, sends_mvds, sent_mvd, mvd_of, with_mvds, mvd_at, mvds}
use Rattle.cabac_inter.proofs.Fronts.{set_set}
use Rattle.cabac_inter.proofs.Spelled.{Keeps, keeps_value, keeps_then, keeps_when, when_one, put_one, puts_all, all_one}

-- ---- the element of a place

module _ {A : Type 0} (part : ℕ → ℕ) (has : ℕ → Bool) (before : ℕ → A) (none : A) (Is : A → Type 0) (sent : BinString A) where
  pub element_one : (n : ℕ) → HasOneString sent → HasOneString (element part has before none sent n)
  element_one n one = when_one (nat_lt (first_of part n) n) (Value (before (first_of part n))) _ (value_one _) (when_one (has n) sent (Value none) one (value_one none))

  -- what is repeated is what stands before it
  pub element_range : (xs : List A) (n : ℕ) → n < length xs → ((i : ℕ) → i < n → before i ≡ get_or xs i none) → Keeps Is sent
      → Keeps (IsElement part has none Is (take n xs)) (element part has before none sent n)
  element_range xs n inside same range =
      keeps_when Elem (nat_lt (first_of part n) n) (Value (before (first_of part n))) (cond (has n) sent (Value none)) later
      (λ e. keeps_when Elem (has n) sent (Value none) (λ h. there (itself e) h) (λ h. absent (itself e) h))
    where
      first : ℕ
      first = first_of part n

      size : length (take n xs) ≡ n
      size = length-take-le n xs (omega (arith, inside))

      Elem : A → Type 0
      Elem v = IsElement part has none Is (take n xs) v

      itself : nat_lt (first_of part n) n ≡ false → first_of part n ≡ n
      itself e = let most = (first_is part n).most in let least : n ≤ first_of part n = grind (arith, nat_tests) in omega (arith, most, least)

      is_when : (b : Bool) → is_sent part has n ≡ b → (v : A) → IsWhen b (get_or (take n xs) (first_of part n) none) Is v → Elem v
      is_when b e v h =
          let P : ℕ → Type 0 = λ k. IsWhen (is_sent part has k) (get_or (take n xs) (first_of part k) none) Is v in
          let Q : Bool → Type 0 = λ c. IsWhen c (get_or (take n xs) (first_of part n) none) Is v in
          subst P (sym size) (subst Q (sym e) h)

      later : nat_lt (first_of part n) n ≡ true → Keeps Elem (Value (before (first_of part n)))
      later e =
          let less : first_of part n < n = grind (arith, nat_tests) in
          let unsent : is_sent part has n ≡ false = grind (arith, nat_tests) in
          keeps_value Elem (before (first_of part n)) (is_when false unsent (before (first_of part n)) (same (first_of part n) less ∙ sym (get_or-take n xs (first_of part n) none less)))

      there : first_of part n ≡ n → has n ≡ true → Keeps Elem sent
      there e h bins v s = let is : is_sent part has n ≡ true = grind (arith, nat_tests) in is_when true is v (range bins v s)

      absent : first_of part n ≡ n → has n ≡ false → Keeps Elem (Value none)
      absent e h =
          let unsent : is_sent part has n ≡ false = grind (arith, nat_tests) in
          keeps_value Elem none (is_when false unsent none (sym (get_or_past (take n xs) (first_of part n) none (omega (arith, e, size)))))

-- ---- sub_mb_type

sub_one : (kind : MbKind) → HasOneString (sub_type kind)
sub_one (P n) = sub_p_one
sub_one (B n) = sub_b_one
sub_one Skip = none_one
sub_one (Intra n) = none_one

all_of : {A : Type 0} → (A → Bool) → BinString A → Bool
all_of test (Value x) = test x
all_of test NoValue = true
all_of test (Next slot rest) = all_of test (rest false) && all_of test (rest true)

all_kept : {A : Type 0} (test : A → Bool) (string : BinString A) → all_of test string ≡ true → Keeps (λ x. test x ≡ true) string
unfolding all_of
all_kept test (Value x) e bins value h = ap test (sym h.1) ∙ e
all_kept test NoValue e bins value h = absurd h
all_kept test (Next slot rest) e [] value h = absurd h
all_kept test (Next slot rest) e ((kind, false) ∷ bins) value h = all_kept test (rest false) (and_parts (all_of test (rest false)) (all_of test (rest true)) e).0 bins value h.1
all_kept test (Next slot rest) e ((kind, true) ∷ bins) value h = all_kept test (rest true) (and_parts (all_of test (rest false)) (all_of test (rest true)) e).1 bins value h.1

sub_p_range : Keeps (λ n. nat_le n 3 ≡ true) types.sub_p
unfolding all_of
sub_p_range = all_kept (λ n. nat_le n 3) types.sub_p refl

sub_b_range : Keeps (λ n. nat_le n 12 ≡ true) types.sub_b
unfolding all_of two_bits sub_b_more
sub_b_range = all_kept (λ n. nat_le n 12) types.sub_b refl

sub_range : (kind : MbKind) → has_sub_macroblocks kind ≡ true → Keeps (λ sub. sub ≤ sub_bound kind) (sub_type kind)
sub_range (P n) h bins value s = let small = sub_p_range bins value s in grind (arith, nat_tests)
sub_range (B n) h bins value s = let small = sub_b_range bins value s in grind (arith, nat_tests)
sub_range Skip h bins value s = absurd s
sub_range (Intra n) h bins value s = absurd s

abbrev pub IsSub : MbKind → ℕ → List ℕ → ℕ → Type 0
IsSub kind k before sub = sub ≤ sub_bound kind

four_turns : (Is : ℕ → Type 0) (xs : List ℕ) → length xs ≡ 4 → ((i : ℕ) → i < 4 → Is (get_or xs i 0)) → AreTurns (λ (_ : ℕ) x. Is x) (λ (s x : ℕ). s) 4 0 xs
unfolding AreTurns
four_turns Is [] e all = absurd (omega (arith, e))
four_turns Is (a ∷ []) e all = absurd (omega (arith, e))
four_turns Is (a ∷ b ∷ []) e all = absurd (omega (arith, e))
four_turns Is (a ∷ b ∷ c ∷ []) e all = absurd (omega (arith, e))
four_turns Is (a ∷ b ∷ c ∷ d ∷ []) e all = (all 0 (omega arith), (all 1 (omega arith), (all 2 (omega arith), (all 3 (omega arith), tt))))
four_turns Is (a ∷ b ∷ c ∷ d ∷ f ∷ xs) e all = absurd (omega (arith, e))

module _ (mb : Mb) (size : length mb.subs ≡ 4) where
  pub subs_kept : Keeps (λ m. (xs : List ℕ) × AreSubsIf mb.kind xs × (length xs ≡ 4) × (m ≡ record mb { subs = xs })) (subs mb)
  unfolding subs sub_at
  subs_kept =
      keeps_when Made (has_sub_macroblocks mb.kind) (each 4 sub_at 0 mb) (Value (record mb { subs = replicate 4 0 })) there
      (λ e. keeps_value Made (record mb { subs = replicate 4 0 }) (replicate 4 0, subst (λ b. IsWhen b (replicate 4 0) (AreSubs mb.kind) (replicate 4 0)) (sym e) refl, refl, refl))
    where
      Made : Mb → Type 0
      Made m = (xs : List ℕ) × AreSubsIf mb.kind xs × (length xs ≡ 4) × (m ≡ record mb { subs = xs })

      there : has_sub_macroblocks mb.kind ≡ true → Keeps Made (each 4 sub_at 0 mb)
      there e bins value h =
          let all = puts_all 4 0 (λ xs. record mb { subs = xs }) (λ m. m.subs) (λ k m. sub_type m.kind) (λ k m v. record m { subs = slice_set m.subs k v }) (IsSub mb.kind)
          (λ xs. refl) (λ k xs v. refl) (λ k xs below f. sub_range mb.kind e) (λ k m. sub_one m.kind) mb.subs size bins value h in (
            all.list,
            subst (λ b. IsWhen b (replicate 4 0) (AreSubs mb.kind) all.list) (sym e) (four_turns (λ sub. sub ≤ sub_bound mb.kind) all.list all.first.size all.first.each),
            all.first.size,
            all.is,
          )

  pub subs_one : HasOneString (subs mb)
  unfolding subs sub_at
  subs_one =
      when_one (has_sub_macroblocks mb.kind) (each 4 sub_at 0 mb) (Value (record mb { subs = replicate 4 0 }))
      (all_one 4 0 (λ xs. record mb { subs = xs }) (λ m. m.subs) (λ k m. sub_type m.kind) (λ k m v. record m { subs = slice_set m.subs k v }) (λ k before v. Unit {0})
      (λ xs. refl) (λ k xs v. refl) (λ k xs below e bins v s. tt) (λ k m. sub_one m.kind) mb.subs size)
      (value_one _)

-- ---- indices

module _ (shape : SliceShape) (done : List Mb) (at x : ℕ) where
  up_to_one : (greatest index : ℕ) → HasOneString (up_to greatest index)
  up_to_one greatest index = when_one (nat_lt greatest index) NoValue (Value index) none_one (value_one index)

  up_to_range : (greatest index : ℕ) → Keeps (λ i. (i ≤ greatest) × (i ≡ index)) (up_to greatest index)
  up_to_range greatest index =
      keeps_when (λ i. (i ≤ greatest) × (i ≡ index)) (nat_lt greatest index) NoValue (Value index) (λ e bins v s. absurd s)
      (λ e. keeps_value (λ i. (i ≤ greatest) × (i ≡ index)) index (let h : index ≤ greatest = grind (arith, nat_tests) in h, refl))

  ref_one : (q : ℕ) (m : Mb) → HasOneString (ref_of shape done at x q m)
  unfolding ref_of sent_ref
  ref_one q m =
      element_one (partition_of m.kind) (sends_refs shape m x) (valid.ref_at m x) 0 (λ i. Unit {0}) (sent_ref shape done at x q m) q
      (then_one (syntax.ref_idx (incs.ref_idx shape done at m.field m x q)) (up_to (greatest_at shape m x)) (λ i. i) (ref_idx_one _) (up_to_one (greatest_at shape m x))
      (λ first second i value h g. (up_to_range (greatest_at shape m x) i second value g).1))

  sent_range : (q : ℕ) (m : Mb) → Keeps (λ i. i ≤ greatest_at shape m x) (sent_ref shape done at x q m)
  unfolding sent_ref
  sent_range q m =
      keeps_then (λ (i : ℕ). Unit {0}) (λ i. i ≤ greatest_at shape m x) (syntax.ref_idx (incs.ref_idx shape done at m.field m x q)) (up_to (greatest_at shape m x)) (λ bins i s. tt)
      (λ i t bins v s. (up_to_range (greatest_at shape m x) i bins v s).0)

  module _ (mb : Mb) (inside : x < length mb.refs) (size : length (refs_of x mb) ≡ 4) where
    abbrev IsRef : ℕ → List ℕ → ℕ → Type 0
    IsRef k before v = IsElement (partition_of mb.kind) (sends_refs shape mb x) 0 (λ i. i ≤ greatest_at shape mb x) before v

    list_of : (xs : List ℕ) → refs_of x (with_refs x mb xs) ≡ xs
    list_of xs = get_or-set_same mb.refs x xs [] inside

    puts : (k : ℕ) (xs : List ℕ) (v : ℕ) → with_refs x (with_refs x mb xs) (slice_set (refs_of x (with_refs x mb xs)) k v) ≡ with_refs x mb (slice_set xs k v)
    puts k xs v =
        ap (λ l. with_refs x (with_refs x mb xs) (slice_set l k v)) (list_of xs) ∙ ap (λ l. record mb { refs = l }) (set_set mb.refs x xs (slice_set xs k v))

    range : (k : ℕ) (xs : List ℕ) → k < 4 → length xs ≡ 4 → Keeps (IsRef k (take k xs)) (ref_of shape done at x k (with_refs x mb xs))
    unfolding ref_of
    range k xs below e =
        element_range (partition_of mb.kind) (sends_refs shape mb x) (valid.ref_at (with_refs x mb xs) x) 0 (λ i. i ≤ greatest_at shape mb x) (sent_ref shape done at x k (with_refs x mb xs)) xs k (omega (arith, below, e))
        (λ i h. ap (λ l. get_or l i 0) (list_of xs)) (sent_range k (with_refs x mb xs))

    pub refs_one : HasOneString (refs shape done at x mb)
    unfolding refs ref_at
    refs_one =
        subst (λ (m : Mb). HasOneString (each 4 (ref_at shape done at x) 0 m)) (ap (λ l. record mb { refs = l }) (set-get_or mb.refs x []))
        (all_one 4 0 (with_refs x mb) (refs_of x) (λ k m. ref_of shape done at x k m) (λ k m v. with_refs x m (slice_set (refs_of x m) k v)) IsRef list_of puts range ref_one (refs_of x mb) size)

    pub refs_kept : Keeps (λ m. (xs : List ℕ) × AreRefs (parts_of mb.kind mb) x (greatest_at shape mb x) xs × (length xs ≡ 4) × (m ≡ with_refs x mb xs)) (refs shape done at x mb)
    unfolding refs ref_at
    refs_kept bins value h =
        let all = puts_all 4 0 (with_refs x mb) (refs_of x) (λ k m. ref_of shape done at x k m) (λ k m v. with_refs x m (slice_set (refs_of x m) k v)) IsRef list_of puts range ref_one (refs_of x mb) size bins value
        (subst (λ (m : Mb). Spells (each 4 (ref_at shape done at x) 0 m) bins value) (sym (ap (λ l. record mb { refs = l }) (set-get_or mb.refs x []))) h) in (
          all.list,
          elements_from 4 (partition_of mb.kind) (sends_refs shape mb x) 0 (λ i. i ≤ greatest_at shape mb x) all.list all.first.size
              (λ i d below. subst (IsElement (partition_of mb.kind) (sends_refs shape mb x) 0 (λ i. i ≤ greatest_at shape mb x) (take i all.list)) (get_or_default all.list i 0 d (omega (arith, below, all.first.size))) (all.first.each i below)),
          all.first.size,
          all.is,
        )

-- ---- vector differences

signed_most : (greatest magnitude : ℕ) (bins : List (Slot × Bool)) (value : ℤ) → Spells (signed greatest magnitude) bins value → magnitude ≤ greatest
unfolding signed
signed_most greatest magnitude bins value h = by (eqb magnitude 0) (ltb greatest magnitude) refl refl h
  where
    by : (none above : Bool) → eqb magnitude 0 ≡ none → ltb greatest magnitude ≡ above → Spells (cond none (Value (pos 0)) (cond above NoValue (Next in_bypass (λ minus. Value (signed_of magnitude minus))))) bins value → magnitude ≤ greatest
    by true above e f g = grind (arith, nat_tests)
    by false true e f g = absurd g
    by false false e f g = grind (arith, nat_tests)

mvd_range : (ctx inc : ℕ) → Keeps (λ d. unsigned_abs d ≤ 32767) (syntax.mvd ctx inc)
mvd_range ctx inc =
    keeps_then (λ (n : ℕ). Unit {0}) (λ d. unsigned_abs d ≤ 32767) (ueg ((ctx + inc) ∷ (ctx + 3) ∷ (ctx + 4) ∷ (ctx + 5) ∷ (ctx + 6) ∷ []) 9 3 12) (signed 32767) (λ bins n s. tt)
    (λ n t bins v s. let is = signed-back 32767 n bins v s in let most = signed_most 32767 n bins v s in omega (arith, is, most))

module _ (shape : SliceShape) (done : List Mb) (at x : ℕ) where
  sent_mvd_one : (n : ℕ) (m : Mb) → HasOneString (sent_mvd shape done at x n m)
  unfolding sent_mvd
  sent_mvd_one n m =
      then_one (syntax.mvd 40 (incs.mvd shape done at m.field m x n 0)) (λ h. syntax.mvd 47 (incs.mvd shape done at m.field m x n 1) >>= (λ v. Value (h ∷ v ∷ []))) (λ v. get_or v 0 (pos 0)) (mvd_one 40 _)
      (λ h. put_one (syntax.mvd 47 (incs.mvd shape done at m.field m x n 1)) (λ v. h ∷ v ∷ []) (mvd_one 47 _) (λ a b e. ap (λ l. get_or l 1 (pos 0)) e))
      (λ first second h value p g.
      keeps_then (λ (v : ℤ). Unit {0}) (λ w. get_or w 0 (pos 0) ≡ h) (syntax.mvd 47 (incs.mvd shape done at m.field m x n 1)) (λ v. Value (h ∷ v ∷ [])) (λ bins v s. tt) (λ v t. keeps_value (λ w. get_or w 0 (pos 0) ≡ h) (h ∷ v ∷ []) refl) second value g)

  sent_mvd_range : (n : ℕ) (m : Mb) → Keeps IsVector (sent_mvd shape done at x n m)
  unfolding sent_mvd
  sent_mvd_range n m =
      keeps_then (λ d. unsigned_abs d ≤ 32767) IsVector (syntax.mvd 40 (incs.mvd shape done at m.field m x n 0)) (λ h. syntax.mvd 47 (incs.mvd shape done at m.field m x n 1) >>= (λ v. Value (h ∷ v ∷ []))) (mvd_range 40 _)
      (λ h small. keeps_then (λ d. unsigned_abs d ≤ 32767) IsVector (syntax.mvd 47 (incs.mvd shape done at m.field m x n 1)) (λ v. Value (h ∷ v ∷ [])) (mvd_range 47 _)
      (λ v low. keeps_value IsVector (h ∷ v ∷ []) (record { size = refl; x = difference_of h small; y = difference_of v low })))

  mvd_one_of : (n : ℕ) (m : Mb) → HasOneString (mvd_of shape done at x n m)
  unfolding mvd_of
  mvd_one_of n m = element_one (part_of m.kind m.subs) (sends_mvds m x) (valid.mvd_of m x) no_vector IsVector (sent_mvd shape done at x n m) n (sent_mvd_one n m)

  module _ (mb : Mb) (inside : x < length mb.mvd) (size : length (mvds_of x mb) ≡ 16) where
    abbrev IsMvd : ℕ → List (List ℤ) → List ℤ → Type 0
    IsMvd k before v = IsElement (part_of mb.kind mb.subs) (sends_mvds mb x) no_vector IsVector before v

    vectors_of : (xs : List (List ℤ)) → mvds_of x (with_mvds x mb xs) ≡ xs
    vectors_of xs = get_or-set_same mb.mvd x xs [] inside

    puts_mvd : (k : ℕ) (xs : List (List ℤ)) (v : List ℤ) → with_mvds x (with_mvds x mb xs) (slice_set (mvds_of x (with_mvds x mb xs)) k v) ≡ with_mvds x mb (slice_set xs k v)
    puts_mvd k xs v =
        ap (λ l. with_mvds x (with_mvds x mb xs) (slice_set l k v)) (vectors_of xs) ∙ ap (λ l. record mb { mvd = l }) (set_set mb.mvd x xs (slice_set xs k v))

    range_mvd : (k : ℕ) (xs : List (List ℤ)) → k < 16 → length xs ≡ 16 → Keeps (IsMvd k (take k xs)) (mvd_of shape done at x k (with_mvds x mb xs))
    unfolding mvd_of
    range_mvd k xs below e =
        element_range (part_of mb.kind mb.subs) (sends_mvds mb x) (valid.mvd_of (with_mvds x mb xs) x) no_vector IsVector (sent_mvd shape done at x k (with_mvds x mb xs)) xs k (omega (arith, below, e))
        (λ i h. ap (λ l. get_or l i []) (vectors_of xs) ∙ get_or_default xs i [] no_vector (omega (arith, h, below, e))) (sent_mvd_range k (with_mvds x mb xs))

    pub mvds_one : HasOneString (mvds shape done at x mb)
    unfolding mvds mvd_at
    mvds_one =
        subst (λ (m : Mb). HasOneString (each 16 (mvd_at shape done at x) 0 m)) (ap (λ l. record mb { mvd = l }) (set-get_or mb.mvd x []))
        (all_one 16 no_vector (with_mvds x mb) (mvds_of x) (λ k m. mvd_of shape done at x k m) (λ k m v. with_mvds x m (slice_set (mvds_of x m) k v)) IsMvd vectors_of puts_mvd range_mvd mvd_one_of (mvds_of x mb) size)

    pub mvds_kept : Keeps (λ m. (xs : List (List ℤ)) × AreMvds (parts_of mb.kind mb) x xs × (length xs ≡ 16) × (m ≡ with_mvds x mb xs)) (mvds shape done at x mb)
    unfolding mvds mvd_at
    mvds_kept bins value h =
        let all = puts_all 16 no_vector (with_mvds x mb) (mvds_of x) (λ k m. mvd_of shape done at x k m) (λ k m v. with_mvds x m (slice_set (mvds_of x m) k v)) IsMvd vectors_of puts_mvd range_mvd mvd_one_of (mvds_of x mb) size bins value
        (subst (λ (m : Mb). Spells (each 16 (mvd_at shape done at x) 0 m) bins value) (sym (ap (λ l. record mb { mvd = l }) (set-get_or mb.mvd x []))) h) in (
          all.list,
          elements_from 16 (part_of mb.kind mb.subs) (sends_mvds mb x) no_vector IsVector all.list all.first.size
              (λ i d below. subst (IsElement (part_of mb.kind mb.subs) (sends_mvds mb x) no_vector IsVector (take i all.list)) (get_or_default all.list i no_vector d (omega (arith, below, all.first.size))) (all.first.each i below)),
          all.first.size,
          all.is,
        )
