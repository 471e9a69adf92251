-- Macroblocks of intra types send no reference and no vector, and those of other types no mode.
use Rattle.std.proofs.Common.{◌≡◌, ℕ, zero, suc, ◌/◌, ◌≤◌, ℤ, pos, eqb, Bool, true, false, List, [], ◌∷◌, ◌++◌, length, replicate, get_or, refl, sym, ap, subst, ◌∙◌}
use Rattle.std.specs.Prelude.{◌&&◌, nat_lt, slice_index_or}
use Rattle.bit_texts.specs.Texts.{IsWhen, when_text, AreTurns, turns_text}
use Rattle.exp_golomb.specs.Code.{te}
use Rattle.h264_types.specs.Kind.{is_intra, has_sub_macroblocks}
use Rattle.h264_types.specs.Partition.{partition_of, part_of}
use Rattle.h264_types.specs.declared.macroblock.MbKind.{MbKind}
use Rattle.h264_types.specs.declared.macroblock.MbKind.TheVariants as kinds
use Rattle.h264_types.specs.declared.macroblock.MbKind.TheVariants.{Intra}
use Rattle.h264_types.specs.declared.macroblock.Mb.{Mb}
use Rattle.cavlc_inter.specs.Parts.{first_of, repeated, IsElement, element_text, and_next}
use Rattle.cavlc_inter.specs.InterPrediction.{AreSubs, subs_text, IsInter, inter_text, parts_of, has_ref, has_mvd, uses, refs_of, mvds_of, no_vector, greatest_of, IsVector, vector_text, AreRefs, refs_text, AreMvds, mvds_text}
use Rattle.cavlc_mb_residual.proofs.ResidualUnique.{same_two}

-- ---- elements of which none is sent

unsent : (a b : Bool) → b ≡ false → (a && b) ≡ false
unsent true b e = e
unsent false b e = refl

one_more : {A : Type 0} (x : A) (k : ℕ) → replicate k x ++ x ∷ [] ≡ replicate (suc k) x
one_more x zero = refl
one_more x (suc k) = ap (λ t. x ∷ t) (one_more x k)

none_at : {A : Type 0} (x : A) (k i : ℕ) → get_or (replicate k x) i x ≡ x
none_at x zero i = refl
none_at x (suc k) zero = refl
none_at x (suc k) (suc i) = none_at x k i

absent_turns : {A : Type 0} (part : ℕ → ℕ) (has : ℕ → Bool) (none : A) (Is : A → Type 0) → ((n : ℕ) → has n ≡ false) → (n k : ℕ) (xs : List A) → AreTurns (IsElement part has none Is) and_next n (replicate k none) xs → xs ≡ replicate n none
unfolding AreTurns
absent_turns part has none Is lacks zero k [] are = refl
absent_turns part has none Is lacks zero k (x ∷ xs) are = absurd are
absent_turns part has none Is lacks (suc n) k [] are = absurd are
absent_turns {A} part has none Is lacks (suc n) k (x ∷ xs) are =
    let before = replicate k none in
    let P : Bool → Type 0 = λ b. IsWhen b (repeated part none before) Is x in
    let first : x ≡ none = subst P (unsent _ _ (lacks (length before))) are.0 ∙ none_at none k (first_of part (length before)) in
    let Q : A → Type 0 = λ y. AreTurns (IsElement part has none Is) and_next n (before ++ y ∷ []) xs in
    let others = absent_turns part has none Is lacks n (suc k) xs (subst (λ t. AreTurns (IsElement part has none Is) and_next n t xs) (one_more none k) (subst Q first are.1)) in
    ap (λ y. y ∷ xs) first ∙ ap (λ t. none ∷ t) others

turns_absent : {A : Type 0} (part : ℕ → ℕ) (has : ℕ → Bool) (none : A) (Is : A → Type 0) → ((n : ℕ) → has n ≡ false) → (n k : ℕ) → AreTurns (IsElement part has none Is) and_next n (replicate k none) (replicate n none)
unfolding AreTurns
turns_absent part has none Is lacks zero k = tt
turns_absent part has none Is lacks (suc n) k =
    let before = replicate k none in
    let P : Bool → Type 0 = λ b. IsWhen b (repeated part none before) Is none in (
      subst P (sym (unsent _ _ (lacks (length before)))) (sym (none_at none k (first_of part (length before)))),
      subst (λ t. AreTurns (IsElement part has none Is) and_next n t (replicate n none)) (sym (one_more none k)) (turns_absent part has none Is lacks n (suc k)),
    )

absent_text : {A : Type 0} (part : ℕ → ℕ) (has : ℕ → Bool) (text : A → List Bool) → ((n : ℕ) → has n ≡ false) → (before xs : List A) → turns_text (element_text part has text) and_next before xs ≡ []
unfolding turns_text
absent_text part has text lacks before [] = refl
absent_text part has text lacks before (x ∷ xs) = rw (unsent (eqb (first_of part (length before)) (length before)) _ (lacks (length before))) (absent_text part has text lacks (before ++ x ∷ []) xs)

-- ---- types that send no inter prediction

pub record SendsNoInter (kind : MbKind) : Type 0 where
  pub subs : has_sub_macroblocks kind ≡ false
  pub lists : (subs : List ℕ) (x q : ℕ) → uses (record { kind = kind; subs = subs }) x q ≡ false

pub intra_sends : (kind : MbKind) → is_intra kind ≡ true → SendsNoInter kind
intra_sends (Intra n) e = record { subs = refl; lists = λ subs x q. refl }
intra_sends kinds.Skip e = absurd cc
intra_sends (kinds.P n) e = absurd cc
intra_sends (kinds.B n) e = absurd cc

pub skipped_sends : SendsNoInter kinds.Skip
skipped_sends = record { subs = refl; lists = λ subs x q. refl }

no_ref : (kind : MbKind) → SendsNoInter kind → (mb : Mb) (x greatest q : ℕ) → has_ref (parts_of kind mb) x greatest q ≡ false
no_ref kind none mb x greatest q = unsent (nat_lt 0 greatest) (uses (parts_of kind mb) x q) (none.lists mb.subs x q)

no_mvd : (kind : MbKind) → SendsNoInter kind → (mb : Mb) (x n : ℕ) → has_mvd (parts_of kind mb) x n ≡ false
no_mvd kind none mb x n = none.lists mb.subs x (n / 4)

abbrev pub no_refs : List (List ℕ)
no_refs = replicate 2 (replicate 4 0)

abbrev pub no_mvds : List (List (List ℤ))
no_mvds = replicate 2 (replicate 16 (replicate 2 (pos 0)))

-- nothing is there that inter prediction sends
pub record HasNoInter (mb : Mb) : Type 0 where
  pub subs : mb.subs ≡ replicate 4 0
  pub refs : mb.refs ≡ no_refs
  pub mvd : mb.mvd ≡ no_mvds

pub no_inter : (kind : MbKind) (ref0 : Bool) (active : List ℕ) (mb : Mb) → SendsNoInter kind → IsInter kind ref0 active mb → HasNoInter mb
no_inter kind ref0 active mb none is = record {
  subs = subst (λ b. IsWhen b (replicate 4 0) (AreSubs kind) mb.subs) none.subs is.subs;
  refs = same_two [] mb.refs no_refs is.lists.0 refl (refs 0 (greatest_of ref0 active 0) is.refs_l0) (refs 1 (greatest_of ref0 active 1) is.refs_l1);
  mvd = same_two [] mb.mvd no_mvds is.lists.1 refl (mvds 0 is.mvd_l0) (mvds 1 is.mvd_l1);
}
  where
    refs : (x greatest : ℕ) → AreRefs (parts_of kind mb) x greatest (refs_of x mb) → refs_of x mb ≡ replicate 4 0
    refs x greatest are = absent_turns (partition_of kind) (has_ref (parts_of kind mb) x greatest) 0 (λ i. i ≤ greatest) (no_ref kind none mb x greatest) 4 0 (refs_of x mb) are

    mvds : (x : ℕ) → AreMvds (parts_of kind mb) x (mvds_of x mb) → mvds_of x mb ≡ replicate 16 (replicate 2 (pos 0))
    mvds x are = absent_turns (part_of kind mb.subs) (has_mvd (parts_of kind mb) x) no_vector IsVector (no_mvd kind none mb x) 16 0 (mvds_of x mb) are

-- the macroblock whose lists are 0 has no inter prediction
pub inter_none : (kind : MbKind) (ref0 : Bool) (active : List ℕ) (mb : Mb) → SendsNoInter kind → HasNoInter mb → IsInter kind ref0 active mb
inter_none kind ref0 active mb none lacks = record {
  subs = subst (λ b. IsWhen b (replicate 4 0) (AreSubs kind) mb.subs) (sym none.subs) lacks.subs;
  refs_l0 = refs 0 (greatest_of ref0 active 0) (ap (λ r. slice_index_or r 0 []) lacks.refs);
  refs_l1 = refs 1 (greatest_of ref0 active 1) (ap (λ r. slice_index_or r 1 []) lacks.refs);
  mvd_l0 = mvds 0 (ap (λ r. slice_index_or r 0 []) lacks.mvd);
  mvd_l1 = mvds 1 (ap (λ r. slice_index_or r 1 []) lacks.mvd);
  lists = (ap length lacks.refs, ap length lacks.mvd);
}
  where
    refs : (x greatest : ℕ) → refs_of x mb ≡ replicate 4 0 → AreRefs (parts_of kind mb) x greatest (refs_of x mb)
    refs x greatest same =
        subst (AreRefs (parts_of kind mb) x greatest) (sym same)
        (turns_absent (partition_of kind) (has_ref (parts_of kind mb) x greatest) 0 (λ i. i ≤ greatest) (no_ref kind none mb x greatest) 4 0)

    mvds : (x : ℕ) → mvds_of x mb ≡ replicate 16 (replicate 2 (pos 0)) → AreMvds (parts_of kind mb) x (mvds_of x mb)
    mvds x same =
        subst (AreMvds (parts_of kind mb) x) (sym same)
        (turns_absent (part_of kind mb.subs) (has_mvd (parts_of kind mb) x) no_vector IsVector (no_mvd kind none mb x) 16 0)

no_refs_text : (kind : MbKind) → SendsNoInter kind → (mb : Mb) (x greatest : ℕ) → refs_text (parts_of kind mb) x greatest (refs_of x mb) ≡ []
no_refs_text kind none mb x greatest = absent_text (partition_of kind) (has_ref (parts_of kind mb) x greatest) (te greatest) (no_ref kind none mb x greatest) [] (refs_of x mb)

no_mvds_text : (kind : MbKind) → SendsNoInter kind → (mb : Mb) (x : ℕ) → mvds_text (parts_of kind mb) x (mvds_of x mb) ≡ []
no_mvds_text kind none mb x = absent_text (part_of kind mb.subs) (has_mvd (parts_of kind mb) x) vector_text (no_mvd kind none mb x) [] (mvds_of x mb)

pub no_inter_text : (kind : MbKind) (ref0 : Bool) (active : List ℕ) (mb : Mb) → SendsNoInter kind → inter_text kind ref0 active mb ≡ []
unfolding inter_text
no_inter_text kind ref0 active mb none =
    let T : List Bool → List Bool → List Bool → List Bool → List Bool → List Bool = λ a b c d e. a ++ (b ++ (c ++ (d ++ e))) in
    let refs0 = refs_text (parts_of kind mb) 0 (greatest_of ref0 active 0) (refs_of 0 mb) in
    let refs1 = refs_text (parts_of kind mb) 1 (greatest_of ref0 active 1) (refs_of 1 mb) in
    let mvds0 = mvds_text (parts_of kind mb) 0 (mvds_of 0 mb) in
    let mvds1 = mvds_text (parts_of kind mb) 1 (mvds_of 1 mb) in
    ap (λ b. T (when_text b subs_text mb.subs) refs0 refs1 mvds0 mvds1) none.subs
    ∙ ap (λ t. T [] t refs1 mvds0 mvds1) (no_refs_text kind none mb 0 (greatest_of ref0 active 0))
    ∙ ap (λ t. T [] [] t mvds0 mvds1) (no_refs_text kind none mb 1 (greatest_of ref0 active 1))
    ∙ ap (λ t. T [] [] [] t mvds1) (no_mvds_text kind none mb 0)
    ∙ no_mvds_text kind none mb 1

-- P_8x8ref0 has the indices 0
pub no_indices : (kind : MbKind) (active : List ℕ) (mb : Mb) → IsInter kind true active mb → refs_of 0 mb ≡ replicate 4 0
no_indices kind active mb is = absent_turns (partition_of kind) (has_ref (parts_of kind mb) 0 0) 0 (λ i. i ≤ 0) (λ q. refl) 4 0 (refs_of 0 mb) is.refs_l0
