-- The macroblocks that have only the first levels of another one.
use Rattle.std.proofs.Common.{◌≡◌, ◌≢◌, ℕ, zero, suc, ◌+◌, ◌-◌, ◌*◌, ◌/◌, ◌%◌, ◌<◌, ◌≤◌, ltb, Bool, true, false, ◌⊎◌, inl, inr, ℤ, pos, List, [], ◌∷◌, ◌++◌, length, take, drop, replicate, get_or, set, refl, sym, ap, ◌∙◌, arith}
use Rattle.std.specs.List.{AllByRecursion}
use Rattle.std.proofs.lemmas.Bool.{ltb-true}
use Rattle.std.proofs.lemmas.Bool.Decides.{nat_tests, eqb_tells}
use Rattle.std.proofs.lemmas.List.{take_all, take_at, append-nil, length-take, length-take-le, length-drop, take-append-le, take-append-drop, drop-append-le, drop-replicate, set-get_or}
use Rattle.std.proofs.lemmas.List.Elements.{All-from_recursion}
use Rattle.std.proofs.Math.Seq.{drop-append-add, take-add}
use Rattle.h264_types.specs.Macroblock.{quarter_of, block_of, with_block, luma_block}
use Rattle.h264_types.specs.Sizes.{HasSizes}
use Rattle.h264_types.specs.declared.macroblock.Mb.{Mb}
use Rattle.cabac_contexts.specs.Terms.{chroma_dc_of, chroma_ac_of}
use Rattle.cabac_mb_residual.specs.MacroblockResidual.{with_quarter, with_luma4, with_chroma_dc, with_chroma_block}
use Rattle.cabac_mb_residual.specs.Levels.{first, two, four, so_far, without_levels}

pub below : (a b : ℕ) → (a < b) ⊎ (b ≤ a)
below a b = at (ltb a b) refl
  where
    at : (test : Bool) → ltb a b ≡ test → (a < b) ⊎ (b ≤ a)
    at true e = inl (ltb-true a b e)
    at false e = inr (grind (arith, nat_tests))

pub near : (a b : ℕ) → (a ≡ b) ⊎ (a ≢ b)
near a b = elim (eqb_tells a b) [ inl same ↦ inl same.1 | inr other ↦ inr other.1 ]

-- ---- the first levels of a list

pub first_all : (max k : ℕ) (levels : List ℤ) → length levels ≡ max → max ≤ k → first max k levels ≡ levels
first_all max k levels e h =
    let none : max - k ≡ 0 = omega arith in
    let all : take k levels ≡ levels = take_all k levels (omega (arith, e)) in
    ap (λ (l : List ℤ). l ++ replicate (max - k) (pos 0)) all ∙ ap (λ n. levels ++ replicate n (pos 0)) none ∙ append-nil levels

pub first_none : (max k : ℕ) (levels : List ℤ) → k ≡ 0 → first max k levels ≡ replicate max (pos 0)
first_none max k levels e = let whole : max - 0 ≡ max = omega arith in rw (e, whole) refl

pub first_block : (levels : List ℤ) (k : ℕ) → length levels ≡ 64 → k < 4 → with_block (first 64 (16 * k) levels) k (block_of levels k) ≡ first 64 (16 * k + 16) levels
first_block levels k e h =
    let p : List ℤ = take (16 * k) levels in
    let size : length (take (16 * k) levels) ≡ 16 * k = length-take-le (16 * k) levels (omega (arith, e)) in
    let front : take (16 * k) (first 64 (16 * k) levels) ≡ p = take_at p (replicate (64 - 16 * k) (pos 0)) (16 * k) size in
    let back : drop (16 * k + 16) (first 64 (16 * k) levels) ≡ drop 16 (replicate (64 - 16 * k) (pos 0)) =
    ap (λ n. drop (n + 16) (first 64 (16 * k) levels)) (sym size) ∙ drop-append-add p (replicate (64 - 16 * k) (pos 0)) 16 in
    let rest : 64 - 16 * k - 16 ≡ 64 - (16 * k + 16) = omega arith in
    let zeros : drop (16 * k + 16) (first 64 (16 * k) levels) ≡ replicate (64 - (16 * k + 16)) (pos 0) =
    back ∙ drop-replicate 16 (64 - 16 * k) (pos 0) ∙ ap (λ n. replicate n (pos 0)) rest in
    let more : p ++ block_of levels k ≡ take (16 * k + 16) levels = sym (take-add (16 * k) 16 levels) in
    ap (λ (l : List ℤ). l ++ block_of levels k ++ drop (16 * k + 16) (first 64 (16 * k) levels)) front ∙ ap (λ (l : List ℤ). l ++ drop (16 * k + 16) (first 64 (16 * k) levels)) more ∙ ap (λ (l : List ℤ). take (16 * k + 16) levels ++ l) zeros

pub block_front : (p others : List ℤ) (m : ℕ) → 16 * m + 16 ≤ length p → block_of (p ++ others) m ≡ block_of p m
block_front p others m h =
    let size : length (drop (16 * m) p) ≡ length p - 16 * m = length-drop (16 * m) p in
    ap (take 16) (drop-append-le (16 * m) p others (omega arith)) ∙ take-append-le 16 (drop (16 * m) p) others (omega (arith, size))

-- a block within the first levels
pub block_of-first : (levels : List ℤ) (k m : ℕ) → length levels ≡ 64 → m < 4 → 16 * m + 16 ≤ k → block_of (first 64 k levels) m ≡ block_of levels m
block_of-first levels k m e h most =
    let size = length-take k levels in
    let within : 16 * m + 16 ≤ length (take k levels) = omega (arith, size, e) in
    block_front (take k levels) (replicate (64 - k) (pos 0)) m within
    ∙ sym (block_front (take k levels) (drop k levels) m within)
    ∙ ap (λ (l : List ℤ). block_of l m) (take-append-drop k levels)

-- ---- lists of four and of two

pub four_get : {A : Type 0} (f : ℕ → A) (q : ℕ) (d : A) → q < 4 → get_or (four f) q d ≡ f q
four_get f zero d h = refl
four_get f (suc zero) d h = refl
four_get f (suc (suc zero)) d h = refl
four_get f (suc (suc (suc zero))) d h = refl
four_get f (suc (suc (suc (suc q)))) d h = absurd (omega arith)

pub four_set : {A : Type 0} (f g : ℕ → A) (q : ℕ) (x : A) → q < 4 → x ≡ g q → ((r : ℕ) → r < 4 → r ≢ q → f r ≡ g r) → set (four f) q x ≡ four g
four_set f g zero x h e same = let a = same 1 (omega arith) (omega arith) in let b = same 2 (omega arith) (omega arith) in let c = same 3 (omega arith) (omega arith) in cc
four_set f g (suc zero) x h e same = let a = same 0 (omega arith) (omega arith) in let b = same 2 (omega arith) (omega arith) in let c = same 3 (omega arith) (omega arith) in cc
four_set f g (suc (suc zero)) x h e same = let a = same 0 (omega arith) (omega arith) in let b = same 1 (omega arith) (omega arith) in let c = same 3 (omega arith) (omega arith) in cc
four_set f g (suc (suc (suc zero))) x h e same = let a = same 0 (omega arith) (omega arith) in let b = same 1 (omega arith) (omega arith) in let c = same 2 (omega arith) (omega arith) in cc
four_set f g (suc (suc (suc (suc q)))) x h e same = absurd (omega arith)

pub four_list : {A : Type 0} (f : ℕ → A) (xs : List A) (d : A) → length xs ≡ 4 → ((q : ℕ) → q < 4 → f q ≡ get_or xs q d) → four f ≡ xs
four_list f [] d e same = absurd (omega (arith, e))
four_list f (w ∷ []) d e same = absurd (omega (arith, e))
four_list f (w ∷ x ∷ []) d e same = absurd (omega (arith, e))
four_list f (w ∷ x ∷ y ∷ []) d e same = absurd (omega (arith, e))
four_list f (w ∷ x ∷ y ∷ z ∷ []) d e same =
    let a : f 0 ≡ w = same 0 (omega arith) in let b : f 1 ≡ x = same 1 (omega arith) in let c : f 2 ≡ y = same 2 (omega arith) in let g : f 3 ≡ z = same 3 (omega arith) in cc
four_list f (v ∷ w ∷ x ∷ y ∷ z ∷ xs) d e same = absurd (omega (arith, e))

pub two_get : {A : Type 0} (f : ℕ → A) (r : ℕ) (d : A) → r < 2 → get_or (two f) r d ≡ f r
two_get f zero d h = refl
two_get f (suc zero) d h = refl
two_get f (suc (suc r)) d h = absurd (omega arith)

pub two_set : {A : Type 0} (f g : ℕ → A) (r : ℕ) (x : A) → r < 2 → x ≡ g r → ((k : ℕ) → k < 2 → k ≢ r → f k ≡ g k) → set (two f) r x ≡ two g
two_set f g zero x h e same = let a = same 1 (omega arith) (omega arith) in cc
two_set f g (suc zero) x h e same = let a = same 0 (omega arith) (omega arith) in cc
two_set f g (suc (suc r)) x h e same = absurd (omega arith)

pub two_list : {A : Type 0} (f : ℕ → A) (xs : List A) (d : A) → length xs ≡ 2 → ((r : ℕ) → r < 2 → f r ≡ get_or xs r d) → two f ≡ xs
two_list f [] d e same = absurd (omega (arith, e))
two_list f (x ∷ []) d e same = absurd (omega (arith, e))
two_list f (x ∷ y ∷ []) d e same = let a : f 0 ≡ x = same 0 (omega arith) in let b : f 1 ≡ y = same 1 (omega arith) in cc
two_list f (x ∷ y ∷ z ∷ xs) d e same = absurd (omega (arith, e))

-- ---- sizes

pub quarter_size : (mb : Mb) (q : ℕ) → HasSizes mb → q < 4 → length (quarter_of mb q) ≡ 64
quarter_size mb q sizes h = All-from_recursion (λ levels. length levels ≡ 64) mb.luma sizes.luma.1 q [] (omega (arith, sizes.luma.0))

pub chroma_dc_size : (mb : Mb) (comp : ℕ) → HasSizes mb → comp < 2 → length (chroma_dc_of mb comp) ≡ 4
chroma_dc_size mb comp sizes h = All-from_recursion (λ levels. length levels ≡ 4) mb.chroma_dc sizes.chroma_dc.1 comp [] (omega (arith, sizes.chroma_dc.0))

pub chroma_ac_sizes : (mb : Mb) (comp : ℕ) → HasSizes mb → comp < 2 → (length (get_or mb.chroma_ac comp []) ≡ 4) × AllByRecursion (λ block. length block ≡ 15) (get_or mb.chroma_ac comp [])
chroma_ac_sizes mb comp sizes h =
    All-from_recursion (λ (blocks : List (List ℤ)). (length blocks ≡ 4) × AllByRecursion (λ block. length block ≡ 15) blocks) mb.chroma_ac sizes.chroma_ac.1 comp [] (omega (arith, sizes.chroma_ac.0))

pub chroma_ac_size : (mb : Mb) (comp n : ℕ) → HasSizes mb → comp < 2 → n < 4 → length (chroma_ac_of mb comp n) ≡ 15
chroma_ac_size mb comp n sizes h k =
    let size = chroma_ac_sizes mb comp sizes h in
    All-from_recursion (λ block. length block ≡ 15) (get_or mb.chroma_ac comp []) size.1 n [] (omega (arith, size.0))

-- ---- none, and all

pub so_far-none : (mb : Mb) → so_far 0 0 0 0 mb ≡ without_levels mb
unfolding so_far
so_far-none mb = refl

pub so_far-all : (mb : Mb) → HasSizes mb → so_far 16 256 8 120 mb ≡ mb
unfolding so_far
so_far-all mb sizes =
    let dc : first 16 16 mb.dc ≡ mb.dc = first_all 16 16 mb.dc sizes.dc (omega arith) in
    let luma : four (λ q. first 64 (256 - 64 * q) (quarter_of mb q)) ≡ mb.luma =
    four_list (λ q. first 64 (256 - 64 * q) (quarter_of mb q)) mb.luma [] sizes.luma.0 (λ q h. first_all 64 (256 - 64 * q) (quarter_of mb q) (quarter_size mb q sizes h) (omega arith)) in
    let chroma_dc : two (λ comp. first 4 (8 - 4 * comp) (chroma_dc_of mb comp)) ≡ mb.chroma_dc =
    two_list (λ comp. first 4 (8 - 4 * comp) (chroma_dc_of mb comp)) mb.chroma_dc [] sizes.chroma_dc.0 (λ comp h. first_all 4 (8 - 4 * comp) (chroma_dc_of mb comp) (chroma_dc_size mb comp sizes h) (omega arith)) in
    let chroma_ac : two (λ comp. four (λ n. first 15 (120 - 15 * (4 * comp + n)) (chroma_ac_of mb comp n))) ≡ mb.chroma_ac =
    two_list (λ comp. four (λ n. first 15 (120 - 15 * (4 * comp + n)) (chroma_ac_of mb comp n))) mb.chroma_ac [] sizes.chroma_ac.0 (λ comp h.
    four_list (λ n. first 15 (120 - 15 * (4 * comp + n)) (chroma_ac_of mb comp n)) (get_or mb.chroma_ac comp []) [] (chroma_ac_sizes mb comp sizes h).0 (λ n k.
    first_all 15 (120 - 15 * (4 * comp + n)) (chroma_ac_of mb comp n) (chroma_ac_size mb comp n sizes h k) (omega arith))) in
    ap (λ (l : List ℤ). record mb { dc = l; luma = four (λ q. first 64 (256 - 64 * q) (quarter_of mb q)); chroma_dc = two (λ comp. first 4 (8 - 4 * comp) (chroma_dc_of mb comp)); chroma_ac = two (λ comp. four (λ n. first 15 (120 - 15 * (4 * comp + n)) (chroma_ac_of mb comp n))) }) dc
    ∙ ap (λ (l : List (List ℤ)). record mb { luma = l; chroma_dc = two (λ comp. first 4 (8 - 4 * comp) (chroma_dc_of mb comp)); chroma_ac = two (λ comp. four (λ n. first 15 (120 - 15 * (4 * comp + n)) (chroma_ac_of mb comp n))) }) luma
    ∙ ap (λ (l : List (List ℤ)). record mb { chroma_dc = l; chroma_ac = two (λ comp. four (λ n. first 15 (120 - 15 * (4 * comp + n)) (chroma_ac_of mb comp n))) }) chroma_dc
    ∙ ap (λ (l : List (List (List ℤ))). record mb { chroma_ac = l }) chroma_ac

-- ---- luma

pub so_far-dc : (mb : Mb) → HasSizes mb → record (so_far 0 0 0 0 mb) { dc = mb.dc } ≡ so_far 16 0 0 0 mb
unfolding so_far
so_far-dc mb sizes = ap (λ (l : List ℤ). record (so_far 0 0 0 0 mb) { dc = l }) (sym (first_all 16 16 mb.dc sizes.dc (omega arith)))

pub so_far-no_dc : (mb : Mb) → mb.dc ≡ replicate 16 (pos 0) → so_far 0 0 0 0 mb ≡ so_far 16 0 0 0 mb
unfolding so_far
so_far-no_dc mb e = let same : replicate 16 (pos 0) ≡ first 16 16 mb.dc = ap (first 16 16) (sym e) in ap (λ (l : List ℤ). record (so_far 0 0 0 0 mb) { dc = l }) same

-- the first levels of the quarters
unfoldable pub quarters : Mb → ℕ → ℕ → List ℤ
quarters mb k q = first 64 (k - 64 * q) (quarter_of mb q)

quarters-others : (mb : Mb) (k l q r : ℕ) → HasSizes mb → 64 * q ≤ k → k ≤ l → l ≤ 64 * (q + 1) → r < 4 → r ≢ q → quarters mb k r ≡ quarters mb l r
unfolding quarters
quarters-others mb k l q r sizes low up high h other =
    elim (below r q) [
      | inl less ↦ first_all 64 (k - 64 * r) (quarter_of mb r) (quarter_size mb r sizes h) (omega arith) ∙ sym (first_all 64 (l - 64 * r) (quarter_of mb r) (quarter_size mb r sizes h) (omega arith))
      | inr more ↦ first_none 64 (k - 64 * r) (quarter_of mb r) (omega arith) ∙ sym (first_none 64 (l - 64 * r) (quarter_of mb r) (omega arith))
    ]

pub so_far-luma4 : (mb : Mb) (n : ℕ) → HasSizes mb → n < 16 → with_luma4 n (so_far 16 (16 * n) 0 0 mb) (luma_block mb n) ≡ so_far 16 (16 * (n + 1)) 0 0 mb
unfolding so_far quarters
so_far-luma4 mb n sizes h =
    let q : n / 4 < 4 = omega arith in
    let size = quarter_size mb (n / 4) sizes q in
    let from : 16 * n - 64 * (n / 4) ≡ 16 * (n % 4) = omega arith in
    let to : 16 * (n % 4) + 16 ≡ 16 * (n + 1) - 64 * (n / 4) = omega arith in
    let old : get_or (four (quarters mb (16 * n))) (n / 4) [] ≡ first 64 (16 * (n % 4)) (quarter_of mb (n / 4)) =
    four_get (quarters mb (16 * n)) (n / 4) [] q ∙ ap (λ k. first 64 k (quarter_of mb (n / 4))) from in
    let new : with_block (get_or (four (quarters mb (16 * n))) (n / 4) []) (n % 4) (luma_block mb n) ≡ quarters mb (16 * (n + 1)) (n / 4) =
    ap (λ (l : List ℤ). with_block l (n % 4) (luma_block mb n)) old ∙ first_block (quarter_of mb (n / 4)) (n % 4) size (omega arith) ∙ ap (λ k. first 64 k (quarter_of mb (n / 4))) to in
    let all : set (four (quarters mb (16 * n))) (n / 4) (with_block (get_or (four (quarters mb (16 * n))) (n / 4) []) (n % 4) (luma_block mb n)) ≡ four (quarters mb (16 * (n + 1))) =
    four_set (quarters mb (16 * n)) (quarters mb (16 * (n + 1))) (n / 4) _ q new (λ r k other. quarters-others mb (16 * n) (16 * (n + 1)) (n / 4) r sizes (omega arith) (omega arith) (omega arith) k other) in
    ap (λ (l : List (List ℤ)). record (so_far 16 0 0 0 mb) { luma = l }) all

pub so_far-quarter : (mb : Mb) (q : ℕ) → HasSizes mb → q < 4 → with_quarter q (so_far 16 (64 * q) 0 0 mb) (quarter_of mb q) ≡ so_far 16 (64 * (q + 1)) 0 0 mb
unfolding so_far quarters
so_far-quarter mb q sizes h =
    let new : quarter_of mb q ≡ quarters mb (64 * (q + 1)) q = sym (first_all 64 (64 * (q + 1) - 64 * q) (quarter_of mb q) (quarter_size mb q sizes h) (omega arith)) in
    let all : set (four (quarters mb (64 * q))) q (quarter_of mb q) ≡ four (quarters mb (64 * (q + 1))) =
    four_set (quarters mb (64 * q)) (quarters mb (64 * (q + 1))) q (quarter_of mb q) h new (λ r k other. quarters-others mb (64 * q) (64 * (q + 1)) q r sizes (omega arith) (omega arith) (omega arith) k other) in
    ap (λ (l : List (List ℤ)). record (so_far 16 0 0 0 mb) { luma = l }) all

pub so_far-no_quarter : (mb : Mb) (q : ℕ) → HasSizes mb → q < 4 → quarter_of mb q ≡ replicate 64 (pos 0) → so_far 16 (64 * q) 0 0 mb ≡ so_far 16 (64 * (q + 1)) 0 0 mb
unfolding so_far quarters
so_far-no_quarter mb q sizes h zeros =
    let old : get_or (four (quarters mb (64 * q))) q [] ≡ quarter_of mb q = four_get (quarters mb (64 * q)) q [] h ∙ first_none 64 (64 * q - 64 * q) (quarter_of mb q) (omega arith) ∙ sym zeros in
    let same : set (four (quarters mb (64 * q))) q (quarter_of mb q) ≡ four (quarters mb (64 * q)) = ap (set (four (quarters mb (64 * q))) q) (sym old) ∙ set-get_or (four (quarters mb (64 * q))) q [] in
    ap (λ (l : List (List ℤ)). record (so_far 16 0 0 0 mb) { luma = l }) (sym same) ∙ so_far-quarter mb q sizes h

-- ---- chroma

unfoldable pub dcs : Mb → ℕ → ℕ → List ℤ
dcs mb k comp = first 4 (k - 4 * comp) (chroma_dc_of mb comp)

dcs-others : (mb : Mb) (k l r comp : ℕ) → HasSizes mb → 4 * comp ≤ k → k ≤ l → l ≤ 4 * (comp + 1) → r < 2 → r ≢ comp → dcs mb k r ≡ dcs mb l r
unfolding dcs
dcs-others mb k l r comp sizes low up high h other =
    elim (below r comp) [
      | inl less ↦ first_all 4 (k - 4 * r) (chroma_dc_of mb r) (chroma_dc_size mb r sizes h) (omega arith) ∙ sym (first_all 4 (l - 4 * r) (chroma_dc_of mb r) (chroma_dc_size mb r sizes h) (omega arith))
      | inr more ↦ first_none 4 (k - 4 * r) (chroma_dc_of mb r) (omega arith) ∙ sym (first_none 4 (l - 4 * r) (chroma_dc_of mb r) (omega arith))
    ]

pub so_far-chroma_dc : (mb : Mb) (comp : ℕ) → HasSizes mb → comp < 2 → with_chroma_dc comp (so_far 16 256 (4 * comp) 0 mb) (chroma_dc_of mb comp) ≡ so_far 16 256 (4 * (comp + 1)) 0 mb
unfolding so_far dcs
so_far-chroma_dc mb comp sizes h =
    let new : chroma_dc_of mb comp ≡ dcs mb (4 * (comp + 1)) comp = sym (first_all 4 (4 * (comp + 1) - 4 * comp) (chroma_dc_of mb comp) (chroma_dc_size mb comp sizes h) (omega arith)) in
    let all : set (two (dcs mb (4 * comp))) comp (chroma_dc_of mb comp) ≡ two (dcs mb (4 * (comp + 1))) =
    two_set (dcs mb (4 * comp)) (dcs mb (4 * (comp + 1))) comp (chroma_dc_of mb comp) h new (λ r k other. dcs-others mb (4 * comp) (4 * (comp + 1)) r comp sizes (omega arith) (omega arith) (omega arith) k other) in
    ap (λ (l : List (List ℤ)). record (so_far 16 256 0 0 mb) { chroma_dc = l }) all

pub so_far-no_chroma_dc : (mb : Mb) (comp : ℕ) → HasSizes mb → comp < 2 → chroma_dc_of mb comp ≡ replicate 4 (pos 0) → so_far 16 256 (4 * comp) 0 mb ≡ so_far 16 256 (4 * (comp + 1)) 0 mb
unfolding so_far dcs
so_far-no_chroma_dc mb comp sizes h zeros =
    let old : get_or (two (dcs mb (4 * comp))) comp [] ≡ chroma_dc_of mb comp = two_get (dcs mb (4 * comp)) comp [] h ∙ first_none 4 (4 * comp - 4 * comp) (chroma_dc_of mb comp) (omega arith) ∙ sym zeros in
    let same : set (two (dcs mb (4 * comp))) comp (chroma_dc_of mb comp) ≡ two (dcs mb (4 * comp)) = ap (set (two (dcs mb (4 * comp))) comp) (sym old) ∙ set-get_or (two (dcs mb (4 * comp))) comp [] in
    ap (λ (l : List (List ℤ)). record (so_far 16 256 0 0 mb) { chroma_dc = l }) (sym same) ∙ so_far-chroma_dc mb comp sizes h

unfoldable pub ac_block : Mb → ℕ → ℕ → ℕ → List ℤ
ac_block mb k comp n = first 15 (k - 15 * (4 * comp + n)) (chroma_ac_of mb comp n)

unfoldable pub ac_blocks : Mb → ℕ → ℕ → List (List ℤ)
ac_blocks mb k comp = four (ac_block mb k comp)

ac_block-other : (mb : Mb) (k l comp n r m : ℕ) → HasSizes mb → r < 2 → m < 4 → 60 * comp + 15 * n ≤ k → k ≤ l → l ≤ 60 * comp + 15 * (n + 1) → 4 * r + m ≢ 4 * comp + n → ac_block mb k r m ≡ ac_block mb l r m
unfolding ac_block
ac_block-other mb k l comp n r m sizes h i low up high other =
    elim (below (4 * r + m) (4 * comp + n)) [
      | inl less ↦ first_all 15 (k - 15 * (4 * r + m)) (chroma_ac_of mb r m) (chroma_ac_size mb r m sizes h i) (omega arith) ∙ sym (first_all 15 (l - 15 * (4 * r + m)) (chroma_ac_of mb r m) (chroma_ac_size mb r m sizes h i) (omega arith))
      | inr more ↦ first_none 15 (k - 15 * (4 * r + m)) (chroma_ac_of mb r m) (omega arith) ∙ sym (first_none 15 (l - 15 * (4 * r + m)) (chroma_ac_of mb r m) (omega arith))
    ]

four_same : {A : Type 0} (f g : ℕ → A) → ((r : ℕ) → r < 4 → f r ≡ g r) → four f ≡ four g
four_same f g same = let a = same 0 (omega arith) in let b = same 1 (omega arith) in let c = same 2 (omega arith) in let d = same 3 (omega arith) in cc

pub so_far-chroma_block : (mb : Mb) (comp n : ℕ) → HasSizes mb → comp < 2 → n < 4 → with_chroma_block comp n (so_far 16 256 8 (60 * comp + 15 * n) mb) (chroma_ac_of mb comp n) ≡ so_far 16 256 8 (60 * comp + 15 * (n + 1)) mb
unfolding so_far ac_blocks ac_block
so_far-chroma_block mb comp n sizes h i =
    let new : chroma_ac_of mb comp n ≡ ac_block mb (60 * comp + 15 * (n + 1)) comp n = sym (first_all 15 (60 * comp + 15 * (n + 1) - 15 * (4 * comp + n)) (chroma_ac_of mb comp n) (chroma_ac_size mb comp n sizes h i) (omega arith)) in
    let blocks : set (ac_blocks mb (60 * comp + 15 * n) comp) n (chroma_ac_of mb comp n) ≡ ac_blocks mb (60 * comp + 15 * (n + 1)) comp =
    four_set (ac_block mb (60 * comp + 15 * n) comp) (ac_block mb (60 * comp + 15 * (n + 1)) comp) n (chroma_ac_of mb comp n) i new (λ m k other. ac_block-other mb (60 * comp + 15 * n) (60 * comp + 15 * (n + 1)) comp n comp m sizes h k (omega arith) (omega arith) (omega arith) (omega arith)) in
    let put : set (get_or (two (ac_blocks mb (60 * comp + 15 * n))) comp []) n (chroma_ac_of mb comp n) ≡ ac_blocks mb (60 * comp + 15 * (n + 1)) comp =
    ap (λ (l : List (List ℤ)). set l n (chroma_ac_of mb comp n)) (two_get (ac_blocks mb (60 * comp + 15 * n)) comp [] h) ∙ blocks in
    let all : set (two (ac_blocks mb (60 * comp + 15 * n))) comp (set (get_or (two (ac_blocks mb (60 * comp + 15 * n))) comp []) n (chroma_ac_of mb comp n)) ≡ two (ac_blocks mb (60 * comp + 15 * (n + 1))) =
    two_set (ac_blocks mb (60 * comp + 15 * n)) (ac_blocks mb (60 * comp + 15 * (n + 1))) comp _ h put (λ r k other.
    four_same (ac_block mb (60 * comp + 15 * n) r) (ac_block mb (60 * comp + 15 * (n + 1)) r) (λ m j. ac_block-other mb (60 * comp + 15 * n) (60 * comp + 15 * (n + 1)) comp n r m sizes k j (omega arith) (omega arith) (omega arith) (omega arith))) in
    ap (λ (l : List (List (List ℤ))). record (so_far 16 256 8 0 mb) { chroma_ac = l }) all

pub so_far-no_chroma_ac : (mb : Mb) (comp : ℕ) → HasSizes mb → comp < 2 → ((n : ℕ) → n < 4 → chroma_ac_of mb comp n ≡ replicate 15 (pos 0)) → so_far 16 256 8 (60 * comp) mb ≡ so_far 16 256 8 (60 * (comp + 1)) mb
unfolding so_far ac_blocks ac_block
so_far-no_chroma_ac mb comp sizes h zeros =
    let whole : two (ac_blocks mb (60 * comp)) ≡ two (ac_blocks mb (60 * (comp + 1))) = two_same (ac_blocks mb (60 * comp)) (ac_blocks mb (60 * (comp + 1))) (λ r k.
    four_same (ac_block mb (60 * comp) r) (ac_block mb (60 * (comp + 1)) r) (λ m j. at r m k j (near r comp))) in
    ap (λ (l : List (List (List ℤ))). record (so_far 16 256 8 0 mb) { chroma_ac = l }) whole
  where
    two_same : {A : Type 0} (f g : ℕ → A) → ((r : ℕ) → r < 2 → f r ≡ g r) → two f ≡ two g
    two_same f g same = let a = same 0 (omega arith) in let b = same 1 (omega arith) in cc

    zeros_at : (r m : ℕ) → r ≡ comp → m < 4 → chroma_ac_of mb r m ≡ replicate 15 (pos 0)
    zeros_at r m e j = ap (λ k. chroma_ac_of mb k m) e ∙ zeros m j

    at : (r m : ℕ) → r < 2 → m < 4 → (r ≡ comp) ⊎ (r ≢ comp) → ac_block mb (60 * comp) r m ≡ ac_block mb (60 * (comp + 1)) r m
    at r m k j (inl e) =
        first_none 15 (60 * comp - 15 * (4 * r + m)) (chroma_ac_of mb r m) (omega (arith, e)) ∙ sym (zeros_at r m e j)
        ∙ sym (first_all 15 (60 * (comp + 1) - 15 * (4 * r + m)) (chroma_ac_of mb r m) (chroma_ac_size mb r m sizes k j) (omega (arith, e)))
    at r m k j (inr e) =
        elim (below r comp) [
          | inl less ↦ first_all 15 (60 * comp - 15 * (4 * r + m)) (chroma_ac_of mb r m) (chroma_ac_size mb r m sizes k j) (omega arith) ∙ sym (first_all 15 (60 * (comp + 1) - 15 * (4 * r + m)) (chroma_ac_of mb r m) (chroma_ac_size mb r m sizes k j) (omega arith))
          | inr more ↦ first_none 15 (60 * comp - 15 * (4 * r + m)) (chroma_ac_of mb r m) (omega arith) ∙ sym (first_none 15 (60 * (comp + 1) - 15 * (4 * r + m)) (chroma_ac_of mb r m) (omega (arith, e)))
        ]
