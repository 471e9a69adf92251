-- The elements of a macroblock, one list after another.
use Rattle.std.proofs.Common.{◌≡◌, ℕ, ◌≤◌, ℤ, Bool, List, [], ◌∷◌, ◌++◌, length, get_or, slice_set, Option, Some, None, refl, sym, ap, subst, ◌∙◌, arith}
use Rattle.std.specs.Option.{option_map}
use Rattle.bit_texts.specs.Texts.{Reads, IsPrefixFree, BothAre, both_texts}
use Rattle.bit_texts.proofs.Reading.{Reads-then, Reads-stop, Reads-map, IsPrefixFree-then, IsPrefixFree-map}
use Rattle.exp_golomb.specs.Code.{te}
use Rattle.h264_types.specs.Partition.{partition_of, part_of}
use Rattle.h264_types.specs.declared.macroblock.MbKind.{MbKind}
use Rattle.h264_types.specs.declared.macroblock.Mb.{Mb}
use Rattle.cavlc_inter.specs.declared.parts.Parts.{Parts}
use Rattle.cavlc_inter.specs.InterPrediction.{AreSubsIf, subs_text_if, has_ref, AreRefs, refs_text, has_mvd, no_vector, IsVector, vector_text, AreMvds, mvds_text, refs_of, mvds_of, greatest_of, inter_text, IsInter, with_inter}
use Rattle.cavlc_inter.proofs.Codes.{IsPrefixFree-te, IsPrefixFree-vector}
use Rattle.cavlc_inter.proofs.SubLaws.{IsPrefixFree-subs}
use Rattle.cavlc_inter.proofs.Elements.{IsPrefixFree-elements}

pub IsPrefixFree-refs : (parts : Parts) (x greatest : ℕ) → greatest ≤ 255 → IsPrefixFree (AreRefs parts x greatest) (refs_text parts x greatest)
IsPrefixFree-refs parts x greatest h = IsPrefixFree-elements 4 (partition_of parts.kind) (has_ref parts x greatest) 0 (λ i. i ≤ greatest) (te greatest) (IsPrefixFree-te greatest (omega (arith, h)))

pub IsPrefixFree-mvds : (parts : Parts) (x : ℕ) → IsPrefixFree (AreMvds parts x) (mvds_text parts x)
IsPrefixFree-mvds parts x = IsPrefixFree-elements 16 (part_of parts.kind parts.subs) (has_mvd parts x) no_vector IsVector vector_text IsPrefixFree-vector

-- ---- all lists that are still to come, from the last one up

abbrev pub parts : MbKind → List ℕ → Parts
parts kind subs = record { kind = kind; subs = subs }

abbrev pub Vectors : Type 0
Vectors = List (List ℤ)

abbrev pub Are3 : MbKind → List ℕ → Vectors × Vectors → Type 0
Are3 kind subs = BothAre (AreMvds (parts kind subs) 0) (λ (_ : Vectors). AreMvds (parts kind subs) 1)

abbrev pub text3 : MbKind → List ℕ → Vectors × Vectors → List Bool
text3 kind subs = both_texts (mvds_text (parts kind subs) 0) (λ (_ : Vectors). mvds_text (parts kind subs) 1)

abbrev pub Are2 : MbKind → ℕ → List ℕ → List ℕ × (Vectors × Vectors) → Type 0
Are2 kind g1 subs = BothAre (AreRefs (parts kind subs) 1 g1) (λ (_ : List ℕ). Are3 kind subs)

abbrev pub text2 : MbKind → ℕ → List ℕ → List ℕ × (Vectors × Vectors) → List Bool
text2 kind g1 subs = both_texts (refs_text (parts kind subs) 1 g1) (λ (_ : List ℕ). text3 kind subs)

abbrev pub Are1 : MbKind → ℕ → ℕ → List ℕ → List ℕ × (List ℕ × (Vectors × Vectors)) → Type 0
Are1 kind g0 g1 subs = BothAre (AreRefs (parts kind subs) 0 g0) (λ (_ : List ℕ). Are2 kind g1 subs)

abbrev pub text1 : MbKind → ℕ → ℕ → List ℕ → List ℕ × (List ℕ × (Vectors × Vectors)) → List Bool
text1 kind g0 g1 subs = both_texts (refs_text (parts kind subs) 0 g0) (λ (_ : List ℕ). text2 kind g1 subs)

abbrev pub Elements : Type 0
Elements = List ℕ × (List ℕ × (List ℕ × (Vectors × Vectors)))

abbrev pub Are0 : MbKind → ℕ → ℕ → Elements → Type 0
Are0 kind g0 g1 = BothAre (AreSubsIf kind) (Are1 kind g0 g1)

abbrev pub text0 : MbKind → ℕ → ℕ → Elements → List Bool
text0 kind g0 g1 = both_texts (subs_text_if kind) (text1 kind g0 g1)

-- ---- one list after another

pub after_subs : (kind : MbKind) (g0 g1 : ℕ) (subs : List ℕ) (left mid : List Bool) → AreSubsIf kind subs × (left ≡ subs_text_if kind subs ++ mid) → (r : Option (List ℕ × (List ℕ × (Vectors × Vectors)))) (rest : List Bool)
    → Reads (Are1 kind g0 g1 subs) (text1 kind g0 g1 subs) mid r rest → Reads (Are0 kind g0 g1) (text0 kind g0 g1) left (option_map (λ b. (subs, b)) r) rest
after_subs kind g0 g1 subs left mid read r rest h = Reads-then (AreSubsIf kind) (subs_text_if kind) (Are1 kind g0 g1) (text1 kind g0 g1) (IsPrefixFree-subs kind) subs left mid read.0 read.1 r rest h

pub after_refs0 : (kind : MbKind) (g0 g1 : ℕ) (subs : List ℕ) → g0 ≤ 255 → (refs : List ℕ) (left mid : List Bool) → AreRefs (parts kind subs) 0 g0 refs × (left ≡ refs_text (parts kind subs) 0 g0 refs ++ mid) → (r : Option (List ℕ × (Vectors × Vectors))) (rest : List Bool)
    → Reads (Are2 kind g1 subs) (text2 kind g1 subs) mid r rest → Reads (Are1 kind g0 g1 subs) (text1 kind g0 g1 subs) left (option_map (λ b. (refs, b)) r) rest
after_refs0 kind g0 g1 subs small refs left mid read r rest h =
    Reads-then (AreRefs (parts kind subs) 0 g0) (refs_text (parts kind subs) 0 g0) (λ (_ : List ℕ). Are2 kind g1 subs) (λ (_ : List ℕ). text2 kind g1 subs) (IsPrefixFree-refs (parts kind subs) 0 g0 small) refs left mid read.0 read.1 r rest h

pub after_refs1 : (kind : MbKind) (g1 : ℕ) (subs : List ℕ) → g1 ≤ 255 → (refs : List ℕ) (left mid : List Bool) → AreRefs (parts kind subs) 1 g1 refs × (left ≡ refs_text (parts kind subs) 1 g1 refs ++ mid) → (r : Option (Vectors × Vectors)) (rest : List Bool)
    → Reads (Are3 kind subs) (text3 kind subs) mid r rest → Reads (Are2 kind g1 subs) (text2 kind g1 subs) left (option_map (λ b. (refs, b)) r) rest
after_refs1 kind g1 subs small refs left mid read r rest h =
    Reads-then (AreRefs (parts kind subs) 1 g1) (refs_text (parts kind subs) 1 g1) (λ (_ : List ℕ). Are3 kind subs) (λ (_ : List ℕ). text3 kind subs) (IsPrefixFree-refs (parts kind subs) 1 g1 small) refs left mid read.0 read.1 r rest h

pub after_mvds0 : (kind : MbKind) (subs : List ℕ) (mvds : Vectors) (left mid : List Bool) → AreMvds (parts kind subs) 0 mvds × (left ≡ mvds_text (parts kind subs) 0 mvds ++ mid) → (r : Option Vectors) (rest : List Bool)
    → Reads (AreMvds (parts kind subs) 1) (mvds_text (parts kind subs) 1) mid r rest → Reads (Are3 kind subs) (text3 kind subs) left (option_map (λ b. (mvds, b)) r) rest
after_mvds0 kind subs mvds left mid read r rest h =
    Reads-then (AreMvds (parts kind subs) 0) (mvds_text (parts kind subs) 0) (λ (_ : Vectors). AreMvds (parts kind subs) 1) (λ (_ : Vectors). mvds_text (parts kind subs) 1) (IsPrefixFree-mvds (parts kind subs) 0) mvds left mid read.0 read.1 r rest h

pub no_subs : (kind : MbKind) (g0 g1 : ℕ) (left rest : List Bool) → Reads (AreSubsIf kind) (subs_text_if kind) left None rest → Reads (Are0 kind g0 g1) (text0 kind g0 g1) left None rest
no_subs kind g0 g1 left rest none = Reads-stop (AreSubsIf kind) (subs_text_if kind) (Are1 kind g0 g1) (text1 kind g0 g1) left rest rest none

pub no_refs0 : (kind : MbKind) (g0 g1 : ℕ) (subs : List ℕ) (left rest : List Bool) → Reads (AreRefs (parts kind subs) 0 g0) (refs_text (parts kind subs) 0 g0) left None rest → Reads (Are1 kind g0 g1 subs) (text1 kind g0 g1 subs) left None rest
no_refs0 kind g0 g1 subs left rest none = Reads-stop (AreRefs (parts kind subs) 0 g0) (refs_text (parts kind subs) 0 g0) (λ (_ : List ℕ). Are2 kind g1 subs) (λ (_ : List ℕ). text2 kind g1 subs) left rest rest none

pub no_refs1 : (kind : MbKind) (g1 : ℕ) (subs : List ℕ) (left rest : List Bool) → Reads (AreRefs (parts kind subs) 1 g1) (refs_text (parts kind subs) 1 g1) left None rest → Reads (Are2 kind g1 subs) (text2 kind g1 subs) left None rest
no_refs1 kind g1 subs left rest none = Reads-stop (AreRefs (parts kind subs) 1 g1) (refs_text (parts kind subs) 1 g1) (λ (_ : List ℕ). Are3 kind subs) (λ (_ : List ℕ). text3 kind subs) left rest rest none

pub no_mvds0 : (kind : MbKind) (subs : List ℕ) (left rest : List Bool) → Reads (AreMvds (parts kind subs) 0) (mvds_text (parts kind subs) 0) left None rest → Reads (Are3 kind subs) (text3 kind subs) left None rest
no_mvds0 kind subs left rest none = Reads-stop (AreMvds (parts kind subs) 0) (mvds_text (parts kind subs) 0) (λ (_ : Vectors). AreMvds (parts kind subs) 1) (λ (_ : Vectors). mvds_text (parts kind subs) 1) left rest rest none

IsPrefixFree-all : (kind : MbKind) (g0 g1 : ℕ) → g0 ≤ 255 → g1 ≤ 255 → IsPrefixFree (Are0 kind g0 g1) (text0 kind g0 g1)
IsPrefixFree-all kind g0 g1 small0 small1 =
    IsPrefixFree-then (AreSubsIf kind) (subs_text_if kind) (Are1 kind g0 g1) (text1 kind g0 g1) (IsPrefixFree-subs kind) (λ subs _.
    IsPrefixFree-then (AreRefs (parts kind subs) 0 g0) (refs_text (parts kind subs) 0 g0) (λ (_ : List ℕ). Are2 kind g1 subs) (λ (_ : List ℕ). text2 kind g1 subs) (IsPrefixFree-refs (parts kind subs) 0 g0 small0) (λ _ _.
    IsPrefixFree-then (AreRefs (parts kind subs) 1 g1) (refs_text (parts kind subs) 1 g1) (λ (_ : List ℕ). Are3 kind subs) (λ (_ : List ℕ). text3 kind subs) (IsPrefixFree-refs (parts kind subs) 1 g1 small1) (λ _ _.
    IsPrefixFree-then (AreMvds (parts kind subs) 0) (mvds_text (parts kind subs) 0) (λ (_ : Vectors). AreMvds (parts kind subs) 1) (λ (_ : Vectors). mvds_text (parts kind subs) 1) (IsPrefixFree-mvds (parts kind subs) 0) (λ _ _. IsPrefixFree-mvds (parts kind subs) 1))))

-- ---- the macroblock of these elements

abbrev pub elements_of : Mb → Elements
elements_of m = (m.subs, (refs_of 0 m, (refs_of 1 m, (mvds_of 0 m, mvds_of 1 m))))

abbrev pub made : Mb → Elements → Mb
made old v = record old { subs = v.0; refs = v.1.0 ∷ v.1.1.0 ∷ []; mvd = v.1.1.1.0 ∷ v.1.1.1.1 ∷ [] }

abbrev pub Is : MbKind → Bool → List ℕ → Mb → Mb → Type 0
Is kind ref0 active old m = IsInter kind ref0 active m × (m ≡ with_inter old m)

from_inter : (kind : MbKind) (ref0 : Bool) (active : List ℕ) (old m : Mb) → Is kind ref0 active old m
    → Are0 kind (greatest_of ref0 active 0) (greatest_of ref0 active 1) (elements_of m) × (inter_text kind ref0 active m ≡ text0 kind (greatest_of ref0 active 0) (greatest_of ref0 active 1) (elements_of m))
unfolding inter_text
from_inter kind ref0 active old m is = ((is.0.subs, (is.0.refs_l0, (is.0.refs_l1, (is.0.mvd_l0, is.0.mvd_l1)))), refl)

to_inter : (kind : MbKind) (ref0 : Bool) (active : List ℕ) (old : Mb) (v : Elements) → Are0 kind (greatest_of ref0 active 0) (greatest_of ref0 active 1) v
    → Is kind ref0 active old (made old v) × (inter_text kind ref0 active (made old v) ≡ text0 kind (greatest_of ref0 active 0) (greatest_of ref0 active 1) v)
unfolding inter_text
to_inter kind ref0 active old v are = (
  (record { subs = are.0; refs_l0 = are.1.0; refs_l1 = are.1.1.0; mvd_l0 = are.1.1.1.0; mvd_l1 = are.1.1.1.1; lists = (refl, refl) }, refl),
  refl,
)

pub inter_is_read : (kind : MbKind) (ref0 : Bool) (active : List ℕ) (old : Mb) (g0 g1 : ℕ) → g0 ≡ greatest_of ref0 active 0 → g1 ≡ greatest_of ref0 active 1 → (left : List Bool) (r : Option Elements) (rest : List Bool)
    → Reads (Are0 kind g0 g1) (text0 kind g0 g1) left r rest → Reads (Is kind ref0 active old) (inter_text kind ref0 active) left (option_map (made old) r) rest
inter_is_read kind ref0 active old g0 g1 e f left r rest h =
    let P : ℕ → ℕ → Type 0 = λ a b. Reads (Are0 kind a b) (text0 kind a b) left r rest in
    Reads-map (Are0 kind (greatest_of ref0 active 0) (greatest_of ref0 active 1)) (text0 kind (greatest_of ref0 active 0) (greatest_of ref0 active 1)) (Is kind ref0 active old) (inter_text kind ref0 active) (made old) elements_of
    (from_inter kind ref0 active old) (to_inter kind ref0 active old) left r rest (subst (λ a. P a (greatest_of ref0 active 1)) e (subst (P g0) f h))

two_are : {A : Type 0} (d : A) (xs : List A) → length xs ≡ 2 → get_or xs 0 d ∷ get_or xs 1 d ∷ [] ≡ xs
two_are d [] h = absurd (omega arith)
two_are d (a ∷ []) h = absurd (omega arith)
two_are d (a ∷ b ∷ c ∷ xs) h = absurd (omega arith)
two_are d (a ∷ b ∷ []) h = refl

pub two_put : {A : Type 0} (xs : List A) (a b : A) → length xs ≡ 2 → slice_set (slice_set xs 0 a) 1 b ≡ a ∷ b ∷ []
two_put [] a b h = absurd (omega arith)
two_put (x ∷ []) a b h = absurd (omega arith)
two_put (x ∷ y ∷ z ∷ xs) a b h = absurd (omega arith)
two_put (x ∷ y ∷ []) a b h = refl

made_again : (old m : Mb) → (length m.refs ≡ 2) × (length m.mvd ≡ 2) → m ≡ with_inter old m → made old (elements_of m) ≡ m
made_again old m lists same =
    let R : List (List ℕ) → List Vectors → Mb = λ r v. record old { subs = m.subs; refs = r; mvd = v } in
    ap (λ r. R r (mvds_of 0 m ∷ mvds_of 1 m ∷ [])) (two_are [] m.refs lists.0) ∙ ap (R m.refs) (two_are [] m.mvd lists.1) ∙ sym same

pub IsPrefixFree-inter : (kind : MbKind) (ref0 : Bool) (active : List ℕ) (old : Mb) → greatest_of ref0 active 0 ≤ 255 → greatest_of ref0 active 1 ≤ 255 → IsPrefixFree (Is kind ref0 active old) (inter_text kind ref0 active)
IsPrefixFree-inter kind ref0 active old small0 small1 =
    IsPrefixFree-map (Are0 kind (greatest_of ref0 active 0) (greatest_of ref0 active 1)) (text0 kind (greatest_of ref0 active 0) (greatest_of ref0 active 1)) (Is kind ref0 active old) (inter_text kind ref0 active) (made old) elements_of
    (from_inter kind ref0 active old) (λ m is. made_again old m is.0.lists is.1) (IsPrefixFree-all kind (greatest_of ref0 active 0) (greatest_of ref0 active 1) small0 small1)

-- the last list was read, or wasn't there, behind all others
pub last_is_read : {U : Type 0} (kind : MbKind) (ref0 : Bool) (active : List ℕ) (old new : Mb) (g0 g1 : ℕ) → g0 ≡ greatest_of ref0 active 0 → g1 ≡ greatest_of ref0 active 1 → g0 ≤ 255 → g1 ≤ 255
    → (subs refs0 refs1 : List ℕ) (mvds0 mvds1 : Vectors) (t0 t1 t2 t3 t4 : List Bool) → AreSubsIf kind subs × (t0 ≡ subs_text_if kind subs ++ t1) → AreRefs (parts kind subs) 0 g0 refs0 × (t1 ≡ refs_text (parts kind subs) 0 g0 refs0 ++ t2)
    → AreRefs (parts kind subs) 1 g1 refs1 × (t2 ≡ refs_text (parts kind subs) 1 g1 refs1 ++ t3) → AreMvds (parts kind subs) 0 mvds0 × (t3 ≡ mvds_text (parts kind subs) 0 mvds0 ++ t4)
    → new ≡ made old (subs, (refs0, (refs1, (mvds0, mvds1)))) → (o : Option U) (rest : List Bool) → Reads (AreMvds (parts kind subs) 1) (mvds_text (parts kind subs) 1) t4 (option_map (λ _. mvds1) o) rest
    → Reads (Is kind ref0 active old) (inter_text kind ref0 active) t0 (option_map (λ _. new) o) rest
last_is_read kind ref0 active old new g0 g1 e f small0 small1 subs refs0 refs1 mvds0 mvds1 t0 t1 t2 t3 t4 h0 h1 h2 h3 same None rest h =
    inter_is_read kind ref0 active old g0 g1 e f t0 None rest
    (after_subs kind g0 g1 subs t0 t1 h0 None rest (after_refs0 kind g0 g1 subs small0 refs0 t1 t2 h1 None rest (after_refs1 kind g1 subs small1 refs1 t2 t3 h2 None rest (after_mvds0 kind subs mvds0 t3 t4 h3 None rest h))))
last_is_read kind ref0 active old new g0 g1 e f small0 small1 subs refs0 refs1 mvds0 mvds1 t0 t1 t2 t3 t4 h0 h1 h2 h3 same (Some u) rest h =
    let P : Mb → Type 0 = λ m. Reads (Is kind ref0 active old) (inter_text kind ref0 active) t0 (Some m) rest in
    subst P (sym same)
    (inter_is_read kind ref0 active old g0 g1 e f t0 (Some (subs, (refs0, (refs1, (mvds0, mvds1))))) rest
    (after_subs kind g0 g1 subs t0 t1 h0 (Some (refs0, (refs1, (mvds0, mvds1)))) rest (after_refs0 kind g0 g1 subs small0 refs0 t1 t2 h1 (Some (refs1, (mvds0, mvds1))) rest (after_refs1 kind g1 subs small1 refs1 t2 t3 h2 (Some (mvds0, mvds1)) rest (after_mvds0 kind subs mvds0 t3 t4 h3 (Some mvds1) rest h)))))

-- the lists that were put make the macroblock
pub made_by_rows : (old : Mb) (subs refs0 refs1 : List ℕ) (mvds0 mvds1 : Vectors) → length old.refs ≡ 2 → length old.mvd ≡ 2
    → record old { subs = subs; refs = slice_set (slice_set old.refs 0 refs0) 1 refs1; mvd = slice_set (slice_set old.mvd 0 mvds0) 1 mvds1 } ≡ made old (subs, (refs0, (refs1, (mvds0, mvds1))))
made_by_rows old subs refs0 refs1 mvds0 mvds1 h k =
    let R : List (List ℕ) → List Vectors → Mb = λ r v. record old { subs = subs; refs = r; mvd = v } in
    ap (λ r. R r (slice_set (slice_set old.mvd 0 mvds0) 1 mvds1)) (two_put old.refs refs0 refs1 h) ∙ ap (R (refs0 ∷ refs1 ∷ [])) (two_put old.mvd mvds0 mvds1 k)

-- the whole text, where the greatest indices are known under other names
pub inter_text-as : (kind : MbKind) (ref0 : Bool) (active : List ℕ) (mb : Mb) (g0 g1 : ℕ) → g0 ≡ greatest_of ref0 active 0 → g1 ≡ greatest_of ref0 active 1
    → subs_text_if kind mb.subs ++ (refs_text (parts kind mb.subs) 0 g0 (refs_of 0 mb) ++ (refs_text (parts kind mb.subs) 1 g1 (refs_of 1 mb) ++ (mvds_text (parts kind mb.subs) 0 (mvds_of 0 mb) ++ mvds_text (parts kind mb.subs) 1 (mvds_of 1 mb)))) ≡ inter_text kind ref0 active mb
unfolding inter_text
inter_text-as kind ref0 active mb g0 g1 e f =
    let T : ℕ → ℕ → List Bool = λ a b. text0 kind a b (elements_of mb) in
    ap (λ a. T a g1) e ∙ ap (T (greatest_of ref0 active 0)) f
