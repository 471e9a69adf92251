-- Reading the residual part by part.
use Rattle.std.proofs.Common.{◌≡◌, ℕ, ◌≤◌, ℤ, negsuc, Bool, List, [], ◌++◌, length, Option, Some, None, refl, sym, ap, subst, ◌∙◌, arith, inr, get_or, slice_set}
use Rattle.std.proofs.lemmas.List.{length-set, get_or-set_same, get_or-set_other}
use Rattle.bit_texts.specs.Texts.{Reads}
use Rattle.h264_types.specs.declared.macroblock.Mb.{Mb}
use Rattle.h264_types.specs.declared.macroblock.Pattern.{Pattern}
use Rattle.cavlc_mb_residual.specs.declared.counts.Around.{Around}
use Rattle.cavlc_mb_residual.specs.Residual.{IsList, list_text, AreLumaBlocks, luma_text, AreChromaBlocks, chroma_text}
use Rattle.cavlc_mb_residual.specs.LumaBlocks.{luma_blocks}
use Rattle.h264_types.specs.Sizes.{HasSizes}
use Rattle.cavlc_mb_residual.specs.MacroblockResidual.{max_of, dc_of, ac_of, has_chroma_dc, has_chroma_ac, luma_dc_text, residual_text, IsResidual, with_residual}
use Rattle.cavlc_mb_residual.proofs.ResidualLaws.{IsPrefixFree-list, IsPrefixFree-luma_blocks, IsPrefixFree-chroma_blocks, max_shape}
use Rattle.cavlc_mb_residual.proofs.Chain.{Reads-part, Reads-no_part}

-- ---- what is known of the macroblock after each part, and the texts that follow

abbrev pub Is0 : Bool → Pattern → ℕ → Mb → Mb → Type 0
Is0 s p bound old m = IsResidual s p bound m × (m ≡ with_residual old m)

abbrev pub Is1 : Bool → Pattern → ℕ → Mb → List ℤ → Mb → Type 0
Is1 s p bound old dc m = Is0 s p bound old m × (m.dc ≡ dc)

abbrev pub Is2 : Bool → Pattern → ℕ → Mb → List ℤ → List (List ℤ) → Mb → Type 0
Is2 s p bound old dc luma m = Is1 s p bound old dc m × (luma_blocks m ≡ luma)

abbrev pub Is3 : Bool → Pattern → ℕ → Mb → List ℤ → List (List ℤ) → List ℤ → Mb → Type 0
Is3 s p bound old dc luma cb m = Is2 s p bound old dc luma m × (dc_of 0 m ≡ cb)

abbrev pub Is4 : Bool → Pattern → ℕ → Mb → List ℤ → List (List ℤ) → List ℤ → List ℤ → Mb → Type 0
Is4 s p bound old dc luma cb cr m = Is3 s p bound old dc luma cb m × (dc_of 1 m ≡ cr)

abbrev pub Is5 : Bool → Pattern → ℕ → Mb → List ℤ → List (List ℤ) → List ℤ → List ℤ → List (List ℤ) → Mb → Type 0
Is5 s p bound old dc luma cb cr ac m = Is4 s p bound old dc luma cb cr m × (ac_of 0 m ≡ ac)

abbrev pub Is6 : Bool → Pattern → ℕ → Mb → List ℤ → List (List ℤ) → List ℤ → List ℤ → List (List ℤ) → List (List ℤ) → Mb → Type 0
Is6 s p bound old dc luma cb cr ac bc m = Is5 s p bound old dc luma cb cr ac m × (ac_of 1 m ≡ bc)

abbrev pub text5 : Around → Pattern → Mb → List Bool
text5 around p m = chroma_text around.cr (has_chroma_ac p) (ac_of 1 m) ++ []

abbrev pub text4 : Around → Pattern → Mb → List Bool
text4 around p m = chroma_text around.cb (has_chroma_ac p) (ac_of 0 m) ++ text5 around p m

abbrev pub text3 : Around → Pattern → Mb → List Bool
text3 around p m = list_text (has_chroma_dc p) (negsuc 0) (dc_of 1 m) ++ text4 around p m

abbrev pub text2 : Around → Pattern → Mb → List Bool
text2 around p m = list_text (has_chroma_dc p) (negsuc 0) (dc_of 0 m) ++ text3 around p m

abbrev pub text1 : Around → Bool → Pattern → Mb → List Bool
text1 around s p m = luma_text around.luma p.luma (max_of s) (luma_blocks m) ++ text2 around p m

-- ---- one part after another

pub after_dc : (around : Around) (s : Bool) (p : Pattern) (bound : ℕ) (old : Mb) → bound ≤ 20 → (dc : List ℤ) (left mid : List Bool) → IsList s 16 bound dc × (left ≡ luma_dc_text around s dc ++ mid)
    → (r : Option Mb) (rest : List Bool) → Reads (Is1 s p bound old dc) (text1 around s p) mid r rest → Reads (Is0 s p bound old) (residual_text around s p) left r rest
unfolding residual_text
after_dc around s p bound old within dc left mid read r rest h =
    Reads-part (Is0 s p bound old) (IsList s 16 bound) (luma_dc_text around s) (λ m. m.dc) (λ m. luma_dc_text around s m.dc) (text1 around s p) (IsPrefixFree-list s _ 16 bound (inr refl) within) (λ m q. q.0.dc) (λ m q. refl) dc left mid read r rest h

pub no_dc : (around : Around) (s : Bool) (p : Pattern) (bound : ℕ) (old : Mb) (left mid rest : List Bool) → Reads (IsList s 16 bound) (luma_dc_text around s) left None mid → Reads (Is0 s p bound old) (residual_text around s p) left None rest
unfolding residual_text
no_dc around s p bound old left mid rest none =
    Reads-no_part (Is0 s p bound old) (IsList s 16 bound) (luma_dc_text around s) (λ m. m.dc) (λ m. luma_dc_text around s m.dc) (text1 around s p) (λ m q. q.0.dc) (λ m q. refl) left mid rest none

pub after_luma : (around : Around) (s : Bool) (p : Pattern) (bound : ℕ) (old : Mb) → bound ≤ 20 → (max : ℕ) → max ≡ max_of s → (dc : List ℤ) (luma : List (List ℤ)) (left mid : List Bool) → AreLumaBlocks p.luma max bound luma × (left ≡ luma_text around.luma p.luma max luma ++ mid)
    → (r : Option Mb) (rest : List Bool) → Reads (Is2 s p bound old dc luma) (text2 around p) mid r rest → Reads (Is1 s p bound old dc) (text1 around s p) left r rest
after_luma around s p bound old within max e dc luma left mid read r rest h =
    let P : ℕ → Type 0 = λ n. AreLumaBlocks p.luma n bound luma × (left ≡ luma_text around.luma p.luma n luma ++ mid) in
    Reads-part (Is1 s p bound old dc) (AreLumaBlocks p.luma (max_of s) bound) (luma_text around.luma p.luma (max_of s)) luma_blocks (λ m. luma_text around.luma p.luma (max_of s) (luma_blocks m)) (text2 around p) (IsPrefixFree-luma_blocks around.luma p.luma (max_of s) bound (max_shape s) within) (λ m q. q.0.0.luma) (λ m q. refl) luma left mid (subst P e read) r rest h

pub no_luma : (around : Around) (s : Bool) (p : Pattern) (bound : ℕ) (old : Mb) (max : ℕ) → max ≡ max_of s → (dc : List ℤ) (left mid rest : List Bool) → Reads (AreLumaBlocks p.luma max bound) (luma_text around.luma p.luma max) left None mid → Reads (Is1 s p bound old dc) (text1 around s p) left None rest
no_luma around s p bound old max e dc left mid rest none =
    let P : ℕ → Type 0 = λ n. Reads (AreLumaBlocks p.luma n bound) (luma_text around.luma p.luma n) left None mid in
    Reads-no_part (Is1 s p bound old dc) (AreLumaBlocks p.luma (max_of s) bound) (luma_text around.luma p.luma (max_of s)) luma_blocks (λ m. luma_text around.luma p.luma (max_of s) (luma_blocks m)) (text2 around p) (λ m q. q.0.0.luma) (λ m q. refl) left mid rest (subst P e none)

pub after_cb_dc : (around : Around) (s : Bool) (p : Pattern) (bound : ℕ) (old : Mb) → bound ≤ 20 → (dc : List ℤ) (luma : List (List ℤ)) (cb : List ℤ) (left mid : List Bool) → IsList (has_chroma_dc p) 4 bound cb × (left ≡ list_text (has_chroma_dc p) (negsuc 0) cb ++ mid)
    → (r : Option Mb) (rest : List Bool) → Reads (Is3 s p bound old dc luma cb) (text3 around p) mid r rest → Reads (Is2 s p bound old dc luma) (text2 around p) left r rest
after_cb_dc around s p bound old within dc luma cb left mid read r rest h =
    Reads-part (Is2 s p bound old dc luma) (IsList (has_chroma_dc p) 4 bound) (list_text (has_chroma_dc p) (negsuc 0)) (dc_of 0) (λ m. list_text (has_chroma_dc p) (negsuc 0) (dc_of 0 m)) (text3 around p) (IsPrefixFree-list (has_chroma_dc p) (negsuc 0) 4 bound refl within) (λ m q. q.0.0.0.cb_dc) (λ m q. refl) cb left mid read r rest h

pub no_cb_dc : (around : Around) (s : Bool) (p : Pattern) (bound : ℕ) (old : Mb) (dc : List ℤ) (luma : List (List ℤ)) (left mid rest : List Bool) → Reads (IsList (has_chroma_dc p) 4 bound) (list_text (has_chroma_dc p) (negsuc 0)) left None mid → Reads (Is2 s p bound old dc luma) (text2 around p) left None rest
no_cb_dc around s p bound old dc luma left mid rest none =
    Reads-no_part (Is2 s p bound old dc luma) (IsList (has_chroma_dc p) 4 bound) (list_text (has_chroma_dc p) (negsuc 0)) (dc_of 0) (λ m. list_text (has_chroma_dc p) (negsuc 0) (dc_of 0 m)) (text3 around p) (λ m q. q.0.0.0.cb_dc) (λ m q. refl) left mid rest none

pub after_cr_dc : (around : Around) (s : Bool) (p : Pattern) (bound : ℕ) (old : Mb) → bound ≤ 20 → (dc : List ℤ) (luma : List (List ℤ)) (cb cr : List ℤ) (left mid : List Bool) → IsList (has_chroma_dc p) 4 bound cr × (left ≡ list_text (has_chroma_dc p) (negsuc 0) cr ++ mid)
    → (r : Option Mb) (rest : List Bool) → Reads (Is4 s p bound old dc luma cb cr) (text4 around p) mid r rest → Reads (Is3 s p bound old dc luma cb) (text3 around p) left r rest
after_cr_dc around s p bound old within dc luma cb cr left mid read r rest h =
    Reads-part (Is3 s p bound old dc luma cb) (IsList (has_chroma_dc p) 4 bound) (list_text (has_chroma_dc p) (negsuc 0)) (dc_of 1) (λ m. list_text (has_chroma_dc p) (negsuc 0) (dc_of 1 m)) (text4 around p) (IsPrefixFree-list (has_chroma_dc p) (negsuc 0) 4 bound refl within) (λ m q. q.0.0.0.0.cr_dc) (λ m q. refl) cr left mid read r rest h

pub no_cr_dc : (around : Around) (s : Bool) (p : Pattern) (bound : ℕ) (old : Mb) (dc : List ℤ) (luma : List (List ℤ)) (cb : List ℤ) (left mid rest : List Bool) → Reads (IsList (has_chroma_dc p) 4 bound) (list_text (has_chroma_dc p) (negsuc 0)) left None mid → Reads (Is3 s p bound old dc luma cb) (text3 around p) left None rest
no_cr_dc around s p bound old dc luma cb left mid rest none =
    Reads-no_part (Is3 s p bound old dc luma cb) (IsList (has_chroma_dc p) 4 bound) (list_text (has_chroma_dc p) (negsuc 0)) (dc_of 1) (λ m. list_text (has_chroma_dc p) (negsuc 0) (dc_of 1 m)) (text4 around p) (λ m q. q.0.0.0.0.cr_dc) (λ m q. refl) left mid rest none

pub after_cb_ac : (around : Around) (s : Bool) (p : Pattern) (bound : ℕ) (old : Mb) → bound ≤ 20 → (dc : List ℤ) (luma : List (List ℤ)) (cb cr : List ℤ) (ac : List (List ℤ)) (left mid : List Bool) → AreChromaBlocks (has_chroma_ac p) bound ac × (left ≡ chroma_text around.cb (has_chroma_ac p) ac ++ mid)
    → (r : Option Mb) (rest : List Bool) → Reads (Is5 s p bound old dc luma cb cr ac) (text5 around p) mid r rest → Reads (Is4 s p bound old dc luma cb cr) (text4 around p) left r rest
after_cb_ac around s p bound old within dc luma cb cr ac left mid read r rest h =
    Reads-part (Is4 s p bound old dc luma cb cr) (AreChromaBlocks (has_chroma_ac p) bound) (chroma_text around.cb (has_chroma_ac p)) (ac_of 0) (λ m. chroma_text around.cb (has_chroma_ac p) (ac_of 0 m)) (text5 around p) (IsPrefixFree-chroma_blocks around.cb (has_chroma_ac p) bound within) (λ m q. q.0.0.0.0.0.cb_ac) (λ m q. refl) ac left mid read r rest h

pub no_cb_ac : (around : Around) (s : Bool) (p : Pattern) (bound : ℕ) (old : Mb) (dc : List ℤ) (luma : List (List ℤ)) (cb cr : List ℤ) (left mid rest : List Bool) → Reads (AreChromaBlocks (has_chroma_ac p) bound) (chroma_text around.cb (has_chroma_ac p)) left None mid → Reads (Is4 s p bound old dc luma cb cr) (text4 around p) left None rest
no_cb_ac around s p bound old dc luma cb cr left mid rest none =
    Reads-no_part (Is4 s p bound old dc luma cb cr) (AreChromaBlocks (has_chroma_ac p) bound) (chroma_text around.cb (has_chroma_ac p)) (ac_of 0) (λ m. chroma_text around.cb (has_chroma_ac p) (ac_of 0 m)) (text5 around p) (λ m q. q.0.0.0.0.0.cb_ac) (λ m q. refl) left mid rest none

pub after_cr_ac : (around : Around) (s : Bool) (p : Pattern) (bound : ℕ) (old : Mb) → bound ≤ 20 → (dc : List ℤ) (luma : List (List ℤ)) (cb cr : List ℤ) (ac bc : List (List ℤ)) (left mid : List Bool) → AreChromaBlocks (has_chroma_ac p) bound bc × (left ≡ chroma_text around.cr (has_chroma_ac p) bc ++ mid)
    → (r : Option Mb) (rest : List Bool) → Reads (Is6 s p bound old dc luma cb cr ac bc) (λ m. []) mid r rest → Reads (Is5 s p bound old dc luma cb cr ac) (text5 around p) left r rest
after_cr_ac around s p bound old within dc luma cb cr ac bc left mid read r rest h =
    Reads-part (Is5 s p bound old dc luma cb cr ac) (AreChromaBlocks (has_chroma_ac p) bound) (chroma_text around.cr (has_chroma_ac p)) (ac_of 1) (λ m. chroma_text around.cr (has_chroma_ac p) (ac_of 1 m)) (λ m. []) (IsPrefixFree-chroma_blocks around.cr (has_chroma_ac p) bound within) (λ m q. q.0.0.0.0.0.0.cr_ac) (λ m q. refl) bc left mid read r rest h

pub no_cr_ac : (around : Around) (s : Bool) (p : Pattern) (bound : ℕ) (old : Mb) (dc : List ℤ) (luma : List (List ℤ)) (cb cr : List ℤ) (ac : List (List ℤ)) (left mid rest : List Bool) → Reads (AreChromaBlocks (has_chroma_ac p) bound) (chroma_text around.cr (has_chroma_ac p)) left None mid → Reads (Is5 s p bound old dc luma cb cr ac) (text5 around p) left None rest
no_cr_ac around s p bound old dc luma cb cr ac left mid rest none =
    Reads-no_part (Is5 s p bound old dc luma cb cr ac) (AreChromaBlocks (has_chroma_ac p) bound) (chroma_text around.cr (has_chroma_ac p)) (ac_of 1) (λ m. chroma_text around.cr (has_chroma_ac p) (ac_of 1 m)) (λ m. []) (λ m q. q.0.0.0.0.0.0.cr_ac) (λ m q. refl) left mid rest none

-- the same where type and pattern are known under other names
pub known_as : (around : Around) (s t : Bool) (p q : Pattern) (bound : ℕ) (old : Mb) (left rest : List Bool) (r o : Option Mb) → s ≡ t → p ≡ q → o ≡ r → Reads (Is0 s p bound old) (residual_text around s p) left r rest → Reads (Is0 t q bound old) (residual_text around t q) left o rest
known_as around s t p q bound old left rest r o e f same h =
    let P : Bool → Pattern → Option Mb → Type 0 = λ b x y. Reads (Is0 b x bound old) (residual_text around b x) left y rest in
    subst (λ b. P b q o) e (subst (λ x. P s x o) f (subst (P s p) (sym same) h))

-- all parts were read
pub residual_is_read : (around : Around) (s : Bool) (p : Pattern) (bound : ℕ) (old new : Mb) → bound ≤ 20 → HasSizes new → new ≡ with_residual old new
    → (max : ℕ) → max ≡ max_of s
    → (dc : List ℤ) (luma : List (List ℤ)) (cb cr : List ℤ) (ac bc : List (List ℤ)) (t0 t1 t2 t3 t4 t5 t6 : List Bool)
    → IsList s 16 bound dc × (t0 ≡ luma_dc_text around s dc ++ t1)
    → AreLumaBlocks p.luma max bound luma × (t1 ≡ luma_text around.luma p.luma max luma ++ t2)
    → IsList (has_chroma_dc p) 4 bound cb × (t2 ≡ list_text (has_chroma_dc p) (negsuc 0) cb ++ t3)
    → IsList (has_chroma_dc p) 4 bound cr × (t3 ≡ list_text (has_chroma_dc p) (negsuc 0) cr ++ t4)
    → AreChromaBlocks (has_chroma_ac p) bound ac × (t4 ≡ chroma_text around.cb (has_chroma_ac p) ac ++ t5)
    → AreChromaBlocks (has_chroma_ac p) bound bc × (t5 ≡ chroma_text around.cr (has_chroma_ac p) bc ++ t6)
    → new.dc ≡ dc → luma_blocks new ≡ luma → dc_of 0 new ≡ cb → dc_of 1 new ≡ cr → ac_of 0 new ≡ ac → ac_of 1 new ≡ bc
    → Reads (Is0 s p bound old) (residual_text around s p) t0 (Some new) t6
residual_is_read around s p bound old new within sizes same max e_max dc luma cb cr ac bc t0 t1 t2 t3 t4 t5 t6 r1 r2 r3 r4 r5 r6 e1 e2 e3 e4 e5 e6 =
    let is : IsResidual s p bound new = record {
      dc = subst (IsList s 16 bound) (sym e1) r1.0;
      luma = subst (AreLumaBlocks p.luma (max_of s) bound) (sym e2) (subst (λ n. AreLumaBlocks p.luma n bound luma) e_max r2.0);
      cb_dc = subst (IsList (has_chroma_dc p) 4 bound) (sym e3) r3.0;
      cr_dc = subst (IsList (has_chroma_dc p) 4 bound) (sym e4) r4.0;
      cb_ac = subst (AreChromaBlocks (has_chroma_ac p) bound) (sym e5) r5.0;
      cr_ac = subst (AreChromaBlocks (has_chroma_ac p) bound) (sym e6) r6.0;
      sizes = sizes;
    } in
    after_dc around s p bound old within dc t0 t1 r1 (Some new) t6
    (after_luma around s p bound old within max e_max dc luma t1 t2 r2 (Some new) t6
    (after_cb_dc around s p bound old within dc luma cb t2 t3 r3 (Some new) t6
    (after_cr_dc around s p bound old within dc luma cb cr t3 t4 r4 (Some new) t6
    (after_cb_ac around s p bound old within dc luma cb cr ac t4 t5 r5 (Some new) t6
    (after_cr_ac around s p bound old within dc luma cb cr ac bc t5 t6 r6 (Some new) t6
    ((((((((is, same), e1), e2), e3), e4), e5), e6), refl))))))

-- two rows that were put
pub two_set : {A : Type 0} (xs : List A) (a b d : A) → length (slice_set (slice_set xs 0 a) 1 b) ≡ 2 → (get_or (slice_set (slice_set xs 0 a) 1 b) 0 d ≡ a) × (get_or (slice_set (slice_set xs 0 a) 1 b) 1 d ≡ b)
two_set xs a b d size =
    let inner : length (slice_set xs 0 a) ≡ 2 = sym (length-set (slice_set xs 0 a) 1 b) ∙ size in
    let outer : length xs ≡ 2 = sym (length-set xs 0 a) ∙ inner in
    (get_or-set_other (slice_set xs 0 a) 1 0 b d (λ e. omega (arith, e)) ∙ get_or-set_same xs 0 a d (omega (arith, outer)), get_or-set_same (slice_set xs 0 a) 1 b d (omega (arith, inner)))

-- the whole text, where type and pattern are known under other names
pub residual_text-as : (around : Around) (s t : Bool) (p q : Pattern) (max : ℕ) (mb : Mb) → s ≡ t → p ≡ q → max ≡ max_of s → luma_dc_text around s mb.dc ++ (luma_text around.luma p.luma max (luma_blocks mb) ++ text2 around p mb) ≡ residual_text around t q mb
unfolding residual_text
residual_text-as around s t p q max mb e f h =
    ap (λ n. luma_dc_text around s mb.dc ++ (luma_text around.luma p.luma n (luma_blocks mb) ++ text2 around p mb)) h
    ∙ ap (λ b. residual_text around b p mb) e ∙ ap (λ x. residual_text around t x mb) f
