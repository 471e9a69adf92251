-- No text of a residual begins another one.
use Rattle.std.proofs.Common.{◌≡◌, ℕ, zero, suc, ◌+◌, ◌*◌, ◌<◌, ◌≤◌, ℤ, negsuc, Bool, List, [], length, get_or, refl, sym, ap, ◌∙◌, arith, inr}
use Rattle.std.proofs.lemmas.List.{same_lists, get_or_default}
use Rattle.bit_texts.specs.Texts.{IsPrefixFree}
use Rattle.h264_types.specs.Macroblock.{quarter_of}
use Rattle.h264_types.specs.declared.macroblock.Mb.{Mb}
use Rattle.h264_types.specs.declared.macroblock.Pattern.{Pattern}
use Rattle.cavlc_mb_residual.specs.declared.counts.Around.{Around}
use Rattle.cavlc_mb_residual.specs.LumaBlocks.{luma_blocks}
use Rattle.cavlc_mb_residual.specs.Residual.{IsList, list_text, AreLumaBlocks, luma_text, AreChromaBlocks, chroma_text}
use Rattle.h264_types.specs.Sizes.{HasSizes}
use Rattle.cavlc_mb_residual.specs.MacroblockResidual.{max_of, dc_of, ac_of, has_chroma_dc, has_chroma_ac, luma_dc_text, residual_text, with_residual, IsResidual}
use Rattle.cavlc_mb_residual.proofs.Quarters.{list_in, same_quarter, quarter_size, list_at}
use Rattle.cavlc_mb_residual.proofs.ResidualLaws.{IsPrefixFree-list, IsPrefixFree-luma_blocks, IsPrefixFree-chroma_blocks, max_shape}
use Rattle.cavlc_mb_residual.proofs.ResidualChain.{Is0, Is1, Is2, Is3, Is4, Is5, Is6, text1, text2, text3, text4, text5}
use Rattle.cavlc_mb_residual.proofs.Chain.{IsPrefixFree-part}

-- the luma quarters are those of their lists
same_luma : (v w : Mb) → v.t8 ≡ w.t8 → HasSizes v → HasSizes w → luma_blocks v ≡ luma_blocks w → v.luma ≡ w.luma
same_luma v w t p q e =
    same_lists v.luma w.luma (p.luma.0 ∙ sym q.luma.0) (λ i d below.
    let one : i < 4 = omega (arith, below, p.luma.0) in
    let other : i < length w.luma = omega (arith, one, q.luma.0) in
    let quarter : quarter_of v i ≡ quarter_of w i =
    same_quarter v.t8 (quarter_of v i) (quarter_of w i) (quarter_size v i one p) (quarter_size w i one q) (λ k lt.
    list_at v i k one lt ∙ ap (λ (b : List (List ℤ)). get_or b (4 * i + k) []) e ∙ sym (list_at w i k one lt) ∙ ap (λ t8. list_in t8 (quarter_of w i) k) (sym t)) in
    get_or_default v.luma i d [] below ∙ quarter ∙ get_or_default w.luma i [] d other)

pub same_two : {A : Type 0} (d : A) (xs ys : List A) → length xs ≡ 2 → length ys ≡ 2 → get_or xs 0 d ≡ get_or ys 0 d → get_or xs 1 d ≡ get_or ys 1 d → xs ≡ ys
same_two d xs ys e f first second =
    same_lists xs ys (e ∙ sym f) (λ i c below. at i c (omega (arith, below, e)))
  where
    at : (i : ℕ) (c : _) → i < 2 → get_or xs i c ≡ get_or ys i c
    at zero c h = get_or_default xs 0 c d (omega (arith, e)) ∙ first ∙ get_or_default ys 0 d c (omega (arith, f))
    at (suc zero) c h = get_or_default xs 1 c d (omega (arith, e)) ∙ second ∙ get_or_default ys 1 d c (omega (arith, f))
    at (suc (suc i)) c h = absurd (omega arith)

same_residual : (old v w : Mb) → v.dc ≡ w.dc → v.luma ≡ w.luma → v.chroma_dc ≡ w.chroma_dc → v.chroma_ac ≡ w.chroma_ac → with_residual old v ≡ with_residual old w
same_residual old v w e1 e2 e3 e4 =
    let R : List ℤ → List (List ℤ) → List (List ℤ) → List (List (List ℤ)) → Mb = λ a b c d. record old { dc = a; luma = b; chroma_dc = c; chroma_ac = d } in
    ap (λ a. R a v.luma v.chroma_dc v.chroma_ac) e1 ∙ ap (λ b. R w.dc b v.chroma_dc v.chroma_ac) e2 ∙ ap (λ c. R w.dc w.luma c v.chroma_ac) e3 ∙ ap (λ d. R w.dc w.luma w.chroma_dc d) e4

-- ---- the residual

pub IsPrefixFree-residual : (around : Around) (s : Bool) (p : Pattern) (bound : ℕ) (old : Mb) → bound ≤ 20 → IsPrefixFree (λ m. IsResidual s p bound m × (m ≡ with_residual old m)) (residual_text around s p)
unfolding residual_text
IsPrefixFree-residual around s p bound old within =
    IsPrefixFree-part (Is0 s p bound old) (IsList s 16 bound) (luma_dc_text around s) (λ m. m.dc) (λ m. luma_dc_text around s m.dc) (text1 around s p) (IsPrefixFree-list s _ 16 bound (inr refl) within) (λ m q. q.0.dc) (λ m q. refl) (λ dc _.
    IsPrefixFree-part (Is1 s p bound old dc) (AreLumaBlocks p.luma (max_of s) bound) (luma_text around.luma p.luma (max_of s)) luma_blocks (λ m. luma_text around.luma p.luma (max_of s) (luma_blocks m)) (text2 around p) (IsPrefixFree-luma_blocks around.luma p.luma (max_of s) bound (max_shape s) within) (λ m q. q.0.0.luma) (λ m q. refl) (λ luma _.
    IsPrefixFree-part (Is2 s p bound old dc luma) (IsList (has_chroma_dc p) 4 bound) (list_text (has_chroma_dc p) (negsuc 0)) (dc_of 0) (λ m. list_text (has_chroma_dc p) (negsuc 0) (dc_of 0 m)) (text3 around p) (IsPrefixFree-list (has_chroma_dc p) (negsuc 0) 4 bound refl within) (λ m q. q.0.0.0.cb_dc) (λ m q. refl) (λ cb _.
    IsPrefixFree-part (Is3 s p bound old dc luma cb) (IsList (has_chroma_dc p) 4 bound) (list_text (has_chroma_dc p) (negsuc 0)) (dc_of 1) (λ m. list_text (has_chroma_dc p) (negsuc 0) (dc_of 1 m)) (text4 around p) (IsPrefixFree-list (has_chroma_dc p) (negsuc 0) 4 bound refl within) (λ m q. q.0.0.0.0.cr_dc) (λ m q. refl) (λ cr _.
    IsPrefixFree-part (Is4 s p bound old dc luma cb cr) (AreChromaBlocks (has_chroma_ac p) bound) (chroma_text around.cb (has_chroma_ac p)) (ac_of 0) (λ m. chroma_text around.cb (has_chroma_ac p) (ac_of 0 m)) (text5 around p) (IsPrefixFree-chroma_blocks around.cb (has_chroma_ac p) bound within) (λ m q. q.0.0.0.0.0.cb_ac) (λ m q. refl) (λ ac _.
    IsPrefixFree-part (Is5 s p bound old dc luma cb cr ac) (AreChromaBlocks (has_chroma_ac p) bound) (chroma_text around.cr (has_chroma_ac p)) (ac_of 1) (λ m. chroma_text around.cr (has_chroma_ac p) (ac_of 1 m)) (λ m. []) (IsPrefixFree-chroma_blocks around.cr (has_chroma_ac p) bound within) (λ m q. q.0.0.0.0.0.0.cr_ac) (λ m q. refl) (λ bc _.
    λ v w x y q r e. all_same dc luma cb cr ac bc v w q r))))))
  where
    all_same : (dc : List ℤ) (luma : List (List ℤ)) (cb cr : List ℤ) (ac bc : List (List ℤ)) (v w : Mb) → Is6 s p bound old dc luma cb cr ac bc v → Is6 s p bound old dc luma cb cr ac bc w → v ≡ w
    all_same dc luma cb cr ac bc v w q r =
        let sv = q.0.0.0.0.0.0.0.sizes in
        let sw = r.0.0.0.0.0.0.0.sizes in
        q.0.0.0.0.0.0.1
        ∙ same_residual old v w (q.0.0.0.0.0.1 ∙ sym r.0.0.0.0.0.1) (same_luma v w (ap (λ (m : Mb). m.t8) q.0.0.0.0.0.0.1 ∙ sym (ap (λ (m : Mb). m.t8) r.0.0.0.0.0.0.1)) sv sw (q.0.0.0.0.1 ∙ sym r.0.0.0.0.1))
        (same_two [] v.chroma_dc w.chroma_dc sv.chroma_dc.0 sw.chroma_dc.0 (q.0.0.0.1 ∙ sym r.0.0.0.1) (q.0.0.1 ∙ sym r.0.0.1))
        (same_two [] v.chroma_ac w.chroma_ac sv.chroma_ac.0 sw.chroma_ac.0 (q.0.1 ∙ sym r.0.1) (q.1 ∙ sym r.1))
        ∙ sym r.0.0.0.0.0.0.1
