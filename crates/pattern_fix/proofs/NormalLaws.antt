-- The bits of the normal luma pattern, and that a normal macroblock stays.
use Rattle.std.proofs.Common.{◌≡◌, ℕ, zero, suc, ◌+◌, ◌-◌, ◌*◌, ◌/◌, ◌^◌, ◌<◌, Bool, true, false, refl, ap, ◌∙◌, sym, arith}
use Rattle.std.specs.Prelude.{if◌then◌else◌, ◌&&◌, ◌==◌, not, ◌↔◌}
use Rattle.std.specs.Int.{bit_at}
use Rattle.h264_types.specs.Kind.{is_inter}
use Rattle.h264_types.specs.Macroblock.{quarter_of}
use Rattle.h264_types.specs.declared.macroblock.Mb.{Mb}
use Rattle.pattern_fix.specs.NormalPattern.{all_zero, is_empty, normal_luma, normal_t8, normal, IsEmptied}

-- a pattern without the bits of the blocks that are named
without : ℕ → Bool → Bool → Bool → Bool → ℕ
without p a b c d =
    p - ((if a then bit_at p 0 * 2 ^ 0 else 0) + (if b then bit_at p 1 * 2 ^ 1 else 0) + (if c then bit_at p 2 * 2 ^ 2 else 0) + (if d then bit_at p 3 * 2 ^ 3 else 0))

bit_0 : (p : ℕ) (a b c d : Bool) → bit_at (without p a b c d) 0 ≡ (if a then 0 else bit_at p 0)
unfolding without
bit_0 p true b c d = grind arith
bit_0 p false b c d = grind arith

bit_1 : (p : ℕ) (a b c d : Bool) → bit_at (without p a b c d) 1 ≡ (if b then 0 else bit_at p 1)
unfolding without
bit_1 p a true c d = grind arith
bit_1 p a false c d = grind arith

bit_2 : (p : ℕ) (a b c d : Bool) → bit_at (without p a b c d) 2 ≡ (if c then 0 else bit_at p 2)
unfolding without
bit_2 p a b true d = grind arith
bit_2 p a b false d = grind arith

bit_3 : (p : ℕ) (a b c d : Bool) → bit_at (without p a b c d) 3 ≡ (if d then 0 else bit_at p 3)
unfolding without
bit_3 p a b c true = grind arith
bit_3 p a b c false = grind arith

above : (p : ℕ) (a b c d : Bool) → without p a b c d / 16 ≡ p / 16
unfolding without
above p a b c d = grind arith

-- a bit is kept exactly where it stands for levels
pub bit_at-normal_luma : (mb : Mb) (q : ℕ) → q < 4 → bit_at (normal_luma mb) q ≡ (if is_empty mb q then 0 else bit_at mb.pattern.luma q)
unfolding without
bit_at-normal_luma mb q below =
    first_four (λ k. bit_at (normal_luma mb) k ≡ (if is_empty mb k then 0 else bit_at mb.pattern.luma k))
    (bit_0 mb.pattern.luma (is_empty mb 0) (is_empty mb 1) (is_empty mb 2) (is_empty mb 3))
    (bit_1 mb.pattern.luma (is_empty mb 0) (is_empty mb 1) (is_empty mb 2) (is_empty mb 3))
    (bit_2 mb.pattern.luma (is_empty mb 0) (is_empty mb 1) (is_empty mb 2) (is_empty mb 3))
    (bit_3 mb.pattern.luma (is_empty mb 0) (is_empty mb 1) (is_empty mb 2) (is_empty mb 3))
    q below where
      first_four : (P : ℕ → Type 0) → P 0 → P 1 → P 2 → P 3 → (k : ℕ) → k < 4 → P k
      first_four P p0 p1 p2 p3 zero h = p0
      first_four P p0 p1 p2 p3 (suc zero) h = p1
      first_four P p0 p1 p2 p3 (suc (suc zero)) h = p2
      first_four P p0 p1 p2 p3 (suc (suc (suc zero))) h = p3
      first_four P p0 p1 p2 p3 (suc (suc (suc (suc k)))) h = absurd (omega arith)

-- a bit that is left in a normal macroblock stands for levels
pub normal-level : (mb : Mb) (q : ℕ) → q < 4 → normal mb ≡ mb → mb.t8 ≡ true → bit_at mb.pattern.luma q ≡ 1 → all_zero (quarter_of mb q) ≡ false
normal-level mb q below is_normal t8 one = by (all_zero (quarter_of mb q)) refl
  where
    by : (zeros : Bool) → all_zero (quarter_of mb q) ≡ zeros → zeros ≡ false
    by false e = refl
    by true e =
        let empty : is_empty mb q ≡ true = ap (λ b. b && all_zero (quarter_of mb q)) t8 ∙ e in
        let stays : bit_at (normal mb).pattern.luma q ≡ 1 = ap (λ (m : Mb). bit_at m.pattern.luma q) is_normal ∙ one in
        let cleared : bit_at (normal mb).pattern.luma q ≡ 0 = bit_at-normal_luma mb q below ∙ ap (λ b. if b then 0 else bit_at mb.pattern.luma q) empty in
        absurd (omega (arith, sym stays ∙ cleared))

pub normal_luma-above : (mb : Mb) → (normal mb).pattern.luma / 16 ≡ mb.pattern.luma / 16
unfolding without
normal_luma-above mb = above mb.pattern.luma (is_empty mb 0) (is_empty mb 1) (is_empty mb 2) (is_empty mb 3)

-- a bit that is cleared isn't cleared again
lost : (t u z : Bool) (x y k : ℕ) → x ≡ (if t && z then 0 else y) → (if (t && u) && z then x * k else 0) ≡ 0
lost true true true x y k is = ap (λ n. n * k) is ∙ omega arith
lost true true false x y k is = refl
lost true false z x y k is = refl
lost false u z x y k is = refl

without-again :
    (p : ℕ) (t u a b c d : Bool)
    → without (without p (t && a) (t && b) (t && c) (t && d)) ((t && u) && a) ((t && u) && b) ((t && u) && c) ((t && u) && d)
    ≡ without p (t && a) (t && b) (t && c) (t && d)
without-again p t u a b c d =
    let p' : ℕ = without p (t && a) (t && b) (t && c) (t && d) in
    unfold without in
    (omega (
      arith,
      lost t u a (bit_at p' 0) _ (2 ^ 0) (bit_0 p (t && a) (t && b) (t && c) (t && d)),
      lost t u b (bit_at p' 1) _ (2 ^ 1) (bit_1 p (t && a) (t && b) (t && c) (t && d)),
      lost t u c (bit_at p' 2) _ (2 ^ 2) (bit_2 p (t && a) (t && b) (t && c) (t && d)),
      lost t u d (bit_at p' 3) _ (2 ^ 3) (bit_3 p (t && a) (t && b) (t && c) (t && d)),
    ))

same_luma : (mb : Mb) → normal_luma (normal mb) ≡ normal_luma mb
unfolding without
same_luma mb =
    without-again mb.pattern.luma mb.t8 (not (is_inter mb.kind && normal_luma mb == 0)) (all_zero (quarter_of mb 0)) (all_zero (quarter_of mb 1)) (all_zero (quarter_of mb 2)) (all_zero (quarter_of mb 3))

twice : (t u : Bool) → ((t && u) && u) ≡ (t && u)
twice true true = refl
twice true false = refl
twice false u = refl

same_t8 : (mb : Mb) → normal_t8 (normal mb) ≡ normal_t8 mb
same_t8 mb =
    ap (λ luma. normal_t8 mb && not (is_inter mb.kind && luma == 0)) (same_luma mb) ∙ twice mb.t8 (not (is_inter mb.kind && normal_luma mb == 0))

abbrev with_pattern : Mb → ℕ → Bool → Mb
with_pattern mb luma t8 = record mb { pattern = record mb.pattern { luma = luma }; t8 = t8 }

pub normal-normal : (mb : Mb) → normal (normal mb) ≡ normal mb
normal-normal mb =
    ap (λ luma. with_pattern mb luma (normal_t8 (normal mb))) (same_luma mb) ∙ ap (with_pattern mb (normal_luma mb)) (same_t8 mb)

pub emptied-normal : (mb : Mb) → IsEmptied (normal mb) ↔ IsEmptied mb
emptied-normal mb = (
  λ h. record { sent = h.sent; luma = sym (same_luma mb) ∙ h.luma; chroma = h.chroma; qp_delta = h.qp_delta },
  λ h. record { sent = h.sent; luma = same_luma mb ∙ h.luma; chroma = h.chroma; qp_delta = h.qp_delta },
)

-- without the 8x8 transform no bit is cleared
pub normal-without_t8 : (mb : Mb) → mb.t8 ≡ false → normal mb ≡ mb
normal-without_t8 mb none = ap (λ t8. with_t8 t8) none ∙ ap (λ luma. with_pattern mb luma false) (omega arith) ∙ ap (with_pattern mb mb.pattern.luma) (sym none)
  where
    with_t8 : Bool → Mb
    with_t8 t8 = normal (record mb { t8 = t8 })
