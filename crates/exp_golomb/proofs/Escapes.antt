-- Escaped bytes have one payload, and it is the one that was escaped.
use Rattle.std.proofs.Common.{◌≡◌, ℕ, zero, suc, ◌+◌, ◌%◌, ◌<◌, ◌≤◌, Bool, true, false, ◌&&◌, cond, eqb, ltb, List, [], ◌∷◌, ◌++◌, Option, Some, None, refl, sym, ap, ◌∙◌, arith, inl, inr}
use Rattle.std.specs.Prelude.{fold}
use Rattle.std.specs.Option.{option_map}
use Rattle.std.proofs.lemmas.Bool.{cases_lt}
use Rattle.std.proofs.lemmas.Bool.Decides.{nat_tests}
use Rattle.exp_golomb.specs.EmulationPrevention.{is_low_or_end, escaped, HasEscape, IsEscape, unescaped, is_escaped, payload_of}

no : false ≡ true → ⊥
no h = absurd cc

pub both : (a b : Bool) → (a && b) ≡ true → (a ≡ true) × (b ≡ true)
both true b h = (refl, h)
both false b h = absurd cc

pub not_zero : (x : ℕ) → eqb (suc x) 0 ≡ false
not_zero x = grind (arith, nat_tests)

low : (x : ℕ) (bytes : List ℕ) → x ≤ 3 → is_low_or_end (x ∷ bytes) ≡ true
low x bytes h = grind (arith, nat_tests)

high : (x : ℕ) (bytes : List ℕ) → 3 < x → is_low_or_end (x ∷ bytes) ≡ false
high x bytes h = grind (arith, nat_tests)

-- ---- what is escaped, by its first bytes

pub escaped-plain : (x : ℕ) (payload : List ℕ) → escaped (suc x ∷ payload) ≡ suc x ∷ escaped payload
unfolding escaped
escaped-plain x [] = refl
escaped-plain x (b ∷ payload) = rw (not_zero x) refl

pub escaped-zero : (b : ℕ) (payload : List ℕ) → escaped (0 ∷ suc b ∷ payload) ≡ 0 ∷ suc b ∷ escaped payload
unfolding escaped
escaped-zero b payload = rw (not_zero b) (ap (λ t. 0 ∷ t) (escaped-plain b payload))

pub escaped-pair : (payload : List ℕ) → is_low_or_end payload ≡ true → escaped (0 ∷ 0 ∷ payload) ≡ 0 ∷ 0 ∷ 3 ∷ escaped payload
unfolding escaped
escaped-pair payload h = rw h refl

pub escaped-high : (x : ℕ) (payload : List ℕ) → 3 < suc x → escaped (0 ∷ 0 ∷ suc x ∷ payload) ≡ 0 ∷ 0 ∷ suc x ∷ escaped payload
unfolding escaped
escaped-high x payload h = rw (high (suc x) payload h, not_zero x) (ap (λ t. 0 ∷ 0 ∷ t) (escaped-plain x payload))

low-escaped : (payload : List ℕ) → is_low_or_end (escaped payload) ≡ is_low_or_end payload
unfolding escaped
low-escaped [] = refl
low-escaped (a ∷ []) = refl
low-escaped (a ∷ b ∷ payload) = refl

-- ---- what is read, by its first bytes

unescaped-plain : (x : ℕ) (bytes : List ℕ) → unescaped (suc x ∷ bytes) ≡ suc x ∷ unescaped bytes
unfolding unescaped
unescaped-plain x [] = refl
unescaped-plain x (b ∷ []) = refl
unescaped-plain x (b ∷ c ∷ bytes) = rw (not_zero x) refl

unescaped-zero : (b : ℕ) (bytes : List ℕ) → unescaped (0 ∷ suc b ∷ bytes) ≡ 0 ∷ suc b ∷ unescaped bytes
unfolding unescaped
unescaped-zero b [] = refl
unescaped-zero b (c ∷ bytes) = rw (not_zero b) (ap (λ t. 0 ∷ t) (unescaped-plain b (c ∷ bytes)))

unescaped-three : (bytes : List ℕ) → unescaped (0 ∷ 0 ∷ 3 ∷ bytes) ≡ 0 ∷ 0 ∷ unescaped bytes
unfolding unescaped
unescaped-three bytes = refl

unescaped-high : (x : ℕ) (bytes : List ℕ) → 3 < suc x → unescaped (0 ∷ 0 ∷ suc x ∷ bytes) ≡ 0 ∷ 0 ∷ suc x ∷ unescaped bytes
unfolding unescaped
unescaped-high x bytes h =
    let other : eqb (suc x) 3 ≡ false = grind (arith, nat_tests) in
    rw other (ap (λ t. 0 ∷ t) (unescaped-zero x bytes))

low-unescaped : (bytes : List ℕ) → is_low_or_end (unescaped bytes) ≡ is_low_or_end bytes
unfolding unescaped
low-unescaped [] = refl
low-unescaped (a ∷ []) = refl
low-unescaped (a ∷ b ∷ []) = refl
low-unescaped (a ∷ b ∷ c ∷ bytes) = refl

-- ---- which bytes are escaped, by their first bytes

is_escaped-plain : (x : ℕ) (bytes : List ℕ) → is_escaped (suc x ∷ bytes) ≡ is_escaped bytes
unfolding is_escaped
is_escaped-plain x [] = rw (not_zero x) refl
is_escaped-plain x (b ∷ bytes) = rw (not_zero x) refl

is_escaped-zero : (b : ℕ) (bytes : List ℕ) → is_escaped (0 ∷ suc b ∷ bytes) ≡ is_escaped bytes
unfolding is_escaped
is_escaped-zero b bytes = rw (not_zero b) (is_escaped-plain b bytes)

is_escaped-three : (bytes : List ℕ) → is_escaped (0 ∷ 0 ∷ 3 ∷ bytes) ≡ (is_low_or_end bytes && is_escaped bytes)
unfolding is_escaped
is_escaped-three bytes = ap (λ t. is_low_or_end bytes && t) (is_escaped-plain 2 bytes)

is_escaped-high : (x : ℕ) (bytes : List ℕ) → 3 < suc x → is_escaped (0 ∷ 0 ∷ suc x ∷ bytes) ≡ is_escaped bytes
unfolding is_escaped
is_escaped-high x bytes h =
    let above : ltb 3 (suc x) ≡ true = grind (arith, nat_tests) in
    rw above (is_escaped-zero x bytes)

pub is_escaped-bad : (x : ℕ) (bytes : List ℕ) → x < 3 → is_escaped (0 ∷ 0 ∷ x ∷ bytes) ≡ false
unfolding is_escaped
is_escaped-bad x bytes h =
    let below : ltb 3 x ≡ false = grind (arith, nat_tests) in
    let other : eqb x 3 ≡ false = grind (arith, nat_tests) in
    rw (below, other) refl

-- ---- how many zero bytes stand at the end, behind n of them

abbrev pub zeros_behind : ℕ → List ℕ → ℕ
zeros_behind n bytes = fold (λ zeros byte. cond (eqb byte 0) (zeros + 1) 0) n bytes

zeros_behind-plain : (n x : ℕ) (bytes : List ℕ) → zeros_behind n (suc x ∷ bytes) ≡ zeros_behind 0 bytes
zeros_behind-plain n x bytes = rw (not_zero x) refl

two_more : (n : ℕ) (bytes : List ℕ) → zeros_behind (n + 2) bytes % 2 ≡ zeros_behind n bytes % 2
two_more n [] = omega arith
two_more n (zero ∷ bytes) = ap (λ k. zeros_behind k bytes % 2) (omega arith) ∙ two_more (n + 1) bytes
two_more n (suc x ∷ bytes) = ap (λ k. k % 2) (zeros_behind-plain (n + 2) x bytes ∙ sym (zeros_behind-plain n x bytes))

-- ---- what is escaped is read again

pub record Again (payload : List ℕ) : Type 0 where
  pub is : is_escaped (escaped payload) ≡ true
  pub same : unescaped (escaped payload) ≡ payload

again_pair : (payload : List ℕ) → is_low_or_end payload ≡ true → Again payload → Again (0 ∷ 0 ∷ payload)
again_pair payload h others = record {
  is = ap is_escaped (escaped-pair payload h) ∙ is_escaped-three (escaped payload) ∙ rw (low-escaped payload, h, others.is) refl;
  same = ap unescaped (escaped-pair payload h) ∙ unescaped-three (escaped payload) ∙ ap (λ t. 0 ∷ 0 ∷ t) others.same;
}

again_high : (x : ℕ) (payload : List ℕ) → 3 < suc x → Again payload → Again (0 ∷ 0 ∷ suc x ∷ payload)
again_high x payload h others = record {
  is = ap is_escaped (escaped-high x payload h) ∙ is_escaped-high x (escaped payload) h ∙ others.is;
  same = ap unescaped (escaped-high x payload h) ∙ unescaped-high x (escaped payload) h ∙ ap (λ t. 0 ∷ 0 ∷ suc x ∷ t) others.same;
}

pub again : (payload : List ℕ) → HasEscape payload → Again payload
unfolding escaped unescaped is_escaped
again [] h = record { is = refl; same = refl }
again (suc x ∷ payload) h =
    let others = again payload (rw (← zeros_behind-plain 0 x payload) h) in
    record {
      is = ap is_escaped (escaped-plain x payload) ∙ is_escaped-plain x (escaped payload) ∙ others.is;
      same = ap unescaped (escaped-plain x payload) ∙ unescaped-plain x (escaped payload) ∙ ap (λ t. suc x ∷ t) others.same;
    }
again (zero ∷ []) h = absurd (omega (arith, h))
again (zero ∷ suc b ∷ payload) h =
    let others = again payload (rw (← zeros_behind-plain 1 b payload) h) in
    record {
      is = ap is_escaped (escaped-zero b payload) ∙ is_escaped-zero b (escaped payload) ∙ others.is;
      same = ap unescaped (escaped-zero b payload) ∙ unescaped-zero b (escaped payload) ∙ ap (λ t. 0 ∷ suc b ∷ t) others.same;
    }
again (zero ∷ zero ∷ []) h = record { is = refl; same = refl }
again (zero ∷ zero ∷ zero ∷ payload) h = again_pair (0 ∷ payload) refl (again (zero ∷ payload) (sym (two_more 0 (0 ∷ payload)) ∙ h))
again (zero ∷ zero ∷ suc x ∷ payload) h =
    elim (cases_lt 3 (suc x)) [
      | inl lt ↦ again_high x payload lt (again payload (rw (← zeros_behind-plain 2 x payload) h))
      | inr le ↦ again_pair (suc x ∷ payload) (low (suc x) payload le) (again (suc x ∷ payload) (sym (two_more 0 (suc x ∷ payload)) ∙ h))
    ]

-- ---- what is read was escaped

record Back (bytes : List ℕ) : Type 0 where
  pub has : HasEscape (unescaped bytes)
  pub same : escaped (unescaped bytes) ≡ bytes

back : (bytes : List ℕ) → is_escaped bytes ≡ true → Back bytes
unfolding escaped unescaped is_escaped
back [] h = record { has = refl; same = refl }
back (suc x ∷ bytes) h =
    let others = back bytes (sym (is_escaped-plain x bytes) ∙ h) in
    record {
      has = ap (λ t. zeros_behind 0 t % 2) (unescaped-plain x bytes) ∙ ap (λ k. k % 2) (zeros_behind-plain 0 x (unescaped bytes)) ∙ others.has;
      same = ap escaped (unescaped-plain x bytes) ∙ escaped-plain x (unescaped bytes) ∙ ap (λ t. suc x ∷ t) others.same;
    }
back (zero ∷ []) h = absurd cc
back (zero ∷ suc b ∷ bytes) h =
    let others = back bytes (sym (is_escaped-zero b bytes) ∙ h) in
    record {
      has = ap (λ t. zeros_behind 0 t % 2) (unescaped-zero b bytes) ∙ ap (λ k. k % 2) (zeros_behind-plain 1 b (unescaped bytes)) ∙ others.has;
      same = ap escaped (unescaped-zero b bytes) ∙ escaped-zero b (unescaped bytes) ∙ ap (λ t. 0 ∷ suc b ∷ t) others.same;
    }
back (zero ∷ zero ∷ []) h = absurd cc
back (zero ∷ zero ∷ zero ∷ bytes) h = absurd (no (sym (is_escaped-bad 0 bytes (omega arith)) ∙ h))
back (zero ∷ zero ∷ suc zero ∷ bytes) h = absurd (no (sym (is_escaped-bad 1 bytes (omega arith)) ∙ h))
back (zero ∷ zero ∷ suc (suc zero) ∷ bytes) h = absurd (no (sym (is_escaped-bad 2 bytes (omega arith)) ∙ h))
back (zero ∷ zero ∷ suc (suc (suc zero)) ∷ bytes) h =
    let parts = both (is_low_or_end bytes) (is_escaped bytes) (sym (is_escaped-three bytes) ∙ h) in
    let others = back bytes parts.1 in
    record {
      has = ap (λ t. zeros_behind 0 t % 2) (unescaped-three bytes) ∙ two_more 0 (unescaped bytes) ∙ others.has;
      same = ap escaped (unescaped-three bytes) ∙ escaped-pair (unescaped bytes) (low-unescaped bytes ∙ parts.0) ∙ ap (λ t. 0 ∷ 0 ∷ 3 ∷ t) others.same;
    }
back (zero ∷ zero ∷ suc (suc (suc (suc x))) ∷ bytes) h =
    let y = suc (suc (suc x)) in
    let above : 3 < suc y = omega arith in
    let others = back bytes (sym (is_escaped-high y bytes above) ∙ h) in
    record {
      has = ap (λ t. zeros_behind 0 t % 2) (unescaped-high y bytes above) ∙ ap (λ k. k % 2) (zeros_behind-plain 2 y (unescaped bytes)) ∙ others.has;
      same = ap escaped (unescaped-high y bytes above) ∙ escaped-high y (unescaped bytes) above ∙ ap (λ t. 0 ∷ 0 ∷ suc y ∷ t) others.same;
    }

-- ---- the payload of some bytes

pub payload_of-escaped : (payload bytes : List ℕ) → IsEscape payload bytes → payload_of bytes ≡ Some payload
payload_of-escaped payload bytes (has, e) =
    let there = again payload has in
    rw (e, there.is, there.same) refl

pub escaped-payload_of : (payload bytes : List ℕ) → payload_of bytes ≡ Some payload → IsEscape payload bytes
escaped-payload_of payload bytes h = at (is_escaped bytes) refl h
  where
    at : (b : Bool) → is_escaped bytes ≡ b → cond b (Some (unescaped bytes)) None ≡ Some payload → IsEscape payload bytes
    at true e h =
        let there = back bytes e in
        let same : unescaped bytes ≡ payload = cc in
        (ap (λ t. zeros_behind 0 t % 2) (sym same) ∙ there.has, sym there.same ∙ ap escaped same)
    at false e h = absurd cc

pub one_payload : (first second bytes : List ℕ) → IsEscape first bytes → IsEscape second bytes → first ≡ second
one_payload first second bytes h k =
    let same : ◌≡◌ {A = Option (List ℕ)} (Some first) (Some second) = sym (payload_of-escaped first bytes h) ∙ payload_of-escaped second bytes k in
    cc

-- ---- the payload, by the first bytes

-- the bytes ys behind some others, of which the payload has front
behind : (front xs ys : List ℕ) → is_escaped xs ≡ is_escaped ys → unescaped xs ≡ front ++ unescaped ys → payload_of xs ≡ option_map (λ t. front ++ t) (payload_of ys)
behind front xs ys e same = ap (λ b. cond b (Some (unescaped xs)) None) e ∙ at (is_escaped ys)
  where
    at : (b : Bool) → cond b (Some (unescaped xs)) None ≡ option_map (λ t. front ++ t) (cond b (Some (unescaped ys)) None)
    at true = ap (λ t. Some t) same
    at false = refl

refused : (bytes : List ℕ) → is_escaped bytes ≡ false → payload_of bytes ≡ None
refused bytes h = rw h refl

pub payload_of-plain : (x : ℕ) (bytes : List ℕ) → payload_of (suc x ∷ bytes) ≡ option_map (λ t. suc x ∷ t) (payload_of bytes)
payload_of-plain x bytes = behind (suc x ∷ []) (suc x ∷ bytes) bytes (is_escaped-plain x bytes) (unescaped-plain x bytes)

pub payload_of-zero : (b : ℕ) (bytes : List ℕ) → payload_of (0 ∷ suc b ∷ bytes) ≡ option_map (λ t. 0 ∷ t) (payload_of (suc b ∷ bytes))
payload_of-zero b bytes =
    behind (0 ∷ []) (0 ∷ suc b ∷ bytes) (suc b ∷ bytes) (is_escaped-zero b bytes ∙ sym (is_escaped-plain b bytes)) (unescaped-zero b bytes ∙ ap (λ t. 0 ∷ t) (sym (unescaped-plain b bytes)))

pub payload_of-high : (bytes : List ℕ) → is_low_or_end bytes ≡ false → payload_of (0 ∷ 0 ∷ bytes) ≡ option_map (λ t. 0 ∷ t) (payload_of (0 ∷ bytes))
payload_of-high [] h = absurd cc
payload_of-high (zero ∷ bytes) h = absurd (no (sym h ∙ low 0 bytes (omega arith)))
payload_of-high (suc x ∷ bytes) h =
    elim (cases_lt 3 (suc x)) [
      | inl lt ↦ behind (0 ∷ []) (0 ∷ 0 ∷ suc x ∷ bytes) (0 ∷ suc x ∷ bytes) (is_escaped-high x bytes lt ∙ sym (is_escaped-zero x bytes)) (unescaped-high x bytes lt ∙ ap (λ t. 0 ∷ t) (sym (unescaped-zero x bytes)))
      | inr le ↦ absurd (no (sym h ∙ low (suc x) bytes le))
    ]

pub payload_of-three : (bytes : List ℕ) → is_low_or_end bytes ≡ true → payload_of (0 ∷ 0 ∷ 3 ∷ bytes) ≡ option_map (λ t. 0 ∷ 0 ∷ t) (payload_of bytes)
payload_of-three bytes h = behind (0 ∷ 0 ∷ []) (0 ∷ 0 ∷ 3 ∷ bytes) bytes (is_escaped-three bytes ∙ rw h refl) (unescaped-three bytes)

pub payload_of-open : (bytes : List ℕ) → is_low_or_end bytes ≡ false → payload_of (0 ∷ 0 ∷ 3 ∷ bytes) ≡ None
payload_of-open bytes h = refused (0 ∷ 0 ∷ 3 ∷ bytes) (is_escaped-three bytes ∙ rw h refl)

pub payload_of-bad : (x : ℕ) (bytes : List ℕ) → x < 3 → payload_of (0 ∷ 0 ∷ x ∷ bytes) ≡ None
payload_of-bad x bytes h = refused (0 ∷ 0 ∷ x ∷ bytes) (is_escaped-bad x bytes h)

pub payload_of-nothing : payload_of [] ≡ Some []
unfolding is_escaped unescaped
payload_of-nothing = refl

pub payload_of-end : (payload_of (0 ∷ []) ≡ None) × (payload_of (0 ∷ 0 ∷ []) ≡ None)
unfolding is_escaped
payload_of-end = (refl, refl)
