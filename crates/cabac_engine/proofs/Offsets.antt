-- The number that holds an offset and the bits behind it.
use Rattle.std.proofs.Common.{◌≡◌, ℕ, ◌+◌, ◌-◌, ◌*◌, ◌/◌, ◌%◌, ◌^◌, ◌<◌, ◌≤◌, min, Bool, true, false, List, ◌++◌, length, take, drop, refl, sym, ap, subst, ◌∙◌, arith, length-drop}
use Rattle.std.specs.Prelude.{MatchBool, nat_lt}
use Rattle.std.proofs.Math.Nat.{div-lt_iff_lt-mul, le-div_iff_mul-le, mod-eq_of_lt, mul-le-mul_right}
use Rattle.std.proofs.lemmas.Nat.{pow-add, pow_pos, shr_high, shr-shr, mod_low, div-add-mod'}
use Rattle.std.proofs.lemmas.Bool.{ltb-true, ltb-false}
use Rattle.std.proofs.lemmas.List.{append_assoc, append-nil, append_cancel_right, take-append-drop, drop-drop}
use Rattle.bit_texts.specs.Bits.{number, first, TakesNumber}
use Rattle.bit_texts.proofs.Numbers.{number-window, number-take_below, pow_most}
use Rattle.bit_texts.proofs.Windows.{number-first}
use Rattle.cabac_engine.specs.OffsetBits.{Offset, Doubles}

-- the number has the offset and then so many of the bits that are left
pub record Holds (value ready offset : ℕ) (left : List Bool) : Type 0 where
  pub enough : ready ≤ length left
  pub value_is : value ≡ offset * 2 ^ ready + number (take ready left)

pub held : (value ready : ℕ) (left : List Bool) → ready ≤ length left → value % 2 ^ ready ≡ number (take ready left) → Holds value ready (value / 2 ^ ready) left
held value ready left enough e = record { enough = enough; value_is = sym (div-add-mod' value (2 ^ ready)) ∙ ap (λ k. value / 2 ^ ready * 2 ^ ready + k) e }

pub held_left : (value ready ahead : ℕ) (left : List Bool) → ready ≤ ahead → ahead ≤ length left → value % 2 ^ ready ≡ number (take ready (drop (ahead - ready) left))
    → Holds value ready (value / 2 ^ ready) (drop (ahead - ready) left)
held_left value ready ahead left h within e = held value ready (drop (ahead - ready) left) (omega (arith, length-drop (ahead - ready) left)) e

pub offset_of : (value ready offset : ℕ) (left : List Bool) → Holds value ready offset left → value / 2 ^ ready ≡ offset
offset_of value ready offset left h = ap (λ k. k / 2 ^ ready) h.value_is ∙ shr_high offset ready (number (take ready left)) (number-take_below ready left h.enough)

pub ready_of : (value ready offset : ℕ) (left : List Bool) → Holds value ready offset left → value % 2 ^ ready ≡ number (take ready left)
ready_of value ready offset left h = ap (λ k. k % 2 ^ ready) h.value_is ∙ mod_low offset ready (number (take ready left)) (number-take_below ready left h.enough)

pub holds_below : (value ready offset : ℕ) (left : List Bool) (most : ℕ) → Holds value ready offset left → offset + 1 ≤ most → value < most * 2 ^ ready
holds_below value ready offset left most h within = omega (arith, h.value_is, number-take_below ready left h.enough, mul-le-mul_right (2 ^ ready) within)

pub offset_below : (value ready most : ℕ) → value < most * 2 ^ ready → value / 2 ^ ready < most
offset_below value ready most h = (div-lt_iff_lt-mul (pow_pos ready)).1 h

-- a number before the bits that are ready fits 64 bits
pub shifted_fits : (n ready : ℕ) → n < 1024 → ready ≤ 48 → n * 2 ^ ready % 18446744073709551616 ≡ n * 2 ^ ready
shifted_fits n ready small few =
    let most : 2 ^ ready ≤ 281474976710656 = pow_most ready 48 few in
    let part : n * 2 ^ ready ≤ 1024 * 2 ^ ready = mul-le-mul_right (2 ^ ready) (omega arith) in
    mod-eq_of_lt (omega (arith, most, part))

-- the offset is compared where the bits that are ready stand behind it
pub compared : (value ready n offset : ℕ) → n < 1024 → ready ≤ 48 → value / 2 ^ ready ≡ offset → MatchBool (nat_lt value (n * 2 ^ ready % 18446744073709551616)) (offset < n) (n ≤ offset)
compared value ready n offset small few e = rw (shifted_fits n ready small few, ← e) (decided (nat_lt value (n * 2 ^ ready)) refl)
  where
    decided : (b : Bool) → nat_lt value (n * 2 ^ ready) ≡ b → MatchBool b (value / 2 ^ ready < n) (n ≤ value / 2 ^ ready)
    decided true h = (div-lt_iff_lt-mul (pow_pos ready)).1 (ltb-true value (n * 2 ^ ready) h)
    decided false h = (le-div_iff_mul-le (pow_pos ready)).1 (ltb-false value (n * 2 ^ ready) h)

-- the offset was lowered
pub lowered : (value ready offset by : ℕ) (left : List Bool) → Holds value ready offset left → by ≤ offset → Holds (value - by * 2 ^ ready) ready (offset - by) left
lowered value ready offset by left h enough =
    let parts : offset * 2 ^ ready ≡ (offset - by) * 2 ^ ready + by * 2 ^ ready = ap (λ k. k * 2 ^ ready) (let e : offset ≡ (offset - by) + by = omega arith in e) ∙ omega arith in
    record { enough = h.enough; value_is = omega (arith, h.value_is, parts) }

-- more of the bits that are ready belong to the offset
pub more : (value ready offset count : ℕ) (left : List Bool) → Holds value ready offset left → count ≤ ready
    → Holds value (ready - count) (offset * 2 ^ count + number (take count left)) (drop count left)
more value ready offset count left h fits =
    let rest = ready - count in
    let whole : ready ≡ count + rest = omega arith in
    let bits : number (take ready left) ≡ number (take count left) * 2 ^ rest + number (take rest (drop count left)) =
    ap (λ k. number (take k left)) whole ∙ number-window left count rest (omega (arith, h.enough)) in
    let power : offset * 2 ^ ready ≡ offset * (2 ^ count * 2 ^ rest) = ap (λ k. offset * 2 ^ k) whole ∙ ap (λ k. offset * k) (pow-add 2 count rest) in
    record {
      enough = omega (arith, length-drop count left, h.enough);
      value_is = omega (arith, h.value_is, bits, power);
    }

pub taken : (count : ℕ) (left : List Bool) → count ≤ length left → TakesNumber count (number (take count left)) left (drop count left)
taken count left h = record { enough = h; value_is = refl; left_is = refl }

-- ---- what is seen of them

pub lowered_view : (value ready by : ℕ) (gone left : List Bool) (now : Offset) → ◌≡◌ {A = Offset} (record { offset = value / 2 ^ ready; ready = ready; taken = gone; left = left }) now
    → Holds value ready (value / 2 ^ ready) left → by ≤ now.offset
    → ◌≡◌ {A = Offset} (record { offset = (value - by * 2 ^ ready) / 2 ^ ready; ready = ready; taken = gone; left = left }) (record { offset = now.offset - by; ready = now.ready; taken = now.taken; left = now.left })
lowered_view value ready by gone left now view h enough =
    let fits : by ≤ value / 2 ^ ready = omega (arith, enough, ap (λ (o : Offset). o.offset) view) in
    ap (λ k. record { offset = k; ready = ready; taken = gone; left = left }) (offset_of (value - by * 2 ^ ready) ready (value / 2 ^ ready - by) left (lowered value ready (value / 2 ^ ready) by left h fits))
    ∙ ap (λ (o : Offset). record { offset = o.offset - by; ready = o.ready; taken = o.taken; left = o.left }) view

-- the offset and the bits that are left, where more bits were counted in
pub record Counted (value ready ahead count : ℕ) (left : List Bool) (now : Offset) : Type 0 where
  pub few : ready - count ≤ ahead
  pub below : value < 1024 * 2 ^ (ready - count)
  pub ready_is : value % 2 ^ (ready - count) ≡ number (take (ready - count) (drop (ahead - (ready - count)) left))
  pub doubled : Doubles count now.offset (value / 2 ^ (ready - count)) now.left (drop (ahead - (ready - count)) left)

pub counted : (value ready ahead count : ℕ) (gone left : List Bool) (now : Offset) → ◌≡◌ {A = Offset} (record { offset = value / 2 ^ ready; ready = ready; taken = gone; left = drop (ahead - ready) left }) now
    → ready ≤ ahead → ahead ≤ length left → value % 2 ^ ready ≡ number (take ready (drop (ahead - ready) left)) → count ≤ now.ready → (now.offset + 1) * 2 ^ count ≤ 1024
    → Counted value ready ahead count left now
counted value ready ahead count gone left now view within room e some fits =
    let offset = value / 2 ^ ready in
    let bits = drop (ahead - ready) left in
    let enough : count ≤ ready = omega (arith, some, ap (λ (o : Offset). o.ready) view) in
    let h = held_left value ready ahead left within room e in
    let behind : drop count bits ≡ drop (ahead - (ready - count)) left = drop-drop count (ahead - ready) left ∙ ap (λ k. drop k left) (let p : (ahead - ready) + count ≡ ahead - (ready - count) = omega (arith, within, enough) in p) in
    let m = subst (Holds value (ready - count) (offset * 2 ^ count + number (take count bits))) behind (more value ready offset count bits h enough) in
    let most : (offset + 1) * 2 ^ count ≤ 1024 = omega (arith, fits, ap (λ (o : Offset). (o.offset + 1) * 2 ^ count) view) in
    let small = number-take_below count bits (omega (arith, h.enough, enough)) in
    let t : TakesNumber count (number (take count bits)) bits (drop (ahead - (ready - count)) left) = subst (TakesNumber count (number (take count bits)) bits) behind (taken count bits (omega (arith, h.enough, enough))) in
    record {
      few = omega (arith, within);
      below = holds_below value (ready - count) _ _ 1024 m (omega (arith, most, small));
      ready_is = ready_of value (ready - count) _ _ m;
      doubled = subst (λ (o : Offset). Doubles count o.offset (value / 2 ^ (ready - count)) o.left (drop (ahead - (ready - count)) left)) view
          (record { value = number (take count bits); taken = t; offset_is = offset_of value (ready - count) _ _ m });
    }

-- ---- the source's bits

-- so many bits of the source were taken, which it has
pub skipped : (b : Bool) (n : ℕ) (gone left new_gone new_left : List Bool) → n ≤ length left
    → MatchBool b ((n ≤ length left) × (new_left ≡ drop n left)) ((length left < n) × (new_left ≡ left)) → new_gone ++ new_left ≡ gone ++ left
    → (new_left ≡ drop n left) × (new_gone ≡ gone ++ take n left)
skipped false n gone left new_gone new_left enough m kept = absurd (omega (arith, m.0, enough))
skipped true n gone left new_gone new_left enough m kept =
    let parts : new_gone ++ new_left ≡ (gone ++ take n left) ++ new_left =
    kept ∙ ap (λ t. gone ++ t) (sym (take-append-drop n left)) ∙ ap (λ t. gone ++ (take n left ++ t)) (sym m.1) ∙ sym (append_assoc gone (take n left) new_left) in
    (m.1, append_cancel_right new_gone (gone ++ take n left) new_left parts)

-- bits were looked up: what holds of the fields then, and what is seen of them
pub record Looked (value ready : ℕ) (gone left : List Bool) (now : Offset) : Type 0 where
  pub most : ready ≤ 48
  pub enough : ready ≤ length left
  pub below : value < 1024 * 2 ^ ready
  pub ready_is : value % 2 ^ ready ≡ number (take ready (drop (ready - ready) left))
  pub view_is : ◌≡◌ {A = Offset} (record { offset = value / 2 ^ ready; ready = ready; taken = gone ++ take (ready - ready) left; left = drop (ready - ready) left }) (record { offset = now.offset; ready = min 48 (length now.left); taken = now.taken; left = now.left })

looked_view : (value next offset : ℕ) (gone left new_gone new_left : List Bool) → value / 2 ^ next ≡ offset → next ≡ min 48 (length new_left) → new_gone ≡ gone → new_left ≡ left
    → ◌≡◌ {A = Offset} (record { offset = value / 2 ^ next; ready = next; taken = new_gone ++ take (next - next) new_left; left = drop (next - next) new_left }) (record { offset = offset; ready = min 48 (length left); taken = gone; left = left })
looked_view value next offset gone left new_gone new_left e f g h =
    let none : next - next ≡ 0 = omega arith in
    ap (λ k. record { offset = value / 2 ^ next; ready = next; taken = new_gone ++ take k new_left; left = drop k new_left }) none
    ∙ ap (λ t. record { offset = value / 2 ^ next; ready = next; taken = t; left = new_left }) (append-nil new_gone ∙ g)
    ∙ ap (λ k. record { offset = k; ready = next; taken = gone; left = new_left }) e
    ∙ ap (λ k. record { offset = offset; ready = k; taken = gone; left = new_left }) f
    ∙ ap (λ t. record { offset = offset; ready = min 48 (length t); taken = gone; left = t }) h

pub looked : (b : Bool) (value ready ahead window next : ℕ) (gone left new_gone new_left : List Bool) (now : Offset)
    → ◌≡◌ {A = Offset} (record { offset = value / 2 ^ ready; ready = ready; taken = gone ++ take (ahead - ready) left; left = drop (ahead - ready) left }) now
    → ahead ≤ length left → value < 1024 * 2 ^ ready
    → MatchBool b ((ahead - ready ≤ length left) × (new_left ≡ drop (ahead - ready) left)) ((length left < ahead - ready) × (new_left ≡ left)) → new_gone ++ new_left ≡ gone ++ left
    → next ≡ min (min 64 (length new_left)) 48 → window ≡ number (first 64 new_left)
    → Looked (value / 2 ^ ready * 2 ^ next % 18446744073709551616 + window / 65536 / 2 ^ (48 - next)) next new_gone new_left now
looked b value ready ahead window next gone left new_gone new_left now view room small m kept few e =
    let s = skipped b (ahead - ready) gone left new_gone new_left (omega (arith, room)) m kept in
    let offset = value / 2 ^ ready in
    let below = offset_below value ready 1024 small in
    let most : next ≤ 48 = omega (arith, few) in
    let enough : next ≤ length new_left = omega (arith, few) in
    let shift : 16 + (48 - next) ≡ 64 - next = omega (arith, most) in
    let bits : window / 65536 / 2 ^ (48 - next) ≡ number (take next new_left) =
    shr-shr window 16 (48 - next) ∙ ap (λ k. window / 2 ^ k) shift ∙ ap (λ k. k / 2 ^ (64 - next)) e ∙ number-first next 64 new_left (omega (arith, most)) enough in
    let value' = offset * 2 ^ next % 18446744073709551616 + window / 65536 / 2 ^ (48 - next) in
    let h : Holds value' next offset new_left = record { enough = enough; value_is = omega (arith, shifted_fits offset next below most, bits) } in
    let count : next ≡ min 48 (length new_left) = omega (arith, few) in
    record {
      most = most;
      enough = enough;
      below = holds_below value' next offset new_left 1024 h (omega (arith, below));
      ready_is = ready_of value' next offset new_left h ∙ ap (λ k. number (take next (drop k new_left))) (let none : 0 ≡ next - next = omega arith in none);
      view_is = looked_view value' next offset (gone ++ take (ahead - ready) left) (drop (ahead - ready) left) new_gone new_left (offset_of value' next offset new_left h) count s.1 s.0
          ∙ ap (λ (o : Offset). record { offset = o.offset; ready = min 48 (length o.left); taken = o.taken; left = o.left }) view;
    }
