-- What a further bin makes of a decoder
use Rattle.std.proofs.Common.{◌≡◌, ℕ, ◌+◌, ◌-◌, ◌*◌, ◌/◌, ◌%◌, ◌<◌, ◌≤◌, Bool, true, false, List, [], ◌∷◌, length, refl, sym, ap, subst, ◌∙◌, arith, cond, not, length-drop, bit_and}
use Rattle.std.specs.Bool.{beq}
use Rattle.std.specs.Int.{from_bool}
use Rattle.std.proofs.lemmas.Nat.{and_mask}
use Rattle.bit_texts.specs.Bits.{TakesNumber}
use Rattle.bit_texts.proofs.Numbers.{TakesNumber-push, number-cons, number-nil, from_bool-most}
use Rattle.cabac_interval.specs.Tables.{range_lps}
use Rattle.cabac_interval.specs.Interval.{Kind, context, bypass, terminate, Bin, Interval, renormalised, without_upper, upper, lps_of, after, interval, IsKind, is_end, Begins, with_bin}
use Rattle.cabac_interval.proofs.Lists.{interval-push, IsOpen-push}
use Rattle.cabac_engine.specs.Decoding.{Decoding, Points, HasDecoded}
use Rattle.cabac_engine.specs.OffsetBits.{Doubles}

pub interval-with_bin : (bins : List Bin) (kind : Kind) (bit : Bool) → interval (with_bin bins kind bit) ≡ after (interval bins) kind bit
interval-with_bin bins kind bit = interval-push bins (record { kind = kind; bit = bit })

beq_twice : (a b : Bool) → beq (beq a b) b ≡ a
beq_twice true true = refl
beq_twice true false = refl
beq_twice false true = refl
beq_twice false false = refl

pub probable_bit : (probable mps : Bool) → probable ≡ true → beq probable mps ≡ mps
probable_bit true true e = refl
probable_bit true false e = refl
probable_bit false mps e = absurd cc

pub other_bit : (probable mps : Bool) → probable ≡ false → beq probable mps ≡ not mps
other_bit true mps e = absurd cc
other_bit false true e = refl
other_bit false false e = refl

-- what holds of a decoder holds of its fields
pub HasDecoded-fields : (r o : ℕ) (t s : List Bool) (d : Decoding) → ◌≡◌ {A = Decoding} (record { range = r; offset = o; taken = t; left = s }) d
    → (all : List Bool) (bins : List Bin) → HasDecoded all bins d.range d.offset d.left → HasDecoded all bins r o s
HasDecoded-fields r o t s d view all bins h = subst (λ (x : Decoding). HasDecoded all bins x.range x.offset x.left) (sym view) h

pub Points-fields : (r o : ℕ) (t s : List Bool) (d : Decoding) → ◌≡◌ {A = Decoding} (record { range = r; offset = o; taken = t; left = s }) d
    → (all : List Bool) (i : Interval) → Points all i d.range d.offset d.left → Points all i r o s
Points-fields r o t s d view all i h = subst (λ (x : Decoding). Points all i x.range x.offset x.left) (sym view) h

-- the range of the least probable value, as the quarter of the range is computed
pub lps_is : (p lps r o : ℕ) (t s : List Bool) (d : Decoding) → ◌≡◌ {A = Decoding} (record { range = r; offset = o; taken = t; left = s }) d
    → lps ≡ range_lps p (bit_and (r / 64) 3) → lps ≡ lps_of p d.range
lps_is p lps r o t s d view e =
    let quarter : bit_and (r / 64) 3 ≡ r / 64 % 4 = and_mask (r / 64) 2 in
    e ∙ ap (range_lps p) quarter ∙ ap (λ (x : Decoding). lps_of p x.range) view

-- one more bin, after which further ones may follow
pub HasDecoded-more : (all : List Bool) (bins : List Bin) (kind : Kind) (bit : Bool) (old_range old_offset range offset : ℕ) (old_left left : List Bool)
    → HasDecoded all bins old_range old_offset old_left → 256 ≤ old_range → IsKind kind → is_end kind bit ≡ false → 256 ≤ range
    → Points all (after (interval bins) kind bit) range offset left → HasDecoded all (with_bin bins kind bit) range offset left
HasDecoded-more all bins kind bit old_range old_offset range offset old_left left h running is_kind e low p = record {
  points = subst (λ i. Points all i range offset left) (sym (interval-with_bin bins kind bit)) p;
  so_far = λ _. IsOpen-push bins (record { kind = kind; bit = bit }) (h.so_far running) is_kind e;
  ended = λ few. absurd (omega arith);
}

-- nine bits were taken, below 510
pub started : (all : List Bool) (offset : ℕ) (left : List Bool) → TakesNumber 9 offset all left → offset < 510 → HasDecoded all [] 510 offset left
started all offset left t within = record {
  points = record { taken = subst (λ v. TakesNumber 9 v all left) (let e : offset ≡ 0 + offset = omega arith in e) t; range_is = refl; within = within };
  so_far = λ _. tt;
  ended = λ few. absurd (omega arith);
}

-- ---- a context bin

context_after : (p : ℕ) (mps probable : Bool) (lps : ℕ) (i : Interval) → lps ≡ lps_of p i.range
    → renormalised (cond probable (without_upper lps i) (upper lps i)) ≡ after i (context p mps) (beq probable mps)
context_after p mps probable lps i e =
    ap (λ l. renormalised (cond probable (without_upper l i) (upper l i))) e
    ∙ ap (λ b. renormalised (cond b (without_upper (lps_of p i.range) i) (upper (lps_of p i.range) i))) (sym (beq_twice probable mps))

pub decoded_context : (p lps : ℕ) (mps probable : Bool) (old_range old_offset range offset : ℕ) (old_left left : List Bool)
    → p < 64 → 256 ≤ old_range → 256 ≤ range → lps ≡ lps_of p old_range
    → ((all : List Bool) (i : Interval) → Points all i old_range old_offset old_left → Points all (renormalised (cond probable (without_upper lps i) (upper lps i))) range offset left)
    → (all : List Bool) (bins : List Bin) → HasDecoded all bins old_range old_offset old_left → HasDecoded all (with_bin bins (context p mps) (beq probable mps)) range offset left
decoded_context p lps mps probable old_range old_offset range offset old_left left state running low e narrowed all bins h =
    let i = interval bins in
    HasDecoded-more all bins (context p mps) (beq probable mps) old_range old_offset range offset old_left left h running state refl low
    (subst (λ j. Points all j range offset left) (context_after p mps probable lps i (e ∙ ap (lps_of p) h.points.range_is)) (narrowed all i h.points))

pub no_context : (p lps : ℕ) (mps : Bool) (old_range old_offset : ℕ) (old_left : List Bool)
    → lps ≡ lps_of p old_range
    → ((all : List Bool) (i : Interval) → Points all i old_range old_offset old_left → (lower : Bool) → Begins all (renormalised (cond lower (without_upper lps i) (upper lps i))) → ⊥)
    → (all : List Bool) (bins : List Bin) → HasDecoded all bins old_range old_offset old_left → (bit : Bool) → Begins all (interval (with_bin bins (context p mps) bit)) → ⊥
no_context p lps mps old_range old_offset old_left e stuck all bins h bit b =
    let i = interval bins in
    let same : lps ≡ lps_of p i.range = e ∙ ap (lps_of p) h.points.range_is in
    stuck all i h.points (beq bit mps)
    (subst (λ l. Begins all (renormalised (cond (beq bit mps) (without_upper l i) (upper l i)))) (sym same)
    (subst (Begins all) (interval-with_bin bins (context p mps) bit) b))

-- ---- a bypass bin

pub decoded_bypass : (bit next : Bool) (old_range old_offset offset : ℕ) (old_left left : List Bool)
    → 256 ≤ old_range → old_left ≡ next ∷ left → 2 * old_offset + from_bool next ≡ from_bool bit * old_range + offset → offset < old_range
    → (all : List Bool) (bins : List Bin) → HasDecoded all bins old_range old_offset old_left → HasDecoded all (with_bin bins bypass bit) old_range offset left
decoded_bypass bit next old_range old_offset offset old_left left running taken e within all bins h =
    let i = interval bins in
    let p = h.points in
    let both = TakesNumber-push (9 + i.doublings) (i.low + old_offset) all old_left left next p.taken taken in
    let size : (9 + i.doublings) + 1 ≡ 9 + (i.doublings + 1) = omega arith in
    let same : from_bool bit * old_range ≡ from_bool bit * i.range = ap (λ r. from_bool bit * r) p.range_is in
    let value : 2 * (i.low + old_offset) + from_bool next ≡ 2 * i.low + from_bool bit * i.range + offset = omega (arith, e, same) in
    HasDecoded-more all bins bypass bit old_range old_offset old_range offset old_left left h running tt refl running
    (record {
      taken = subst (λ k. TakesNumber k (2 * i.low + from_bool bit * i.range + offset) all left) size (subst (λ v. TakesNumber ((9 + i.doublings) + 1) v all left) value both);
      range_is = p.range_is;
      within = within;
    })

-- the bit that a doubling takes
one_more : (offset new_offset : ℕ) (left new_left : List Bool) → Doubles 1 offset new_offset left new_left → (next : Bool) × (left ≡ next ∷ new_left) × (2 * offset + from_bool next ≡ new_offset)
one_more offset new_offset [] new_left d = absurd (omega (arith, d.taken.enough))
one_more offset new_offset (next ∷ rest) new_left d =
    let value : d.value ≡ from_bool next = sym d.taken.value_is ∙ number-cons next [] ∙ omega (arith, number-nil) in
    (next, ap (λ t. next ∷ t) (sym d.taken.left_is), omega (arith, d.offset_is, value))

pub bypass_lower : (range offset new_offset : ℕ) (left new_left : List Bool) → 256 ≤ range → Doubles 1 offset new_offset left new_left → new_offset < range
    → (all : List Bool) (bins : List Bin) → HasDecoded all bins range offset left → HasDecoded all (with_bin bins bypass false) range new_offset new_left
bypass_lower range offset new_offset left new_left running d within =
    let m = one_more offset new_offset left new_left d in
    decoded_bypass false m.0 range offset new_offset left new_left running m.1 (omega (arith, m.2)) within

pub bypass_upper : (range offset new_offset : ℕ) (left new_left : List Bool) → 256 ≤ range → offset < range → Doubles 1 offset new_offset left new_left → range ≤ new_offset
    → (new_offset - range < range) × ((all : List Bool) (bins : List Bin) → HasDecoded all bins range offset left → HasDecoded all (with_bin bins bypass true) range (new_offset - range) new_left)
bypass_upper range offset new_offset left new_left running below d above =
    let m = one_more offset new_offset left new_left d in
    let within : new_offset - range < range = omega (arith, m.2, from_bool-most m.0) in
    (within, decoded_bypass true m.0 range offset (new_offset - range) left new_left running m.1 (omega (arith, m.2)) within)

pub none_left : (left : List Bool) → length left < 1 → left ≡ []
none_left [] h = refl
none_left (b ∷ left) h = absurd (omega arith)

pub no_bypass : (old_range old_offset : ℕ) (old_left : List Bool) → old_left ≡ []
    → (all : List Bool) (bins : List Bin) → HasDecoded all bins old_range old_offset old_left → (bit : Bool) → Begins all (interval (with_bin bins bypass bit)) → ⊥
no_bypass old_range old_offset old_left none all bins h bit b =
    let after_it = subst (Begins all) (interval-with_bin bins bypass bit) b in
    let t = h.points.taken in
    let rest : length old_left ≡ length all - (9 + (interval bins).doublings) = ap length t.left_is ∙ length-drop (9 + (interval bins).doublings) all in
    omega (arith, rest, ap length none, after_it.enough, t.enough)

-- ---- an end bin

pub decoded_end : (old_range old_offset offset : ℕ) (left : List Bool) → 256 ≤ old_range → old_range - 2 + offset ≡ old_offset
    → (all : List Bool) (bins : List Bin) → HasDecoded all bins old_range old_offset left → HasDecoded all (with_bin bins terminate true) 2 offset left
decoded_end old_range old_offset offset left running e all bins h =
    let i = interval bins in
    let p = h.points in
    let value : i.low + old_offset ≡ i.low + (i.range - 2) + offset = omega (arith, e, p.range_is) in
    let q : Points all (after i terminate true) 2 offset left = record {
      taken = subst (λ v. TakesNumber (9 + i.doublings) v all left) value p.taken;
      range_is = refl;
      within = omega (arith, e, p.within);
    } in
    record {
      points = subst (λ j. Points all j 2 offset left) (sym (interval-with_bin bins terminate true)) q;
      so_far = λ many. absurd (omega arith);
      ended = λ _. record { earlier = bins; bins_are = refl; open_before = h.so_far running };
    }

pub decoded_no_end : (old_range old_offset range offset : ℕ) (old_left left : List Bool) → 256 ≤ old_range → 256 ≤ range
    → ((all : List Bool) (i : Interval) → Points all i old_range old_offset old_left → Points all (renormalised (without_upper 2 i)) range offset left)
    → (all : List Bool) (bins : List Bin) → HasDecoded all bins old_range old_offset old_left → HasDecoded all (with_bin bins terminate false) range offset left
decoded_no_end old_range old_offset range offset old_left left running low narrowed all bins h =
    HasDecoded-more all bins terminate false old_range old_offset range offset old_left left h running tt refl low (narrowed all (interval bins) h.points)
