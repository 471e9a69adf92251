-- The register of an encoder: what goes from it to the pending bits, and its room for a carry.
use Rattle.std.proofs.Common.{◌≡◌, ℕ, ◌+◌, ◌*◌, ◌/◌, ◌%◌, ◌^◌, ◌<◌, ◌≤◌, Bool, true, false, List, refl, sym, ap, subst, ◌∙◌, arith}
use Rattle.std.proofs.lemmas.Nat.{pow-add}
use Rattle.std.proofs.Math.Nat.{mul-le-mul_right, mod-eq_of_lt}
use Rattle.bit_texts.specs.Bits.{number}
use Rattle.bit_texts.proofs.Numbers.{pow_most}
use Rattle.cabac_interval.specs.Interval.{doublings_of}
use Rattle.cabac_interval.proofs.Doubling.{Doubles, doubles}
use Rattle.cabac_engine.specs.LowBits.{Adds, AreOnes, HasRoom, number_of}

pub one_shifted : (n : ℕ) → n ≤ 40 → 1 * 2 ^ n % 18446744073709551616 ≡ 2 ^ n
one_shifted n h =
    let most : 2 ^ n ≤ 1099511627776 = pow_most n 40 h in
    let same : 1 * 2 ^ n ≡ 2 ^ n = omega arith in
    mod-eq_of_lt (omega (arith, most)) ∙ same

nine_more : (k : ℕ) → 2 ^ (9 + k) ≡ 512 * 2 ^ k
nine_more k = pow-add 2 9 k

ten_more : (k : ℕ) → 2 ^ (10 + k) ≡ 512 * 2 ^ (k + 1)
ten_more k = ap (λ n. 2 ^ n) (let e : 10 + k ≡ 9 + (k + 1) = omega arith in e) ∙ nine_more (k + 1)

-- the bits above the nine lowest ones
pub upper_fits : (settled : Bool) (g register : ℕ) → HasRoom settled g register 1 → register / 512 < 2 ^ (g + 1)
upper_fits settled g register h = omega (arith, h.0, ten_more g)

pub upper_settled : (settled : Bool) (g register : ℕ) → HasRoom settled g register 1 → settled ≡ true → register / 512 < 2 ^ g
upper_settled settled g register h e = omega (arith, h.1 e, nine_more g)

pub number_of-upper : (old new : List Bool) (g register : ℕ) → Adds g (register / 512) old new → number_of new 0 (register % 512) ≡ number_of old g register
number_of-upper old new g register a =
    let power : number old * 2 ^ (9 + g) ≡ number old * (512 * 2 ^ g) = ap (λ k. number old * k) (nine_more g) in
    omega (arith, a.number_is, power)

pub room_kept : (settled now_settled : Bool) (g register range : ℕ) → range ≤ 512 → HasRoom settled g register range
    → (now_settled ≡ true → AreOnes settled g (register / 512)) → HasRoom now_settled 0 (register % 512) range
room_kept true now_settled g register range fits room ones =
    (omega (arith, fits), λ e. omega (arith, room.1 refl, (ones e).0 refl, nine_more g))
room_kept false now_settled g register range fits room ones =
    (omega (arith, fits), λ e. omega (arith, room.0, (ones e).1 refl, ten_more g))

doubled_power : (a g n : ℕ) → 2 ^ (a + (g + n)) ≡ 2 ^ (a + g) * 2 ^ n
doubled_power a g n = ap (λ k. 2 ^ k) (let e : a + (g + n) ≡ (a + g) + n = omega arith in e) ∙ pow-add 2 (a + g) n

-- a register and a range that were doubled n times, and moved within the room
pub room_doubled : (settled : Bool) (g n register range now now_range : ℕ) → HasRoom settled g register range
    → now + now_range ≤ (register + range) * 2 ^ n → HasRoom settled (g + n) now now_range
room_doubled settled g n register range now now_range room h = (
  omega (arith, h, mul-le-mul_right (2 ^ n) room.0, doubled_power 10 g n),
  λ e. omega (arith, h, mul-le-mul_right (2 ^ n) (room.1 e), doubled_power 9 g n),
)

-- the number of all bits, where those of the register were doubled n times
pub number_of-doubled : (bits : List Bool) (g n register more : ℕ) → number_of bits (g + n) (register * 2 ^ n + more) ≡ (number bits * 2 ^ (9 + g) + register) * 2 ^ n + more
number_of-doubled bits g n register more =
    let power : number bits * 2 ^ (9 + (g + n)) ≡ number bits * (2 ^ (9 + g) * 2 ^ n) = ap (λ k. number bits * k) (doubled_power 9 g n) in
    omega (arith, power)

pub number_of-renormalised : (bits : List Bool) (g n register skipped value was : ℕ) → was ≡ number_of bits g register → value ≡ (register + skipped) * 2 ^ n
    → number_of bits (g + n) value ≡ (was + skipped) * 2 ^ n
number_of-renormalised bits g n register skipped value was h e =
    let power : number bits * 2 ^ (9 + (g + n)) ≡ number bits * (2 ^ (9 + g) * 2 ^ n) = ap (λ k. number bits * k) (doubled_power 9 g n) in
    let raised : (was + skipped) * 2 ^ n ≡ (number bits * 2 ^ (9 + g) + register + skipped) * 2 ^ n = ap (λ k. (k + skipped) * 2 ^ n) h in
    omega (arith, power, raised, e)

-- a doubled register fits 64 bits
pub register_fits : (settled : Bool) (g n register range value : ℕ) → HasRoom settled g register range → g < 32 → n ≤ 8 → value + 1 ≤ register + range
    → value * 2 ^ n % 18446744073709551616 ≡ value * 2 ^ n
register_fits settled g n register range value room few small within =
    let step : (value + 1) * 2 ^ n ≤ (register + range) * 2 ^ n = mul-le-mul_right (2 ^ n) within in
    let most : 2 ^ (10 + (g + n)) ≤ 562949953421312 = pow_most (10 + (g + n)) 49 (omega arith) in
    mod-eq_of_lt (omega (arith, step, mul-le-mul_right (2 ^ n) room.0, doubled_power 10 g n, most))

-- a value below the register's room, and a range, within it when they are doubled
pub room_scaled : (settled : Bool) (g n register range value part : ℕ) → HasRoom settled g register range → g < 32 → n ≤ 8 → 0 < part → value + part ≤ register + range
    → HasRoom settled (g + n) (value * 2 ^ n % 18446744073709551616) (part * 2 ^ n)
room_scaled settled g n register range value part room few small some within =
    room_doubled settled g n register range (value * 2 ^ n % 18446744073709551616) (part * 2 ^ n) room
    (omega (arith, register_fits settled g n register range value room few small (omega (arith, some, within)), mul-le-mul_right (2 ^ n) within))

pub room_less : (settled : Bool) (g register range less : ℕ) → HasRoom settled g register range → less ≤ range → HasRoom settled g register less
room_less settled g register range less room h = (omega (arith, h, room.0), λ e. omega (arith, h, room.1 e))

pub record Doubled (range n : ℕ) : Type 0 where
  pub whole : range * 2 ^ n % 65536 ≡ range * 2 ^ n
  pub low : 256 ≤ range * 2 ^ n
  pub high : range * 2 ^ n < 512
  pub few : n ≤ 8

-- a range that was doubled as often as it must be
pub range_doubled : (range n : ℕ) → n ≡ doublings_of range → 0 < range → range < 512 → Doubled range n
range_doubled range n e some below =
    let d = subst (Doubles range) (sym e) (doubles range some below) in
    record { whole = mod-eq_of_lt (omega (arith, d.high)); low = d.low; high = d.high; few = d.few }

-- the number of all bits with a 1 for the last one
pub last_bit_one : (bits : List Bool) (g register : ℕ) → number_of bits g (register / 2 * 2 + 1) ≡ number_of bits g register / 2 * 2 + 1
last_bit_one bits g register =
    let power : number bits * 2 ^ (9 + g) ≡ number bits * (512 * 2 ^ g) = ap (λ k. number bits * k) (nine_more g) in
    omega (arith, power)
