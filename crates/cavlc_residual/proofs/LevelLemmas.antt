use Rattle.std.proofs.Common.{◌≡◌, ◌≢◌, drop-drop, length, take, drop, length-append, ℕ, zero, suc, ◌+◌, ◌-◌, ◌*◌, ◌/◌, ◌%◌, ◌^◌, ◌<◌, ◌≤◌, Bool, true, false, cond, List, [], ◌∷◌, ◌++◌, ltb, eqb, replicate, add-zero, zero-add, refl, sym, ap, ◌∙◌, subst, arith, ◌⊎◌, inl, inr, append_assoc, None, Result, add-one, leb}
use Rattle.std.proofs.Math.Nat.{suc-add, div-lt_iff_lt-mul}
use Rattle.std.proofs.lemmas.Bool.{cases_lt, lt-ltb, le-ltb, eqb-true, leb-true}
use Rattle.bit_texts.specs.Bits.{binary}
use Rattle.bit_texts.specs.Texts.{Reads, IsPrefixFree, Appends}
use Rattle.bit_texts.proofs.Reading.{IsPrefixFree-binary, IsPrefixFree-then}
use Rattle.code_tables.proofs.CodeTables.{all_below, all_below-at}
use Rattle.bit_texts.proofs.Writing.{Appends-same}
use Rattle.bit_texts.proofs.Numbers.{binary-add, binary-high, pow_next, pow_most}
use Rattle.std.proofs.lemmas.Nat.{div-add-mod', div_below, mod_below, pow_pos, shr_high}
use Rattle.std.specs.Int.Count.{count_leading_zeros}
use Rattle.std.proofs.lemmas.List.{length-drop, take-append-drop}
use Rattle.bit_texts.specs.Bits.{number, first}
use Rattle.bit_texts.proofs.Numbers.{length-binary}
use Rattle.bit_texts.proofs.Reading.{binary-take}
use Rattle.bit_texts.proofs.Windows.{first-take, number-first_below, number-window_behind}
use Rattle.cavlc_residual.proofs.WindowLemmas.{zeros_first, binary-prefix, prefix_size, prefix_above, prefix_found}
use Rattle.cavlc_residual.specs.Level.{prefix_bits, suffix_size, word_bits, IsLevelWord, level_code, word_from, level_word}

-- ---- level_prefix

pub IsPrefixFree-prefix : (bound : ℕ) → IsPrefixFree (λ p. p ≤ bound) prefix_bits
IsPrefixFree-prefix bound v w x y p q e =
    let h = zeros_first v w (true ∷ x) y (sym (append_assoc (replicate v false) (true ∷ []) x) ∙ e) in
    one v w x y h.0 h.1 h.2 where
      one : (v w : ℕ) (x y : List Bool) (k : ℕ) → w ≡ v + k → true ∷ x ≡ prefix_bits k ++ y → v ≡ w
      one v w x y zero e f = omega arith
      one v w x y (suc k) e f = absurd (let bad : true ≡ false = cc in cc)

pub IsPrefixFree-level : (s bound : ℕ) → IsPrefixFree (IsLevelWord s bound) (word_bits s)
IsPrefixFree-level s bound =
    IsPrefixFree-then (λ p. p ≤ bound) prefix_bits (λ p x. x < 2 ^ suffix_size s p) (λ p. binary (suffix_size s p))
    (IsPrefixFree-prefix bound) (λ p _. IsPrefixFree-binary (suffix_size s p))

-- ---- the ladder of codes

-- how many codes have one of the k prefixes from p on
abbrev pub span : ℕ → ℕ → ℕ → ℕ
span s p zero = 0
span s p (suc k) = 2 ^ suffix_size s p + span s (suc p) k

-- the codes of k prefixes are passed by
pub word_from-span : (k n s p x : ℕ) → word_from (k + n) s p (span s p k + x) ≡ word_from n s (p + k) x
unfolding word_from
word_from-span zero n s p x = rw (zero-add, zero-add, add-zero) refl
word_from-span (suc k) n s p x =
    let size = 2 ^ suffix_size s p in
    let above : ltb (span s p (suc k) + x) size ≡ false = le-ltb (span s p (suc k) + x) size (omega arith) in
    let less : span s p (suc k) + x - size ≡ span s (suc p) k + x = omega arith in
    ap (λ m. word_from m s p (span s p (suc k) + x)) (suc-add k n)
    ∙ (ap (λ b. cond b (p, span s p (suc k) + x) (word_from (k + n) s (suc p) (span s p (suc k) + x - size))) above
    ∙ (ap (λ m. word_from (k + n) s (suc p) m) less
    ∙ (word_from-span k n s (suc p) x ∙ ap (λ q. word_from n s q x) (suc_add_is p k))))
  where
    suc_add_is : (p k : ℕ) → suc p + k ≡ p + suc k
    suc_add_is p k = omega arith

-- one step of the ladder
pub word_from-found : (n s p x : ℕ) → x < 2 ^ suffix_size s p → word_from (suc n) s p x ≡ (p, x)
unfolding word_from
word_from-found n s p x h = ap (λ b. cond b (p, x) (word_from n s (suc p) (x - 2 ^ suffix_size s p))) (lt-ltb x (2 ^ suffix_size s p) h)

pub word_from-passed : (n s p x : ℕ) → 2 ^ suffix_size s p ≤ x → word_from (suc n) s p x ≡ word_from n s (suc p) (x - 2 ^ suffix_size s p)
unfolding word_from
word_from-passed n s p x h = ap (λ b. cond b (p, x) (word_from n s (suc p) (x - 2 ^ suffix_size s p))) (le-ltb x (2 ^ suffix_size s p) h)

-- what the ladder finds
pub record Found (n s p x : ℕ) (w : ℕ × ℕ) : Type 0 where
  pub passed : ℕ
  pub prefix : w.0 ≡ p + passed
  pub code : x ≡ span s p passed + w.1
  pub fits : passed < n → w.1 < 2 ^ suffix_size s w.0

pub word_from-finds : (n s p x : ℕ) → Found n s p x (word_from n s p x)
unfolding word_from
word_from-finds zero s p x = record { passed = 0; prefix = omega arith; code = omega arith; fits = λ h. omega arith }
word_from-finds (suc n) s p x = cases n s p x (cases_lt x (2 ^ suffix_size s p)) (word_from-finds n s (suc p) (x - 2 ^ suffix_size s p)) where
  cases : (n s p x : ℕ) → (x < 2 ^ suffix_size s p) ⊎ (2 ^ suffix_size s p ≤ x) → Found n s (suc p) (x - 2 ^ suffix_size s p) (word_from n s (suc p) (x - 2 ^ suffix_size s p)) → Found (suc n) s p x (word_from (suc n) s p x)
  cases n s p x (inl h) f = let P : ℕ × ℕ → Type 0 = λ w. Found (suc n) s p x w in
      subst P (sym (word_from-found n s p x h)) record { passed = 0; prefix = omega arith; code = omega arith; fits = λ _. h }
  cases n s p x (inr h) f = let P : ℕ × ℕ → Type 0 = λ w. Found (suc n) s p x w in
      subst P (sym (word_from-passed n s p x h)) record { passed = suc f.passed; prefix = omega arith; code = omega arith; fits = λ l. f.fits (omega arith) }

-- ---- reading and writing a word

pub no_level : (s bound : ℕ) (left rest : List Bool) → ((p : ℕ) (more : List Bool) → p ≤ bound → left ≢ prefix_bits p ++ more) → Reads (IsLevelWord s bound) (word_bits s) left None rest
no_level s bound left rest none = λ w more is bad.
    let suffix = binary (suffix_size s w.0) w.1 in
    none w.0 (suffix ++ more) is.0 (bad ∙ append_assoc (prefix_bits w.0) suffix more)

pub level_cut : (s window z bound size : ℕ) (left rest : List Bool) → window ≡ number (first 64 left) → z ≡ count_leading_zeros 64 window → bound ≤ 20 → z ≤ bound → size ≡ suffix_size s z → length left < z + 1 + size → Reads (IsLevelWord s bound) (word_bits s) left None rest
level_cut s window z bound size left rest e zeros h within same short = λ w more is bad.
    let suffix = binary (suffix_size s w.0) w.1 in
    let front : left ≡ prefix_bits w.0 ++ (suffix ++ more) = bad ∙ append_assoc (prefix_bits w.0) suffix more in
    let least = prefix_above window z w.0 left (suffix ++ more) e zeros (omega (arith, is.0)) front in
    let found = prefix_found window z bound left (drop (z + 1) left) e zeros h within (omega (arith, least.0, least.1)) refl in
    let prefix : z ≡ w.0 = IsPrefixFree-prefix bound z w.0 (drop (z + 1) left) (suffix ++ more) within is.0 (sym found.1 ∙ front) in
    let sizes = ap (suffix_size s) prefix in
    omega (arith, ap length front, length-append (prefix_bits w.0) (suffix ++ more), length-append suffix more, prefix_size w.0, length-binary (suffix_size s w.0) w.1, prefix, sizes, same, short)

pub level_found : (s window z bound size n x : ℕ) (left new : List Bool) → window ≡ number (first 64 left) → z ≡ count_leading_zeros 64 window → bound ≤ 20 → z ≤ bound → size ≡ suffix_size s z → size ≤ 17 → n ≡ z + 1 + size → n ≤ length left → new ≡ drop n left → x ≡ window / 2 ^ (64 - n) % 2 ^ size → IsLevelWord s bound (z, x) × (left ≡ word_bits s (z, x) ++ new)
level_found s window z bound size n x left new e zeros h within same few count room rest value =
    let mid = drop (z + 1) left in
    let found = prefix_found window z bound left mid e zeros h within (omega (arith, count, room)) refl in
    let whole : 64 ≡ z + 1 + size + (64 - n) = omega (arith, count, few, within, h) in
    let number_is : x ≡ number (first size mid) =
    value ∙ ap (λ k. k / 2 ^ (64 - n) % 2 ^ size) (e ∙ ap (λ k. number (first k left)) whole) ∙ number-window_behind (z + 1) size (64 - n) left in
    let long : size ≤ length mid = omega (arith, length-drop (z + 1) left, count, room) in
    let front : binary size x ≡ take size mid = ap (binary size) (number_is ∙ ap number (first-take size mid long)) ∙ binary-take size mid long in
    let behind : drop size mid ≡ new = drop-drop size (z + 1) left ∙ (ap (λ k. drop k left) (sym count) ∙ sym rest) in
    let cut : mid ≡ binary size x ++ new = sym (take-append-drop size mid) ∙ (ap (λ t. t ++ drop size mid) (sym front) ∙ ap (λ t. binary size x ++ t) behind) in
    let P : ℕ → Type 0 = λ k. x < 2 ^ k in
    let Q : ℕ → Type 0 = λ k. left ≡ (prefix_bits z ++ binary k x) ++ new in (
      (within, subst P same (subst (λ v. v < 2 ^ size) (sym number_is) (number-first_below size mid))),
      subst Q same (found.1 ∙ (ap (λ t. prefix_bits z ++ t) cut ∙ sym (append_assoc (prefix_bits z) (binary size x) new))),
    )

-- ---- the words and levelCode

-- a level_code begins where the codes of the prefixes before it end
level_code-first : (s p : ℕ) → s < 7 → p < 21 → level_code s p 0 ≡ span s 0 p
level_code-first s p h k =
    eqb-true (level_code s p 0) (span s 0 p)
    (all_below-at (λ q. eqb (level_code s q 0) (span s 0 q)) 21 p (all_below-at (λ t. all_below (λ q. eqb (level_code t q 0) (span t 0 q)) 21) 7 s refl h) k)

level_code-suffix : (s p x : ℕ) → level_code s p x ≡ level_code s p 0 + x
level_code-suffix s p x = omega arith

-- levelCode has just the word that it was made from
pub level_word-level_code : (s p x : ℕ) → s < 7 → IsLevelWord s 20 (p, x) → level_word s (level_code s p x) ≡ (p, x)
unfolding level_word
level_word-level_code s p x h is =
    let at : level_code s p x ≡ span s 0 p + x = level_code-suffix s p x ∙ ap (λ n. n + x) (level_code-first s p h (omega arith)) in
    let fuel : p + suc (20 - p) ≡ 21 = omega arith in
    ap (word_from 21 s 0) at
    ∙ (ap (λ n. word_from n s 0 (span s 0 p + x)) (sym fuel)
    ∙ (word_from-span p (suc (20 - p)) s 0 x ∙ (ap (λ q. word_from (suc (20 - p)) s q x) (zero-add p) ∙ word_from-found (20 - p) s p x is.1)))

-- and a code is made from its word, where the prefix is at most 20
pub level_code-level_word : (s code : ℕ) → s < 7 → (level_word s code).0 ≤ 20 → IsLevelWord s 20 (level_word s code) × (level_code s (level_word s code).0 (level_word s code).1 ≡ code)
unfolding level_word
level_code-level_word s code h small =
    let w = word_from 21 s 0 code in
    let f = word_from-finds 21 s 0 code in
    let same : w.0 ≡ f.passed = omega arith in (
      (small, f.fits (omega arith)),
      level_code-suffix s w.0 w.1 ∙ (ap (λ n. n + w.1) (level_code-first s w.0 h (omega arith) ∙ ap (span s 0) same) ∙ sym f.code),
    )

-- the prefix that the ladder finds isn't below the one it begins at
pub word_from-above : (n s p x : ℕ) → p ≤ (word_from n s p x).0
word_from-above n s p x = let f = word_from-finds n s p x in omega arith

-- ---- the words of the prefixes below 14, each of which has 2^s codes

level_code-low : (s p x : ℕ) → s < 7 → p < 15 → level_code s p x ≡ p * 2 ^ s + x
level_code-low s p x h k =
    level_code-suffix s p x
    ∙ ap (λ n. n + x)
    (eqb-true (level_code s p 0) (p * 2 ^ s)
    (all_below-at (λ q. eqb (level_code s q 0) (q * 2 ^ s)) 15 p (all_below-at (λ t. all_below (λ q. eqb (level_code t q 0) (q * 2 ^ t)) 15) 7 s refl h) k))

suffix_size-low : (s p : ℕ) → s < 7 → p < 14 → suffix_size s p ≡ s
suffix_size-low s p h k =
    eqb-true (suffix_size s p) s
    (all_below-at (λ q. eqb (suffix_size s q) s) 14 p (all_below-at (λ t. all_below (λ q. eqb (suffix_size t q) t) 14) 7 s refl h) k)

pub shl_14 : (s : ℕ) → s < 7 → 14 * 2 ^ s % 4294967296 ≡ 14 * 2 ^ s
shl_14 s h = eqb-true (14 * 2 ^ s % 4294967296) (14 * 2 ^ s) (all_below-at (λ t. eqb (14 * 2 ^ t % 4294967296) (14 * 2 ^ t)) 7 s refl h)

low_prefix : (s code : ℕ) → code < 14 * 2 ^ s → code / 2 ^ s < 14
low_prefix s code h = div_below code (2 ^ s) 14 (pow_pos s) h

pub low_word : (s code p x bound : ℕ) → s < 7 → bound ≤ 20 → code < 14 * 2 ^ s → p ≡ code / 2 ^ s → x ≡ code % 2 ^ s → p ≤ bound → ((p, x) ≡ level_word s code) × IsLevelWord s bound (p, x)
low_word s code p x bound h k low prefix suffix within =
    let few : p < 14 = omega (arith, prefix, low_prefix s code low) in
    let fits : x < 2 ^ suffix_size s p = let P : ℕ → Type 0 = λ n. x < 2 ^ n in subst P (sym (suffix_size-low s p h few)) (omega (arith, suffix, mod_below code (2 ^ s) (pow_pos s))) in
    let parts : p * 2 ^ s + x ≡ code = ap (λ n. n * 2 ^ s + x) prefix ∙ (ap (λ n. code / 2 ^ s * 2 ^ s + n) suffix ∙ div-add-mod' code (2 ^ s)) in
    let same : level_code s p x ≡ code = level_code-low s p x h (omega arith) ∙ parts in
    (sym (ap (level_word s) (sym same) ∙ level_word-level_code s p x h (omega arith, fits)), (within, fits))

-- the bits of such a word, whose prefix tells that it is one
pub low_code : (s code : ℕ) → code / 2 ^ s < 14 → code < 14 * 2 ^ s
low_code s code h = (div-lt_iff_lt-mul (pow_pos s)).0 h

pub low_above : (s code p bound : ℕ) → s < 7 → code < 14 * 2 ^ s → p ≡ code / 2 ^ s → bound < p → bound < (level_word s code).0
low_above s code p bound h low prefix above =
    let few = low_prefix s code low in
    let word = low_word s code p (code % 2 ^ s) 20 h (omega arith) low prefix refl (omega arith) in
    let first = ap (λ (w : ℕ × ℕ). w.0) word.0 in
    omega arith

-- the search begins at prefix 14
pub high_start : (s code rest : ℕ) → s < 7 → 14 * 2 ^ s ≤ code → rest ≡ code - 14 * 2 ^ s → level_word s code ≡ word_from 7 s 14 rest
unfolding level_word
high_start s code rest h high less =
    let before : span s 0 14 ≡ 14 * 2 ^ s = sym (level_code-first s 14 h (omega arith)) ∙ (level_code-low s 14 0 h (omega arith) ∙ omega arith) in
    let at : code ≡ span s 0 14 + rest = omega (arith, before, less) in
    ap (word_from 21 s 0) at ∙ word_from-span 14 7 s 0 rest

-- ---- one turn of the search for the word

pub found_here : (s bound p size x : ℕ) (w : ℕ × ℕ) → w ≡ word_from (21 - p) s p x → size ≡ suffix_size s p → p ≤ bound → bound ≤ 20 → x < 2 ^ size → ((p, x) ≡ w) × IsLevelWord s bound (p, x)
found_here s bound p size x w e same within small fits =
    let here : x < 2 ^ suffix_size s p = let P : ℕ → Type 0 = λ n. x < 2 ^ n in subst P same fits in
    let fuel : 21 - p ≡ suc (20 - p) = omega arith in
    (sym (e ∙ (ap (λ n. word_from n s p x) fuel ∙ word_from-found (20 - p) s p x here)), (within, here))

pub passed_here : (s p size x : ℕ) (w : ℕ × ℕ) → w ≡ word_from (21 - p) s p x → size ≡ suffix_size s p → p ≤ 20 → 2 ^ size ≤ x → w ≡ word_from (21 - (p + 1)) s (p + 1) (x - 2 ^ size)
passed_here s p size x w e same within above =
    let here : 2 ^ suffix_size s p ≤ x = let P : ℕ → Type 0 = λ n. 2 ^ n ≤ x in subst P same above in
    let fuel : 21 - p ≡ suc (21 - (p + 1)) = omega arith in
    e ∙ (ap (λ n. word_from n s p x) fuel ∙ (word_from-passed (21 - (p + 1)) s p x here
    ∙ (ap (λ q. word_from (21 - (p + 1)) s q (x - 2 ^ suffix_size s p)) (sym (add-one p)) ∙ ap (λ n. word_from (21 - (p + 1)) s (p + 1) (x - 2 ^ n)) (sym same))))

-- ---- writing a word

-- the bits of a word are those of one number
pub level_bits : (s p size x v : ℕ) → size ≡ suffix_size s p → x < 2 ^ size → v ≡ 2 ^ size + x → binary (p + 1 + size) v ≡ word_bits s (p, x)
level_bits s p size x v same fits e =
    let at : v ≡ 1 * 2 ^ size + x = omega arith in
    let high : v / 2 ^ size ≡ 1 = ap (λ n. n / 2 ^ size) at ∙ shr_high 1 size x fits in
    let low : binary size v ≡ binary size x = ap (binary size) at ∙ binary-high size 1 x in
    binary-add (p + 1) size v
    ∙ (ap (λ n. binary (p + 1) n ++ binary size v) high
    ∙ (ap (λ t. t ++ binary size v) (binary-prefix p)
    ∙ (ap (λ t. prefix_bits p ++ t) low ∙ ap (λ n. prefix_bits p ++ binary n x) same)))

pub level_bits-below : (p size x v : ℕ) → x < 2 ^ size → v ≡ 2 ^ size + x → v < 2 ^ (p + 1 + size)
level_bits-below p size x v fits e = omega (arith, pow_next size, pow_most (size + 1) (p + 1 + size) (omega arith))

pub level_written : {T E : Type 0} (s p size x v n : ℕ) (old new : List Bool) (r : Result T E) → size ≡ suffix_size s p → x < 2 ^ size → v ≡ 2 ^ size + x → n ≡ p + 1 + size → Appends old new (binary n v) r → Appends old new (word_bits s (p, x)) r
level_written s p size x v n old new r same fits e count written =
    Appends-same old new (binary n v) (word_bits s (p, x)) r (ap (λ k. binary k v) count ∙ level_bits s p size x v same fits e) written

pub word_written : {T E : Type 0} (s p size x v n : ℕ) (w : ℕ × ℕ) (old new : List Bool) (r : Result T E) → (p, x) ≡ w → size ≡ suffix_size s p → x < 2 ^ size → v ≡ 2 ^ size + x → n ≡ p + 1 + size → Appends old new (binary n v) r → Appends old new (word_bits s w) r
word_written s p size x v n w old new r word same fits e count written =
    Appends-same old new (word_bits s (p, x)) (word_bits s w) r (ap (word_bits s) word) (level_written s p size x v n old new r same fits e count written)

-- that of a prefix below 14
pub low_written : {T E : Type 0} (s code v n : ℕ) (old new : List Bool) (r : Result T E) → s < 7 → code / 2 ^ s < 14 → v ≡ 2 ^ s + code % 2 ^ s → n ≡ code / 2 ^ s + 1 + s → Appends old new (binary n v) r → Appends old new (word_bits s (level_word s code)) r
low_written s code v n old new r h low e count written =
    let word = low_word s code (code / 2 ^ s) (code % 2 ^ s) 20 h (omega arith) (low_code s code low) refl refl (omega (arith, low)) in
    word_written s (code / 2 ^ s) s (code % 2 ^ s) v n (level_word s code) old new r word.0 (sym (suffix_size-low s (code / 2 ^ s) h low)) (mod_below code (2 ^ s) (pow_pos s)) e count written

-- ---- a level in range needs no prefix above 20

span-more : (k j s p : ℕ) → span s p k ≤ span s p (k + j)
span-more zero j s p = omega arith
span-more (suc k) j s p =
    let rest = span-more k j s (suc p) in
    let at = ap (span s p) (suc-add k j) in
    omega arith

pub level_word-small : (s code : ℕ) → s < 7 → code ≤ 131069 → (level_word s code).0 ≤ 20
unfolding level_word
level_word-small s code h small =
    let f = word_from-finds 21 s 0 code in
    let above : 131070 ≤ span s 0 21 = leb-true 131070 (span s 0 21) (all_below-at (λ t. leb 131070 (span t 0 21)) 7 s refl h) in
    by f.passed (cases_lt f.passed 21) f.prefix f.code above
  where
    by : (k : ℕ) → (k < 21) ⊎ (21 ≤ k) → (word_from 21 s 0 code).0 ≡ 0 + k → code ≡ span s 0 k + (word_from 21 s 0 code).1 → 131070 ≤ span s 0 21 → (word_from 21 s 0 code).0 ≤ 20
    by k (inl l) e found above = omega arith
    by k (inr l) e found above =
        let more = span-more 21 (k - 21) s 0 in
        let same : 21 + (k - 21) ≡ k = omega arith in
        let at = ap (span s 0) same in
        absurd (omega arith)
