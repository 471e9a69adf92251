use Rattle.std.proofs.Common.{◌≡◌, ℕ, zero, suc, ◌+◌, ◌-◌, ◌<◌, ◌≤◌, ◌==◌, Bool, true, false, ◌||◌, cond, List, [], ◌∷◌, ◌++◌, length, take, sum, ltb, nat_le, Option, Some, None, refl, sym, ap, ◌∙◌, subst, arith, ◌⊎◌, inl, inr, append_assoc}
use Rattle.std.specs.Option.{option_map}
use Rattle.std.proofs.lemmas.List.{nil_from_length, length-take}
use Rattle.std.proofs.lemmas.List.Sums.{sum_by-cons}
use Rattle.std.proofs.lemmas.Bool.{ltb-true, eq-eqb, le-leb, cases_order, or_right}
use Rattle.bit_texts.specs.Bits.{binary}
use Rattle.bit_texts.specs.Texts.{Reads, IsPrefixFree, BothAre, both_texts}
use Rattle.bit_texts.proofs.Reading.{Reads-then, Reads-stop, Reads-map, Reads-same, IsPrefixFree-then, IsPrefixFree-map, IsPrefixFree-same}
use Rattle.code_tables.specs.Codes.{Code, code_at, IsEntry, word_at}
use Rattle.code_tables.specs.TotalZeros.{total_zeros_list}
use Rattle.code_tables.specs.RunBefore.{run_before_list}
use Rattle.code_tables.proofs.Tables.{IsCodeTable-total_zeros, IsCodeTable-run_before}
use Rattle.cavlc_residual.proofs.WindowLemmas.{entry_within}
use Rattle.code_tables.proofs.CodeTables.{all_below, all_below-at}
use Rattle.cavlc_residual.specs.Block.{runs_text}

-- ---- the entries of the tables, by a computed check

-- each run that fits the zeros left has a word
run_entry-suc : (n r : ℕ) → n < 14 → r < suc (suc n) → IsEntry (run_before_list (suc n)) r
unfolding run_before_list
run_entry-suc n r h k =
    ltb-true 0 (code_at (run_before_list (suc n)) r).0
    (all_below-at (λ q. ltb 0 (code_at (run_before_list (suc n)) q).0) (suc (suc n)) r
    (all_below-at (λ m. all_below (λ q. ltb 0 (code_at (run_before_list (suc m)) q).0) (suc (suc m))) 14 n refl h) k)

pub run_entry : (left r : ℕ) → 0 < left → left ≤ 14 → r ≤ left → IsEntry (run_before_list left) r
run_entry zero r p h k = absurd (omega arith)
run_entry (suc n) r p h k = run_entry-suc n r (omega arith) (omega arith)

length-cond_take : {A : Type 0} (b : Bool) (n : ℕ) (xs : List A) → length (cond b [] (take n xs)) ≤ n
length-cond_take true n xs = omega arith
length-cond_take false n xs = omega (arith, length-take n xs)

pub length-run_before_list : (left : ℕ) → length (run_before_list left) ≤ left + 1
unfolding run_before_list
length-run_before_list left = length-cond_take (left == 0) (left + 1) _

pub length-total_zeros_list : (max total : ℕ) → length (total_zeros_list max total) ≤ max + 1 - total
unfolding total_zeros_list
length-total_zeros_list max total = length-cond_take (total == 0 || nat_le max total) (max + 1 - total) _

-- each number of zeros that fits the block has a word
abbrev zeros_have_words : ℕ → Bool
zeros_have_words max = all_below (λ t. all_below (λ z. ltb 0 (code_at (total_zeros_list max (suc t)) z).0) (max - t)) (max - 1)

zeros_entry-by : (max total z : ℕ) → zeros_have_words max ≡ true → 0 < total → total < max → total + z ≤ max → IsEntry (total_zeros_list max total) z
zeros_entry-by max zero z all p h k = absurd (omega arith)
zeros_entry-by max (suc t) z all p h k =
    ltb-true 0 (code_at (total_zeros_list max (suc t)) z).0
    (all_below-at (λ q. ltb 0 (code_at (total_zeros_list max (suc t)) q).0) (max - t) z
    (all_below-at (λ m. all_below (λ q. ltb 0 (code_at (total_zeros_list max (suc m)) q).0) (max - m)) (max - 1) t all (omega arith)) (omega arith))

abbrev pub IsSize : ℕ → Type 0
IsSize max = (max ≡ 4) ⊎ ((max ≡ 15) ⊎ (max ≡ 16))

pub zeros_entry : (max total z : ℕ) → IsSize max → 0 < total → total < max → total + z ≤ max → IsEntry (total_zeros_list max total) z
unfolding total_zeros_list
zeros_entry max total z (inl e) = let P : ℕ → Type 0 = λ m. 0 < total → total < m → total + z ≤ m → IsEntry (total_zeros_list m total) z in subst P (sym e) (zeros_entry-by 4 total z refl)
zeros_entry max total z (inr (inl e)) = let P : ℕ → Type 0 = λ m. 0 < total → total < m → total + z ≤ m → IsEntry (total_zeros_list m total) z in subst P (sym e) (zeros_entry-by 15 total z refl)
zeros_entry max total z (inr (inr e)) = let P : ℕ → Type 0 = λ m. 0 < total → total < m → total + z ≤ m → IsEntry (total_zeros_list m total) z in subst P (sym e) (zeros_entry-by 16 total z refl)

-- ---- one run

IsRun : ℕ → ℕ → Type 0
IsRun left r = r ≤ left

pub run_list-nil : run_before_list 0 ≡ []
unfolding run_before_list
run_list-nil = refl

pub IsPrefixFree-run : (left : ℕ) → left ≤ 14 → IsPrefixFree (λ r. r ≤ left) (word_at (run_before_list left))
IsPrefixFree-run zero h = λ v w x y p q e. omega arith
IsPrefixFree-run (suc n) h =
    IsPrefixFree-same (IsEntry (run_before_list (suc n))) (λ r. r ≤ suc n) (word_at (run_before_list (suc n)))
    (λ r k. run_entry (suc n) r (omega arith) h k) (IsCodeTable-run_before (suc n)).prefix_free

pub run_read : (left : ℕ) (codes : List Code) (bits : List Bool) (r : Option ℕ) (rest : List Bool) → codes ≡ run_before_list left → 0 < left → left ≤ 14 → Reads (IsEntry codes) (word_at codes) bits r rest → Reads (λ r. r ≤ left) (word_at (run_before_list left)) bits r rest
run_read left codes bits r rest e p h read =
    let P : List Code → Type 0 = λ cs. Reads (IsEntry cs) (word_at cs) bits r rest in
    Reads-same (IsEntry (run_before_list left)) (λ r. r ≤ left) (word_at (run_before_list left)) bits r rest
    (λ q is. omega (arith, entry_within (run_before_list left) q is, length-run_before_list left))
    (λ q k. run_entry left q p h k) (subst P e read)

pub run_none : (left : ℕ) (bits : List Bool) → left ≡ 0 → (0 ≤ left) × (bits ≡ word_at (run_before_list left) 0 ++ bits)
unfolding binary
run_none left bits e =
    let P : ℕ → Type 0 = λ n. (0 ≤ n) × (bits ≡ word_at (run_before_list n) 0 ++ bits) in
    let Q : List Code → Type 0 = λ cs. bits ≡ word_at cs 0 ++ bits in
    subst P (sym e) (omega arith, subst Q (sym run_list-nil) refl)

-- ---- total_zeros

abbrev pub AreZeros : ℕ → ℕ → ℕ → Type 0
AreZeros max total z = (total + z ≤ max) × (total ≡ 0 → z ≡ 0)

zeros_test : (max total : ℕ) → (total ≡ 0) ⊎ (total ≡ max) → (total == 0 || nat_le max total) ≡ true
zeros_test max total (inl e) = ap (λ b. b || nat_le max total) (eq-eqb total 0 e)
zeros_test max total (inr e) = or_right (total == 0) (nat_le max total) (le-leb max total (omega arith))

cond_at_true : {A : Type 0} (b : Bool) (x y : A) → b ≡ true → cond b x y ≡ x
cond_at_true b x y e = ap (λ t. cond t x y) e

zeros_list-nil : (max total : ℕ) → (total ≡ 0) ⊎ (total ≡ max) → total_zeros_list max total ≡ []
unfolding total_zeros_list
zeros_list-nil max total h = cond_at_true (total == 0 || nat_le max total) [] _ (zeros_test max total h)

pub IsPrefixFree-zeros : (max total : ℕ) → IsSize max → total ≤ max → IsPrefixFree (AreZeros max total) (word_at (total_zeros_list max total))
IsPrefixFree-zeros max total size h v w x y p q e = cases (cases_order total 0) (cases_order total max) where
  cases : ((total ≡ 0) ⊎ ((total < 0) ⊎ (0 < total))) → ((total ≡ max) ⊎ ((total < max) ⊎ (max < total))) → v ≡ w
  cases (inl z) m = omega (arith, p.1 z, q.1 z)
  cases (inr (inl z)) m = absurd (omega arith)
  cases (inr (inr z)) (inl m) = omega (arith, p.0, q.0)
  cases (inr (inr z)) (inr (inr m)) = absurd (omega arith)
  cases (inr (inr z)) (inr (inl m)) =
      (IsCodeTable-total_zeros max total).prefix_free v w x y (zeros_entry max total v size z m p.0) (zeros_entry max total w size z m q.0) e

pub zeros_read : (max total : ℕ) (codes : List Code) (bits : List Bool) (r : Option ℕ) (rest : List Bool) → codes ≡ total_zeros_list max total → IsSize max → 0 < total → total < max → Reads (IsEntry codes) (word_at codes) bits r rest → Reads (AreZeros max total) (word_at (total_zeros_list max total)) bits r rest
zeros_read max total codes bits r rest e size p h read =
    let P : List Code → Type 0 = λ cs. Reads (IsEntry cs) (word_at cs) bits r rest in
    Reads-same (IsEntry (total_zeros_list max total)) (AreZeros max total) (word_at (total_zeros_list max total)) bits r rest
    (λ q is. (omega (arith, entry_within (total_zeros_list max total) q is, length-total_zeros_list max total), λ z. absurd (omega arith)))
    (λ q k. zeros_entry max total q size p h k.0) (subst P e read)

pub zeros_none : (max total : ℕ) (bits : List Bool) → (total ≡ 0) ⊎ (total ≡ max) → total ≤ max → AreZeros max total 0 × (bits ≡ word_at (total_zeros_list max total) 0 ++ bits)
unfolding binary
zeros_none max total bits e h =
    let Q : List Code → Type 0 = λ cs. bits ≡ word_at cs 0 ++ bits in
    ((omega arith, λ _. refl), subst Q (sym (zeros_list-nil max total e)) refl)

-- ---- the runs

abbrev pub IsRuns : ℕ → ℕ → List ℕ → Type 0
IsRuns count left rs = (length rs ≡ count) × (sum rs ≡ left)

abbrev pub ReadsRuns : ℕ → ℕ → List Bool → Option (List ℕ) → List Bool → Type 0
ReadsRuns count left bits r rest = Reads (IsRuns count left) (runs_text left) bits r rest

uncons : List ℕ → ℕ × List ℕ
uncons [] = (0, [])
uncons (r ∷ rs) = (r, rs)

-- a run, and then more of them
OthersAre : ℕ → ℕ → ℕ → List ℕ → Type 0
OthersAre m left r = IsRuns (suc m) (left - r)

others_text : ℕ → ℕ → List ℕ → List Bool
others_text left r = runs_text (left - r)

runs_parts : (m left : ℕ) (rs : List ℕ) → IsRuns (suc (suc m)) left rs → BothAre (λ r. r ≤ left) (OthersAre m left) (uncons rs) × (runs_text left rs ≡ both_texts (word_at (run_before_list left)) (others_text left) (uncons rs))
unfolding uncons OthersAre others_text
runs_parts m left [] h = absurd (omega (arith, h.0))
runs_parts m left (r ∷ []) h = absurd (omega (arith, h.0))
runs_parts m left (r ∷ q ∷ rs) h =
    let whole : r + sum (q ∷ rs) ≡ left = sym (sum_by-cons (λ x. x) r (q ∷ rs)) ∙ h.1 in
    let fits : r ≤ left = omega arith in
    let others : sum (q ∷ rs) ≡ left - r = omega arith in
    let count : length (q ∷ rs) ≡ suc m = omega (arith, h.0) in
    ((fits, (count, others)), refl)

runs_joined : (m left : ℕ) (v : ℕ × List ℕ) → BothAre (λ r. r ≤ left) (OthersAre m left) v → IsRuns (suc (suc m)) left (v.0 ∷ v.1) × (runs_text left (v.0 ∷ v.1) ≡ both_texts (word_at (run_before_list left)) (others_text left) v)
unfolding OthersAre others_text
runs_joined m left v h = by v.0 v.1 h where
  by : (r : ℕ) (rs : List ℕ) → (r ≤ left) × OthersAre m left r rs → IsRuns (suc (suc m)) left (r ∷ rs) × (runs_text left (r ∷ rs) ≡ word_at (run_before_list left) r ++ others_text left r rs)
  by r [] h = absurd (omega (arith, h.1.0))
  by r (q ∷ rs) h = ((omega (arith, h.1.0), sum_by-cons (λ x. x) r (q ∷ rs) ∙ omega (arith, h.0, h.1.1)), refl)

pub IsPrefixFree-runs : (count left : ℕ) → count + left ≤ 16 → IsPrefixFree (IsRuns count left) (runs_text left)
unfolding OthersAre others_text uncons
IsPrefixFree-runs zero left h = λ v w x y p q e. nil_from_length v p.0 ∙ sym (nil_from_length w q.0)
IsPrefixFree-runs (suc zero) left h = λ v w x y p q e. one v w p q where
  one : (v w : List ℕ) → IsRuns 1 left v → IsRuns 1 left w → v ≡ w
  one [] w p q = absurd (omega (arith, p.0))
  one (a ∷ v) [] p q = absurd (omega (arith, q.0))
  one (a ∷ c ∷ v) w p q = absurd (omega (arith, p.0))
  one (a ∷ []) (b ∷ c ∷ w) p q = absurd (omega (arith, q.0))
  one (a ∷ []) (b ∷ []) p q = ap (λ r. r ∷ []) (omega (arith, p.1, q.1))
IsPrefixFree-runs (suc (suc m)) left h =
    IsPrefixFree-map (BothAre (λ r. r ≤ left) (OthersAre m left)) (both_texts (word_at (run_before_list left)) (others_text left))
    (IsRuns (suc (suc m)) left) (runs_text left) (λ v. v.0 ∷ v.1) uncons (runs_parts m left) (back m left)
    (IsPrefixFree-then (λ r. r ≤ left) (word_at (run_before_list left)) (OthersAre m left) (others_text left)
    (IsPrefixFree-run left (omega arith)) (λ r k. IsPrefixFree-runs (suc m) (left - r) (omega arith)))
  where
    back : (m left : ℕ) (rs : List ℕ) → IsRuns (suc (suc m)) left rs → (uncons rs).0 ∷ (uncons rs).1 ≡ rs
    back m left [] h = absurd (omega (arith, h.0))
    back m left (r ∷ rs) h = refl

ReadsRuns-cons : (m left r0 : ℕ) (bits mid : List Bool) → left ≤ 14 → (r0 ≤ left) × (bits ≡ word_at (run_before_list left) r0 ++ mid) → (r : Option (List ℕ)) (rest : List Bool) → ReadsRuns (suc m) (left - r0) mid r rest → ReadsRuns (suc (suc m)) left bits (option_map (λ rs. r0 ∷ rs) r) rest
unfolding OthersAre others_text
ReadsRuns-cons m left r0 bits mid h first r rest others =
    let both = Reads-then (λ r. r ≤ left) (word_at (run_before_list left)) (OthersAre m left) (others_text left) (IsPrefixFree-run left h) r0 bits mid first.0 first.1 r rest others in
    let whole = Reads-map (BothAre (λ r. r ≤ left) (OthersAre m left)) (both_texts (word_at (run_before_list left)) (others_text left))
    (IsRuns (suc (suc m)) left) (runs_text left) (λ v. v.0 ∷ v.1) uncons (runs_parts m left) (runs_joined m left) bits _ rest both in
    same r whole
  where
    same : (r : Option (List ℕ)) → ReadsRuns (suc (suc m)) left bits (option_map (λ (v : ℕ × List ℕ). v.0 ∷ v.1) (option_map (λ rs. (r0, rs)) r)) rest → ReadsRuns (suc (suc m)) left bits (option_map (λ rs. r0 ∷ rs) r) rest
    same None w = w
    same (Some rs) w = w

-- Whatever is read of the runs that are still to come completes those that were read.
abbrev pub RunsComplete : (count all_zeros n left : ℕ) → List Bool → List Bool → List ℕ → Type 0
RunsComplete count all_zeros n left bits0 bits done =
    (r : Option (List ℕ)) (rest : List Bool) → ReadsRuns n left bits r rest → ReadsRuns count all_zeros bits0 (option_map (λ rs. done ++ rs) r) rest

pub RunsComplete-start : (count all_zeros : ℕ) (bits : List Bool) → RunsComplete count all_zeros count all_zeros bits bits []
RunsComplete-start count all_zeros bits None rest h = h
RunsComplete-start count all_zeros bits (Some rs) rest h = h

pub RunsComplete-turn : (count all_zeros n k left r0 : ℕ) (bits0 bits mid : List Bool) (done more : List ℕ) → left ≤ 14 → n ≡ suc k → 0 < k → RunsComplete count all_zeros n left bits0 bits done → (r0 ≤ left) × (bits ≡ word_at (run_before_list left) r0 ++ mid) → more ≡ done ++ r0 ∷ [] → RunsComplete count all_zeros k (left - r0) bits0 mid more
RunsComplete-turn count all_zeros n zero left r0 bits0 bits mid done more h e p completes first push r rest others = absurd (omega arith)
RunsComplete-turn count all_zeros n (suc m) left r0 bits0 bits mid done more h e p completes first push r rest others =
    let cons = ReadsRuns-cons m left r0 bits mid h first r rest others in
    let P : ℕ → Type 0 = λ i. ReadsRuns i left bits (option_map (λ rs. r0 ∷ rs) r) rest in
    let Q : List ℕ → Type 0 = λ ls. ReadsRuns count all_zeros bits0 (option_map (λ rs. ls ++ rs) r) rest in
    subst Q (sym push) (same r (completes _ rest (subst P (sym e) cons)))
  where
    same : (r : Option (List ℕ)) → ReadsRuns count all_zeros bits0 (option_map (λ rs. done ++ rs) (option_map (λ rs. r0 ∷ rs) r)) rest → ReadsRuns count all_zeros bits0 (option_map (λ rs. (done ++ r0 ∷ []) ++ rs) r) rest
    same None w = w
    same (Some rs) w = let P : List ℕ → Type 0 = λ t. ReadsRuns count all_zeros bits0 (Some t) rest in subst P (sym (append_assoc done (r0 ∷ []) rs)) w

pub RunsComplete-stop : (count all_zeros n m left : ℕ) (bits0 bits rest : List Bool) (done : List ℕ) → n ≡ suc (suc m) → RunsComplete count all_zeros n left bits0 bits done → Reads (λ r. r ≤ left) (word_at (run_before_list left)) bits None rest → ReadsRuns count all_zeros bits0 None rest
RunsComplete-stop count all_zeros n m left bits0 bits rest done e completes none =
    let P : ℕ → Type 0 = λ i. ReadsRuns i left bits None rest in
    completes None rest (subst P (sym e) (λ rs more is bad.
    let parts = runs_parts m left rs is in
    Reads-stop (λ r. r ≤ left) (word_at (run_before_list left)) (OthersAre m left) (others_text left) bits rest rest none (uncons rs) more parts.0 (bad ∙ ap (λ t. t ++ more) parts.1)))

pub RunsComplete-end : (count all_zeros n left : ℕ) (bits0 bits : List Bool) (done all : List ℕ) → n ≡ 1 → RunsComplete count all_zeros n left bits0 bits done → all ≡ done ++ left ∷ [] → ReadsRuns count all_zeros bits0 (Some all) bits
RunsComplete-end count all_zeros n left bits0 bits done all e completes push =
    let P : ℕ → Type 0 = λ i. ReadsRuns i left bits (Some (left ∷ [])) bits in
    let Q : List ℕ → Type 0 = λ t. ReadsRuns count all_zeros bits0 (Some t) bits in
    subst Q (sym push) (completes (Some (left ∷ [])) bits (subst P (sym e) ((omega arith, omega arith), refl)))
