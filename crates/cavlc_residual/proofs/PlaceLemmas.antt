-- Levels other than 0 are put at their places in a block of levels 0, while the runs behind them are read.
use Rattle.std.proofs.Common.{◌≡◌, ℕ, zero, suc, ◌+◌, ◌-◌, ◌<◌, ◌≤◌, ℤ, pos, Bool, List, [], ◌∷◌, ◌++◌, length, take, get_or, Some, None, Option, refl, sym, ap, ◌∙◌, subst, arith, length-append, append_assoc, zero-add}
use Rattle.std.specs.Prelude.{slice_set}
use Rattle.std.proofs.lemmas.List.{length-replicate, length-take-le, take_more, take_all}
use Rattle.code_tables.specs.Codes.{word_at}
use Rattle.code_tables.specs.RunBefore.{run_before_list}
use Rattle.bit_texts.specs.Texts.{Reads}
use Rattle.cavlc_residual.specs.Parts.{scan_of, ReadsPlaced}
use Rattle.cavlc_residual.proofs.ScanLemmas.{zeros}
use Rattle.cavlc_residual.proofs.RunLemmas.{RunsComplete, RunsComplete-start, RunsComplete-turn, RunsComplete-stop, RunsComplete-end}

scan-push : (ls : List ℤ) (rs : List ℕ) (l : ℤ) (r : ℕ) → length ls ≡ length rs → scan_of (ls ++ l ∷ []) (rs ++ r ∷ []) ≡ zeros r ++ (l ∷ scan_of ls rs)
scan-push [] [] l r e = refl
scan-push [] (q ∷ rs) l r e = absurd (omega arith)
scan-push (x ∷ ls) [] l r e = absurd (omega arith)
scan-push (x ∷ ls) (q ∷ rs) l r e = ap (λ t. t ++ (zeros q ++ x ∷ [])) (scan-push ls rs l r (omega arith)) ∙ append_assoc (zeros r) (l ∷ scan_of ls rs) (zeros q ++ x ∷ [])

set_zeros : (m : ℕ) (l : ℤ) (xs : List ℤ) → slice_set (zeros (suc m) ++ xs) m l ≡ zeros m ++ l ∷ xs
set_zeros zero l xs = refl
set_zeros (suc m) l xs = ap (λ t. pos 0 ∷ t) (set_zeros m l xs)

zeros-add : (m n : ℕ) → zeros (m + n) ≡ zeros m ++ zeros n
zeros-add zero n = ap zeros (zero-add n)
zeros-add (suc m) n = let more : suc m + n ≡ suc (m + n) = omega arith in ap zeros more ∙ ap (λ t. pos 0 ∷ t) (zeros-add m n)

-- the first i levels stand at their places, behind the zeros that are left and room for the others
pub record RunsPlaced (ls : List ℤ) (all_zeros size i left : ℕ) (bits0 bits : List Bool) (block : List ℤ) : Type 0 where
  pub runs : List ℕ
  pub count : length runs ≡ i
  pub within : left ≤ all_zeros
  pub completes : RunsComplete (length ls) all_zeros (length ls - i) left bits0 bits runs
  pub block_is : block ≡ zeros (length ls - i + left) ++ (scan_of (take i ls) runs ++ zeros (size - (length ls + all_zeros)))

pub RunsPlaced-start : (ls : List ℤ) (all_zeros size : ℕ) (bits : List Bool) (block : List ℤ) → length ls + all_zeros ≤ size → block ≡ zeros size → RunsPlaced ls all_zeros size 0 all_zeros bits bits block
RunsPlaced-start ls all_zeros size bits block fits clear =
    let all : length ls - 0 ≡ length ls = omega arith in
    let P : ℕ → Type 0 = λ n. RunsComplete (length ls) all_zeros n all_zeros bits bits [] in
    let parts : size ≡ length ls - 0 + all_zeros + (size - (length ls + all_zeros)) = omega arith in
    record {
      runs = [];
      count = refl;
      within = omega arith;
      completes = subst P (sym all) (RunsComplete-start (length ls) all_zeros bits);
      block_is = clear ∙ ap zeros parts ∙ zeros-add (length ls - 0 + all_zeros) (size - (length ls + all_zeros));
    }

pub RunsPlaced-room : (ls : List ℤ) (all_zeros size i left : ℕ) (bits0 bits : List Bool) (block : List ℤ) → i < length ls → RunsPlaced ls all_zeros size i left bits0 bits block → length ls - 1 - i + left < length block
RunsPlaced-room ls all_zeros size i left bits0 bits block h placed =
    omega (arith, ap length placed.block_is, length-append (zeros (length ls - i + left)) (scan_of (take i ls) placed.runs ++ zeros (size - (length ls + all_zeros))), length-replicate (length ls - i + left) (pos 0), h)

-- one level more, and the run behind it
placed_next : (ls : List ℤ) (rs : List ℕ) (i left r p a : ℕ) (l : ℤ) (tail block new : List ℤ) → i < length ls → length rs ≡ i → block ≡ zeros (length ls - i + left) ++ (scan_of (take i ls) rs ++ tail) → l ≡ get_or ls i (pos 0) → p ≡ length ls - 1 - i + left → new ≡ slice_set block p l → p ≡ a + r → new ≡ zeros a ++ (scan_of (take (i + 1) ls) (rs ++ r ∷ []) ++ tail)
placed_next ls rs i left r p a l tail block new h count is level at set split =
    let front = scan_of (take i ls) rs in
    let room : length ls - i + left ≡ suc p = omega (arith, at, h) in
    let here : new ≡ zeros p ++ l ∷ (front ++ tail) =
    set ∙ ap (λ b. slice_set b p l) (is ∙ ap (λ n. zeros n ++ (front ++ tail)) room) ∙ set_zeros p l (front ++ tail) in
    let apart : new ≡ zeros a ++ (zeros r ++ (l ∷ (front ++ tail))) =
    here ∙ ap (λ t. t ++ l ∷ (front ++ tail)) (ap zeros split ∙ zeros-add a r) ∙ append_assoc (zeros a) (zeros r) (l ∷ (front ++ tail)) in
    let more : take (i + 1) ls ≡ take i ls ++ l ∷ [] = take_more ls i (pos 0) h ∙ ap (λ x. take i ls ++ x ∷ []) (sym level) in
    let grown : scan_of (take (i + 1) ls) (rs ++ r ∷ []) ≡ zeros r ++ (l ∷ front) =
    ap (λ t. scan_of t (rs ++ r ∷ [])) more ∙ scan-push (take i ls) rs l r (length-take-le i ls (omega arith) ∙ sym count) in
    apart ∙ ap (λ t. zeros a ++ t) (sym (append_assoc (zeros r) (l ∷ front) tail) ∙ ap (λ t. t ++ tail) (sym grown))

pub RunsPlaced-next : (ls : List ℤ) (all_zeros size i left r p : ℕ) (l : ℤ) (bits0 bits mid : List Bool) (block new : List ℤ) → i < length ls - 1 → length ls + all_zeros ≤ 16 → RunsPlaced ls all_zeros size i left bits0 bits block → (r ≤ left) × (bits ≡ word_at (run_before_list left) r ++ mid) → l ≡ get_or ls i (pos 0) → p ≡ length ls - 1 - i + left → new ≡ slice_set block p l → RunsPlaced ls all_zeros size (i + 1) (left - r) bits0 mid new
RunsPlaced-next ls all_zeros size i left r p l bits0 bits mid block new h fits placed run level at set =
    record {
      runs = placed.runs ++ r ∷ [];
      count = length-append placed.runs (r ∷ []) ∙ ap (λ n. n + 1) placed.count;
      within = omega (arith, placed.within);
      completes = RunsComplete-turn (length ls) all_zeros (length ls - i) (length ls - (i + 1)) left r bits0 bits mid placed.runs (placed.runs ++ r ∷ []) (omega (arith, placed.within)) (omega arith) (omega arith) placed.completes run refl;
      block_is = placed_next ls placed.runs i left r p (length ls - (i + 1) + (left - r)) l (zeros (size - (length ls + all_zeros))) block new (omega arith) placed.count placed.block_is level at set (omega (arith, at, run.0, h));
    }

pub RunsPlaced-stop : (ls : List ℤ) (all_zeros size i left : ℕ) (bits0 bits mid rest : List Bool) (block : List ℤ) → i < length ls - 1 → RunsPlaced ls all_zeros size i left bits0 bits block → Reads (λ r. r ≤ left) (word_at (run_before_list left)) bits None mid → ReadsPlaced ls all_zeros size bits0 None rest
RunsPlaced-stop ls all_zeros size i left bits0 bits mid rest block h placed none =
    RunsComplete-stop (length ls) all_zeros (length ls - i) (length ls - (i + 2)) left bits0 bits rest placed.runs (omega arith) placed.completes none

pub RunsPlaced-end : (ls : List ℤ) (all_zeros size i left : ℕ) (l : ℤ) (bits0 bits : List Bool) (block new : List ℤ) → i + 1 ≡ length ls → RunsPlaced ls all_zeros size i left bits0 bits block → l ≡ get_or ls i (pos 0) → new ≡ slice_set block left l → ReadsPlaced ls all_zeros size bits0 (Some new) bits
RunsPlaced-end ls all_zeros size i left l bits0 bits block new end placed level set =
    let at : left ≡ length ls - 1 - i + left = omega (arith, end) in
    let whole : left ≡ 0 + left = omega arith in
    let all : take (i + 1) ls ≡ ls = take_all (i + 1) ls (omega (arith, end)) in (
      placed.runs ++ left ∷ [],
      RunsComplete-end (length ls) all_zeros (length ls - i) left bits0 bits placed.runs (placed.runs ++ left ∷ []) (omega (arith, end)) placed.completes refl,
      placed_next ls placed.runs i left left left 0 l (zeros (size - (length ls + all_zeros))) block new (omega (arith, end)) placed.count placed.block_is level at set whole
          ∙ ap (λ t. scan_of t (placed.runs ++ left ∷ []) ++ zeros (size - (length ls + all_zeros))) all,
    )

pub ReadsPlaced-None : (ls : List ℤ) (all_zeros size : ℕ) (bits : List Bool) (o : Option (List ℤ)) (rest : List Bool) → o ≡ None → ReadsPlaced ls all_zeros size bits None rest → ReadsPlaced ls all_zeros size bits o rest
ReadsPlaced-None ls all_zeros size bits o rest e none = let P : Option (List ℤ) → Type 0 = λ r. ReadsPlaced ls all_zeros size bits r rest in subst P (sym e) none
