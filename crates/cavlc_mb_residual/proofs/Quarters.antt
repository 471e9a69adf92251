-- The lists that are sent of a quarter of the luma levels, with either transform.
use Rattle.std.proofs.Common.{◌≡◌, ℕ, zero, suc, ◌+◌, ◌*◌, ◌/◌, ◌%◌, ◌<◌, ℤ, pos, Bool, true, false, List, [], ◌∷◌, length, get_or, drop, sym, ap, ◌∙◌, arith}
use Rattle.std.specs.Prelude.{if◌then◌else◌}
use Rattle.std.proofs.lemmas.List.{same_lists, get_or_default, get_or-take, get_or-drop, length-take-le, length-drop}
use Rattle.std.proofs.lemmas.List.Elements.{All-from_recursion}
use Rattle.h264_types.specs.Macroblock.{quarter_of, block_of, luma_block}
use Rattle.h264_types.specs.declared.macroblock.Mb.{Mb}
use Rattle.cavlc_mb_residual.specs.LumaBlocks.{sixteen, every_fourth, sent_block, luma_blocks}
use Rattle.h264_types.specs.Sizes.{HasSizes}
use Rattle.cavlc_mb_residual.proofs.Firsts.{length-sixteen, get_or-sixteen}

-- list k of a quarter, and where level i of the quarter stands: which list, and which place there
abbrev pub list_in : Bool → List ℤ → ℕ → List ℤ
list_in t8 levels k = if t8 then every_fourth levels k else block_of levels k

abbrev pub list_of : Bool → ℕ → ℕ
list_of t8 i = if t8 then i % 4 else i / 16

abbrev pub place_in : Bool → ℕ → ℕ
place_in t8 i = if t8 then i / 4 else i % 16

pub list_below : (t8 : Bool) (i : ℕ) → i < 64 → list_of t8 i < 4
list_below true i h = omega arith
list_below false i h = omega arith

pub place_below : (t8 : Bool) (i : ℕ) → i < 64 → place_in t8 i < 16
place_below true i h = omega arith
place_below false i h = omega arith

pub length-list : (t8 : Bool) (levels : List ℤ) (k : ℕ) → length levels ≡ 64 → k < 4 → length (list_in t8 levels k) ≡ 16
length-list true levels k e h = length-sixteen (λ j. get_or levels (4 * j + k) (pos 0))
length-list false levels k e h = length-take-le 16 (drop (16 * k) levels) (omega (arith, length-drop (16 * k) levels, e))

-- level k of list i of the 8x8 transform
pub level_of_turn : (levels : List ℤ) (i k : ℕ) → k < 16 → get_or (every_fourth levels i) k (pos 0) ≡ get_or levels (4 * k + i) (pos 0)
level_of_turn levels i k h = get_or-sixteen (λ j. get_or levels (4 * j + i) (pos 0)) k (pos 0) h

pub at_block : (levels : List ℤ) (k j : ℕ) (d : ℤ) → j < 16 → get_or (block_of levels k) j d ≡ get_or levels (16 * k + j) d
at_block levels k j d h = get_or-take 16 (drop (16 * k) levels) j d h ∙ get_or-drop (16 * k) levels j d

pub in_list : (t8 : Bool) (levels : List ℤ) (i : ℕ) → i < 64 → get_or (list_in t8 levels (list_of t8 i)) (place_in t8 i) (pos 0) ≡ get_or levels i (pos 0)
in_list true levels i h = level_of_turn levels (i % 4) (i / 4) (omega arith) ∙ ap (λ j. get_or levels j (pos 0)) (omega arith)
in_list false levels i h = at_block levels (i / 16) (i % 16) (pos 0) (omega arith) ∙ ap (λ j. get_or levels j (pos 0)) (omega arith)

-- a quarter is known by its lists
pub same_quarter : (t8 : Bool) (x y : List ℤ) → length x ≡ 64 → length y ≡ 64 → ((k : ℕ) → k < 4 → list_in t8 x k ≡ list_in t8 y k) → x ≡ y
same_quarter t8 x y e f same =
    same_lists x y (e ∙ sym f) (λ i d below.
    let inside : i < 64 = omega (arith, below, e) in
    let other : i < length y = omega (arith, inside, f) in
    get_or_default x i d (pos 0) below ∙ sym (in_list t8 x i inside) ∙ ap (λ (b : List ℤ). get_or b (place_in t8 i) (pos 0)) (same (list_of t8 i) (list_below t8 i inside)) ∙ in_list t8 y i inside ∙ get_or_default y i (pos 0) d other)

-- the four lists of x, which stand one after another, take turns in y
pub record TakeTurns (x y : List ℤ) : Type 0 where
  pub levels : (j : ℕ) → j < 64 → get_or y j (pos 0) ≡ get_or x (16 * (j % 4) + j / 4) (pos 0)
  pub size : length x ≡ 64

turns_are_lists : (x y : List ℤ) (i : ℕ) → i < 4 → TakeTurns x y → every_fourth y i ≡ block_of x i
turns_are_lists x y i h turn =
    let e = turn.size in
    same_lists (every_fourth y i) (block_of x i) (size ∙ sym (length-list false x i e h)) (λ k d below.
    let inside : k < 16 = omega (arith, below, size) in
    let other : k < length (block_of x i) = omega (arith, inside, length-list false x i e h) in
    let place : 16 * ((4 * k + i) % 4) + (4 * k + i) / 4 ≡ 16 * i + k = omega arith in
    get_or_default (every_fourth y i) k d (pos 0) below ∙ level_of_turn y i k inside ∙ turn.levels (4 * k + i) (omega arith) ∙ ap (λ j. get_or x j (pos 0)) place ∙ sym (at_block x i k (pos 0) inside) ∙ get_or_default (block_of x i) k (pos 0) d other)
  where
    size : length (every_fourth y i) ≡ 16
    size = length-sixteen (λ j. get_or y (4 * j + i) (pos 0))

-- ---- the sixteen lists of a macroblock

pub sixteen_is : {A : Type 0} (d : A) (f : ℕ → A) (xs : List A) → length xs ≡ 16 → ((n : ℕ) → n < 16 → get_or xs n d ≡ f n) → xs ≡ sixteen f
sixteen_is d f xs e same =
    same_lists xs (sixteen f) (e ∙ sym (length-sixteen f)) (λ n c below.
    let inside : n < 16 = omega (arith, below, e) in
    get_or_default xs n c d below ∙ same n inside ∙ sym (get_or-sixteen f n c inside))

pub same_sixteen : {A : Type 0} (f g : ℕ → A) → ((n : ℕ) → n < 16 → f n ≡ g n) → sixteen f ≡ sixteen g
same_sixteen f g same =
    sixteen_is (f 0) g (sixteen f) (length-sixteen f) (λ n below. get_or-sixteen f n (f 0) below ∙ same n below)

pub quarter_size : (mb : Mb) (q : ℕ) → q < 4 → HasSizes mb → length (quarter_of mb q) ≡ 64
quarter_size mb q h sizes = All-from_recursion (λ quarter. length quarter ≡ 64) mb.luma sizes.luma.1 q [] (omega (arith, h, sizes.luma.0))

-- list k of quarter q is the one that is sent of block 4q + k
pub list_at : (mb : Mb) (q k : ℕ) → q < 4 → k < 4 → list_in mb.t8 (quarter_of mb q) k ≡ get_or (luma_blocks mb) (4 * q + k) []
list_at mb q k row place =
    let n : ℕ = 4 * q + k in
    let same : n / 4 ≡ q = omega arith in
    let other : n % 4 ≡ k = omega arith in
    sym (ap (λ r. list_in mb.t8 (quarter_of mb r) (n % 4)) same ∙ ap (λ c. list_in mb.t8 (quarter_of mb q) c) other) ∙ sym (get_or-sixteen (sent_block mb) n [] (omega arith))

pub lists_placed : (mb : Mb) (a b c d : List ℤ) → mb.t8 ≡ true → TakeTurns (quarter_of mb 0) a → TakeTurns (quarter_of mb 1) b → TakeTurns (quarter_of mb 2) c → TakeTurns (quarter_of mb 3) d
    → luma_blocks (record mb { luma = a ∷ b ∷ c ∷ d ∷ [] }) ≡ sixteen (luma_block mb)
lists_placed mb a b c d e p q r s =
    let new : Mb = record mb { luma = a ∷ b ∷ c ∷ d ∷ [] } in
    same_sixteen (sent_block new) (luma_block mb) (λ n below.
    ap (λ t8. list_in t8 (quarter_of new (n / 4)) (n % 4)) e ∙ turns_are_lists (quarter_of mb (n / 4)) (quarter_of new (n / 4)) (n % 4) (omega arith) (at (n / 4) (omega (arith, below))))
  where
    at : (k : ℕ) → k < 4 → TakeTurns (quarter_of mb k) (get_or (a ∷ b ∷ c ∷ d ∷ []) k [])
    at zero h = p
    at (suc zero) h = q
    at (suc (suc zero)) h = r
    at (suc (suc (suc zero))) h = s
    at (suc (suc (suc (suc k)))) h = absurd (omega arith)
