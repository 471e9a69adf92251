-- Reading a value part by part: Q says what is known of the value so far.
use Rattle.std.proofs.Common.{◌≡◌, Bool, List, ◌++◌, Option, Some, None, refl, sym, ap, ◌∙◌, append_assoc}
use Rattle.bit_texts.specs.Texts.{Reads, IsPrefixFree}
use Rattle.bit_texts.proofs.Reading.{same_rest}

-- A part was read, and then the others, which begin with a given part.
pub Reads-part : {M A : Type 0} (Q : M → Type 0) (P : A → Type 0) (text : A → List Bool) (part : M → A) (part_text rest_text : M → List Bool)
    → IsPrefixFree P text → ((m : M) → Q m → P (part m)) → ((m : M) → Q m → part_text m ≡ text (part m))
    → (a : A) (left mid : List Bool) → P a × (left ≡ text a ++ mid) → (r : Option M) (rest : List Bool)
    → Reads (λ m. Q m × (part m ≡ a)) rest_text mid r rest → Reads Q (λ m. part_text m ++ rest_text m) left r rest
Reads-part Q P text part part_text rest_text free within same a left mid read None rest none =
    λ m more q bad.
    let parts : text a ++ mid ≡ text (part m) ++ (rest_text m ++ more) = sym read.1 ∙ bad ∙ append_assoc (part_text m) (rest_text m) more ∙ ap (λ t. t ++ (rest_text m ++ more)) (same m q) in
    let both = same_rest P text free a (part m) mid (rest_text m ++ more) read.0 (within m q) parts in
    none m more (q, sym both.0) both.1
Reads-part Q P text part part_text rest_text free within same a left mid read (Some m) rest some = (
  some.0.0,
  read.1 ∙ ap (λ t. text a ++ t) some.1 ∙ ap (λ b. text b ++ (rest_text m ++ rest)) (sym some.0.1) ∙ ap (λ t. t ++ (rest_text m ++ rest)) (sym (same m some.0.0))
      ∙ sym (append_assoc (part_text m) (rest_text m) rest),
)

-- No text of that part begins the bits.
pub Reads-no_part : {M A : Type 0} (Q : M → Type 0) (P : A → Type 0) (text : A → List Bool) (part : M → A) (part_text rest_text : M → List Bool)
    → ((m : M) → Q m → P (part m)) → ((m : M) → Q m → part_text m ≡ text (part m))
    → (left mid rest : List Bool) → Reads P text left None mid → Reads Q (λ m. part_text m ++ rest_text m) left None rest
Reads-no_part Q P text part part_text rest_text within same left mid rest none =
    λ m more q bad. none (part m) (rest_text m ++ more) (within m q) (bad ∙ append_assoc (part_text m) (rest_text m) more ∙ ap (λ t. t ++ (rest_text m ++ more)) (same m q))

-- No text begins another one.
pub IsPrefixFree-part : {M A : Type 0} (Q : M → Type 0) (P : A → Type 0) (text : A → List Bool) (part : M → A) (part_text rest_text : M → List Bool)
    → IsPrefixFree P text → ((m : M) → Q m → P (part m)) → ((m : M) → Q m → part_text m ≡ text (part m))
    → ((a : A) → P a → IsPrefixFree (λ m. Q m × (part m ≡ a)) rest_text) → IsPrefixFree Q (λ m. part_text m ++ rest_text m)
IsPrefixFree-part Q P text part part_text rest_text free within same others v w x y p q e =
    let parts : text (part v) ++ (rest_text v ++ x) ≡ text (part w) ++ (rest_text w ++ y) =
    ap (λ t. t ++ (rest_text v ++ x)) (sym (same v p)) ∙ sym (append_assoc (part_text v) (rest_text v) x) ∙ e ∙ append_assoc (part_text w) (rest_text w) y ∙ ap (λ t. t ++ (rest_text w ++ y)) (same w q) in
    let both = same_rest P text free (part v) (part w) (rest_text v ++ x) (rest_text w ++ y) (within v p) (within w q) parts in
    others (part v) (within v p) v w x y (p, refl) (q, sym both.0) both.1
