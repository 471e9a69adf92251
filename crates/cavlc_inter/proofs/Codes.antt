-- The texts of single elements begin no other.
use Rattle.std.proofs.Common.{◌≡◌, ℕ, ◌≤◌, ℤ, pos, negsuc, Bool, List, [], ◌∷◌, ◌++◌, length, get_or, None, refl, sym, ap, ◌∙◌, append_assoc, arith}
use Rattle.bit_texts.specs.Texts.{Reads, IsPrefixFree}
use Rattle.bit_texts.proofs.Reading.{IsPrefixFree-same, same_rest}
use Rattle.exp_golomb.specs.Code.{Ue, Te, Se, IsIn, ue, te, se}
use Rattle.exp_golomb.proofs.Fronts.{IsPrefixFree-code, in_ue, in_se}
use Rattle.cavlc_inter.specs.InterPrediction.{IsDifference, IsVector, vector_text}

pub IsPrefixFree-ue : (greatest : ℕ) → greatest ≤ 4294967294 → IsPrefixFree (λ v. v ≤ greatest) ue
IsPrefixFree-ue greatest h = IsPrefixFree-same (IsIn (Ue greatest)) (λ v. v ≤ greatest) ue (λ v le. in_ue greatest v le h) (IsPrefixFree-code (Ue greatest))

pub IsPrefixFree-te : (greatest : ℕ) → greatest ≤ 4294967294 → IsPrefixFree (λ v. v ≤ greatest) (te greatest)
IsPrefixFree-te greatest h = IsPrefixFree-same (IsIn (Te greatest)) (λ v. v ≤ greatest) (te greatest) (λ v le. in_ue greatest v le h) (IsPrefixFree-code (Te greatest))

pub IsPrefixFree-difference : IsPrefixFree IsDifference se
IsPrefixFree-difference = IsPrefixFree-same (IsIn (Se (negsuc 32766) (pos 32767))) IsDifference se (λ v h. in_se (negsuc 32766) (pos 32767) v h.0 h.1 (omega arith) (omega arith)) (IsPrefixFree-code (Se (negsuc 32766) (pos 32767)))

pub two_are : (v w : List ℤ) → length v ≡ 2 → length w ≡ 2 → get_or v 0 (pos 0) ≡ get_or w 0 (pos 0) → get_or v 1 (pos 0) ≡ get_or w 1 (pos 0) → v ≡ w
two_are [] w h k e f = absurd (omega arith)
two_are (a ∷ []) w h k e f = absurd (omega arith)
two_are (a ∷ b ∷ c ∷ v) w h k e f = absurd (omega arith)
two_are (a ∷ b ∷ []) [] h k e f = absurd (omega arith)
two_are (a ∷ b ∷ []) (x ∷ []) h k e f = absurd (omega arith)
two_are (a ∷ b ∷ []) (x ∷ y ∷ z ∷ w) h k e f = absurd (omega arith)
two_are (a ∷ b ∷ []) (x ∷ y ∷ []) h k e f = cc

pub IsPrefixFree-vector : IsPrefixFree IsVector vector_text
IsPrefixFree-vector v w x y p q e =
    let parts : se (get_or v 0 (pos 0)) ++ (se (get_or v 1 (pos 0)) ++ x) ≡ se (get_or w 0 (pos 0)) ++ (se (get_or w 1 (pos 0)) ++ y) =
    sym (append_assoc (se (get_or v 0 (pos 0))) (se (get_or v 1 (pos 0))) x) ∙ e ∙ append_assoc (se (get_or w 0 (pos 0))) (se (get_or w 1 (pos 0))) y in
    let first = same_rest IsDifference se IsPrefixFree-difference (get_or v 0 (pos 0)) (get_or w 0 (pos 0)) _ _ p.x q.x parts in
    two_are v w p.size q.size first.0 (IsPrefixFree-difference (get_or v 1 (pos 0)) (get_or w 1 (pos 0)) x y p.y q.y first.1)

-- ---- a vector, x and then y

pub vector_is_read : (x y : ℤ) (left mid rest : List Bool) → IsDifference x × (left ≡ se x ++ mid) → IsDifference y × (mid ≡ se y ++ rest) → IsVector (x ∷ y ∷ []) × (left ≡ vector_text (x ∷ y ∷ []) ++ rest)
vector_is_read x y left mid rest first second = (
  record { size = refl; x = first.0; y = second.0 },
  first.1 ∙ ap (λ t. se x ++ t) second.1 ∙ sym (append_assoc (se x) (se y) rest),
)

pub no_second : (x : ℤ) (left mid rest : List Bool) → IsDifference x × (left ≡ se x ++ mid) → Reads IsDifference se mid None rest → Reads IsVector vector_text left None rest
no_second x left mid rest first none = λ v more is bad.
    let both = same_rest IsDifference se IsPrefixFree-difference x (get_or v 0 (pos 0)) mid (se (get_or v 1 (pos 0)) ++ more) first.0 is.x (sym first.1 ∙ bad ∙ append_assoc (se (get_or v 0 (pos 0))) (se (get_or v 1 (pos 0))) more) in
    none (get_or v 1 (pos 0)) more is.y both.1
