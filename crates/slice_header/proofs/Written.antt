-- An element that is sent under a condition is the given one.
use Rattle.std.proofs.Common.{◌≡◌, ℕ, Bool, true, false, cond, List, refl, subst}
use Rattle.bit_texts.specs.Texts.{Appended, when_text}
use Rattle.bit_texts.proofs.Writing.{Appended-same}
use Rattle.exp_golomb.specs.Code.{ue, Ue}
use Rattle.header_parts.specs.When.{code_when}
use Rattle.ref_pic_lists.proofs.Written.{Stopped}

init_text : (b needed : Bool) (idc value : ℕ) → needed ≡ b → value ≡ idc → when_text needed ue value ≡ code_when b (Ue 2) (cond b idc 0)
init_text b needed idc value e k = rw (e, k) (at b)
  where
    at : (b : Bool) → when_text b ue idc ≡ code_when b (Ue 2) (cond b idc 0)
    at true = refl
    at false = refl

pub init_appended : {old new : List Bool} (b needed : Bool) (idc value : ℕ) → needed ≡ b → value ≡ idc → Appended old new (when_text needed ue value) → Appended old new (code_when b (Ue 2) (cond b idc 0))
init_appended {old} {new} b needed idc value e k h = Appended-same old new _ _ (init_text b needed idc value e k) h

pub init_stopped : {old new : List Bool} (b needed : Bool) (idc value : ℕ) → needed ≡ b → value ≡ idc → Stopped old new (when_text needed ue value) → Stopped old new (code_when b (Ue 2) (cond b idc 0))
init_stopped {old} {new} b needed idc value e k h = subst (λ t. Stopped old new t) (init_text b needed idc value e k) h
