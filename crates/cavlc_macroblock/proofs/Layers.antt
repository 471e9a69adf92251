-- Reading and writing a macroblock, its mb_type first.
use Rattle.std.proofs.Common.{◌≡◌, ◌⊎◌, inl, inr, ℕ, ◌+◌, ◌<◌, ◌≤◌, Bool, true, false, List, [], ◌∷◌, ◌++◌, length, replicate, Option, Some, None, refl, sym, ap, subst, ◌∙◌, lt-ltb, append_assoc, length-append, arith}
use Rattle.std.specs.Prelude.{All, if◌then◌else◌}
use Rattle.std.specs.List.{AllByRecursion}
use Rattle.std.specs.Option.{option_map}
use Rattle.std.proofs.lemmas.Bool.{ltb-true}
use Rattle.std.proofs.lemmas.List.Elements.{All-nil, All-cons, All-head, All-tail}
use Rattle.bit_texts.specs.Bits.{binary, bits_of}
use Rattle.bit_texts.specs.Cursor.{Cursor, cursor, Takes, Keeps}
use Rattle.bit_texts.specs.Readings.{◌>>=◌, Gives, Inverts, many_text, many_at}
use Rattle.bit_texts.specs.Texts.{IsPrefixFree, Reads, turns_text}
use Rattle.bit_texts.proofs.Bytes.{bits_of-cons}
use Rattle.bit_texts.proofs.Inverting.{bind_inverts, map_inverts, many_inverts, same_inverts, same_values, Takes-then, Takes-from_Keeps, IsPrefixFree-from_Inverts}
use Rattle.bit_texts.proofs.Numbers.{length-binary}
use Rattle.bit_texts.proofs.Reading.{same_rest}
use Rattle.exp_golomb.specs.Code.{U, IsIn, code, ue, zeros_of}
use Rattle.exp_golomb.specs.Element.{element_at}
use Rattle.exp_golomb.proofs.Fronts.{element-inverts}
use Rattle.h264_types.proofs.KindLaws.{named_pcm}
use Rattle.h264_types.specs.Kind.{is_i_pcm, is_skip}
use Rattle.h264_types.specs.SliceShape.{IsSliceShape}
use Rattle.h264_types.specs.Valid.{is_kind_in}
use Rattle.h264_types.specs.declared.macroblock.Mb.{Mb}
use Rattle.h264_types.specs.declared.macroblock.MbKind.{MbKind}
use Rattle.h264_types.specs.declared.macroblock.MbKind.TheVariants as kinds
use Rattle.h264_types.specs.declared.macroblock.MbKind.TheVariants.{Intra}
use Rattle.h264_types.specs.declared.slice_shape.SliceShape.{SliceShape}
use Rattle.cavlc_mb_residual.specs.declared.counts.Around.{Around}
use Rattle.cavlc_macroblock.specs.Macroblock.{IsIPcm, i_pcm, pcm_text, behind_type, macroblock_text}
use Rattle.cavlc_macroblock.specs.MacroblockLayer.{IsLayer, layer_text}
use Rattle.cavlc_macroblock.specs.MbType.{type_of, type_text, IsTypeIn}
use Rattle.cavlc_macroblock.specs.Reading.{samples_at, pcm_at, IsSent, ReadsMacroblock}
use Rattle.pcm_samples.specs.Alignment.{alignment, alignment_at}
use Rattle.pcm_samples.specs.Samples.{AreSamples}
use Rattle.pcm_samples.proofs.AlignmentLaws.{alignment_inverts}
use Rattle.cavlc_macroblock.proofs.LayerChain.{IsPrefixFree-layer}
use Rattle.cavlc_macroblock.proofs.TypeLaws.{IsPrefixFree-type}

pub ue_some : (value : ℕ) → 0 < length (ue value)
unfolding ue
ue_some value = omega (arith, length-append (replicate (zeros_of value) false) (binary (zeros_of value + 1) (value + 1)), length-binary (zeros_of value + 1) (value + 1))

-- ---- samples

bytes_are : (xs : List ℕ) → AllByRecursion (IsIn (U 8)) xs → All (λ sample. sample ≤ 255) xs
bytes_are [] h = All-nil (λ sample. sample ≤ 255)
bytes_are (x ∷ xs) h = let small : x < 256 = ltb-true x 256 h.0 in All-cons (λ sample. sample ≤ 255) x xs (omega arith) (bytes_are xs h.1)

bytes_fit : (xs : List ℕ) → All (λ sample. sample ≤ 255) xs → AllByRecursion (IsIn (U 8)) xs
bytes_fit [] h = tt
bytes_fit (x ∷ xs) h =
    let small : x ≤ 255 = All-head (λ sample. sample ≤ 255) x xs h in
    (lt-ltb x 256 (omega arith), bytes_fit xs (All-tail (λ sample. sample ≤ 255) x xs h))

bytes_text : (n : ℕ) (xs : List ℕ) → many_text (λ n. code (U 8)) n xs ≡ bits_of xs
unfolding turns_text
bytes_text n [] = refl
bytes_text n (x ∷ xs) = ap (λ t. binary 8 x ++ t) (bytes_text (n + length (binary 8 x)) xs) ∙ sym (bits_of-cons x xs)

pub samples_inverts : Inverts AreSamples (λ n. bits_of) samples_at
unfolding samples_at
samples_inverts =
    same_values (λ xs. (length xs ≡ 384) × AllByRecursion (IsIn (U 8)) xs) AreSamples (λ n. bits_of) (many_at 384 (element_at (U 8)))
    (λ xs q. record { count = q.0; bytes = bytes_are xs q.1 })
    (λ xs r. (r.count, bytes_fit xs r.bytes))
    (same_inverts (λ xs. (length xs ≡ 384) × AllByRecursion (IsIn (U 8)) xs) (many_text (λ n. code (U 8))) (λ n. bits_of) (many_at 384 (element_at (U 8)))
    (λ n xs q. bytes_text n xs)
    (many_inverts (IsIn (U 8)) (λ n. code (U 8)) (element_at (U 8)) 384 (element-inverts (U 8))))

-- ---- I_PCM

pub pcm_inverts : (field : Bool) → Inverts (IsIPcm field) pcm_text (pcm_at field)
unfolding pcm_at
pcm_inverts field =
    bind_inverts (IsIPcm field) (λ (x : Unit {0}). Unit {0}) (λ n x. alignment n) alignment_at (λ mb. tt) (λ n mb. alignment n) (λ n mb. bits_of mb.pcm) (λ x c. samples_at c >>= λ samples. Some (i_pcm field samples.0, samples.1))
    alignment_inverts (λ mb q. tt) (λ n mb q. refl)
    (λ x p. map_inverts AreSamples (λ mb. IsIPcm field mb × (tt ≡ x)) (λ n. bits_of) samples_at (i_pcm field) (λ mb. mb.pcm) (λ n mb. bits_of mb.pcm) samples_inverts
    (λ samples h. ((record { elements = refl; samples = h }, refl), refl))
    (λ mb q. (q.0.samples, sym q.0.elements))
    (λ n mb q. refl))

pub pcm_kind : (field : Bool) (mb : Mb) → IsIPcm field mb → mb.kind ≡ Intra 25
pcm_kind field mb is = ap (λ (m : Mb). m.kind) is.elements

-- ---- types

abbrev pub Typed : Type 0
Typed = MbKind × Bool

abbrev pub type_bits : SliceShape → Typed → List Bool
type_bits shape type = ue (type_of shape.kind type.0 type.1)

abbrev pub typed_of : Mb → Typed
typed_of mb = (mb.kind, mb.ref0)

sent_type : (shape : SliceShape) (field : Bool) (bound : ℕ) (mb : Mb) → IsSent shape field bound mb → IsTypeIn shape.kind (typed_of mb)
sent_type shape field bound mb is = record { kind = is.kind; sent = is.sent; ref0 = is.ref0 }

sent_pcm : (shape : SliceShape) (field : Bool) (bound : ℕ) (mb : Mb) → is_i_pcm mb.kind ≡ true → IsSent shape field bound mb → IsIPcm field mb
sent_pcm shape field bound mb e is = by is.elements
  where
    by : IsIPcm field mb ⊎ ((is_i_pcm mb.kind ≡ false) × IsLayer shape mb.kind mb.ref0 field bound mb) → IsIPcm field mb
    by (inl is) = is
    by (inr other) = absurd (cc (e, other.0))

pub sent_layer : (shape : SliceShape) (field : Bool) (bound : ℕ) (mb : Mb) → is_i_pcm mb.kind ≡ false → IsSent shape field bound mb → IsLayer shape mb.kind mb.ref0 field bound mb
sent_layer shape field bound mb e is = by is.elements
  where
    by : IsIPcm field mb ⊎ ((is_i_pcm mb.kind ≡ false) × IsLayer shape mb.kind mb.ref0 field bound mb) → IsLayer shape mb.kind mb.ref0 field bound mb
    by (inl is) = let bad : is_i_pcm mb.kind ≡ true = ap is_i_pcm (pcm_kind field mb is) in absurd (cc (e, bad))
    by (inr other) = other.1

behind_pcm : (shape : SliceShape) (around : Around) (pos : ℕ) (mb : Mb) → is_i_pcm mb.kind ≡ true → behind_type shape around pos mb ≡ pcm_text pos mb
behind_pcm shape around pos mb e = ap (λ b. if b then pcm_text pos mb else layer_text shape around mb.kind mb.ref0 mb) e

behind_layer : (shape : SliceShape) (around : Around) (pos : ℕ) (mb : Mb) → is_i_pcm mb.kind ≡ false → behind_type shape around pos mb ≡ layer_text shape around mb.kind mb.ref0 mb
behind_layer shape around pos mb e = ap (λ b. if b then pcm_text pos mb else layer_text shape around mb.kind mb.ref0 mb) e

-- ---- the text of a macroblock

text_parts : (shape : SliceShape) (around : Around) (pos : ℕ) (mb : Mb) (rest : List Bool) → macroblock_text shape around pos mb ++ rest ≡ type_text shape.kind mb ++ (behind_type shape around (pos + length (type_text shape.kind mb)) mb ++ rest)
unfolding macroblock_text
text_parts shape around pos mb rest = append_assoc (type_text shape.kind mb) (behind_type shape around (pos + length (type_text shape.kind mb)) mb) rest

-- where the text of a macroblock begins the bits, its type is read first, and what stands behind it follows
begins_type : (shape : SliceShape) (field : Bool) (around : Around) (bound : ℕ) (c d : Cursor) (type : Typed) (mb : Mb) (more : List Bool) → IsTypeIn shape.kind type → Takes (type_bits shape type) c d → IsSent shape field bound mb → c.left ≡ macroblock_text shape around c.taken mb ++ more
    → (typed_of mb ≡ type) × (d.left ≡ behind_type shape around d.taken mb ++ more)
begins_type shape field around bound c d type mb more typed took is e =
    let far : ℕ = c.taken + length (type_text shape.kind mb) in
    let both = same_rest (IsTypeIn shape.kind) (type_bits shape) (IsPrefixFree-type shape.kind) (typed_of mb) type (behind_type shape around far mb ++ more) d.left (sent_type shape field bound mb is) typed (sym (text_parts shape around c.taken mb more) ∙ sym e ∙ took.parts) in
    let same : far ≡ d.taken = ap (λ t. c.taken + length (type_bits shape t)) both.0 ∙ sym took.count in
    (both.0, sym both.1 ∙ ap (λ n. behind_type shape around n mb ++ more) same)

-- no text begins another one
pub IsPrefixFree-macroblock : (shape : SliceShape) (field : Bool) (around : Around) (bound pos : ℕ) → IsSliceShape shape → bound ≤ 20 → IsPrefixFree (IsSent shape field bound) (macroblock_text shape around pos)
IsPrefixFree-macroblock shape field around bound pos is_shape within v w x y p q e =
    let far : ℕ = pos + length (type_text shape.kind v) in
    let c : Cursor = cursor pos (macroblock_text shape around pos v ++ x) in
    let d : Cursor = cursor far (behind_type shape around far v ++ x) in
    let other = begins_type shape field around bound c d (typed_of v) w y (sent_type shape field bound v p) (record { parts = text_parts shape around pos v x; count = refl }) q e in
    by (is_i_pcm v.kind) refl far other.0 other.1
  where
    by : (b : Bool) → is_i_pcm v.kind ≡ b → (far : ℕ) → typed_of w ≡ typed_of v → behind_type shape around far v ++ x ≡ behind_type shape around far w ++ y → v ≡ w
    by true is far type same =
        let is' : is_i_pcm w.kind ≡ true = ap (λ (t : Typed). is_i_pcm t.0) type ∙ is in
        IsPrefixFree-from_Inverts (IsIPcm field) pcm_text (pcm_at field) (pcm_inverts field) far v w x y (sent_pcm shape field bound v is p) (sent_pcm shape field bound w is' q)
        (ap (λ t. t ++ x) (sym (behind_pcm shape around far v is)) ∙ same ∙ ap (λ t. t ++ y) (behind_pcm shape around far w is'))
    by false is far type same =
        let is' : is_i_pcm w.kind ≡ false = ap (λ (t : Typed). is_i_pcm t.0) type ∙ is in
        let P : Typed → Type 0 = λ t. IsLayer shape t.0 t.1 field bound w in
        IsPrefixFree-layer shape around v.kind v.ref0 field bound is_shape within v w x y (sent_layer shape field bound v is p) (subst P type (sent_layer shape field bound w is' q))
        (ap (λ t. t ++ x) (sym (behind_layer shape around far v is)) ∙ same ∙ ap (λ t. t ++ y) (behind_layer shape around far w is') ∙ ap (λ (t : Typed). layer_text shape around t.0 t.1 w ++ y) type)

-- ---- reading a macroblock

-- no mb_type stands here
pub no_type : (shape : SliceShape) (field : Bool) (around : Around) (bound : ℕ) (c : Cursor) (mid : List Bool) (mb : Mb) (e : Cursor) → Reads (IsTypeIn shape.kind) (type_bits shape) c.left None mid → ReadsMacroblock shape field around bound c None mb e
no_type shape field around bound c mid mb e none v more is same =
    none (typed_of v) (behind_type shape around (c.taken + length (type_text shape.kind v)) v ++ more) (sent_type shape field bound v is) (same ∙ text_parts shape around c.taken v more)

-- what was read behind a type
whole : (shape : SliceShape) (around : Around) (c d e : Cursor) (type : Typed) (mb : Mb) (text : List Bool) → typed_of mb ≡ type → Takes (type_bits shape type) c d → behind_type shape around d.taken mb ≡ text → Takes text d e → Takes (macroblock_text shape around c.taken mb) c e
unfolding macroblock_text
whole shape around c d e type mb text same first behind second =
    let first' : Takes (type_text shape.kind mb) c d = subst (λ t. Takes (type_bits shape t) c d) (sym same) first in
    let far : behind_type shape around (c.taken + length (type_text shape.kind mb)) mb ≡ text = ap (λ n. behind_type shape around n mb) (sym first'.count) ∙ behind in
    Takes-then c (type_text shape.kind mb) d (behind_type shape around (c.taken + length (type_text shape.kind mb)) mb) e first' (subst (λ t. Takes t d e) (sym far) second)

-- I_PCM
pub reads_pcm : (shape : SliceShape) (field : Bool) (around : Around) (bound : ℕ) → (field ≡ true → shape.mbaff ≡ true) → (c d : Cursor) (type : Typed) → IsTypeIn shape.kind type → Takes (type_bits shape type) c d → is_i_pcm type.0 ≡ true
    → (result : Option (Unit {0})) (mb : Mb) (e : Cursor) → Gives (option_map (λ (_ : Unit {0}). mb) result) e (pcm_at field d) → ReadsMacroblock shape field around bound c result mb e
reads_pcm shape field around bound pair c d type typed took pcm None mb e none = λ v more is same.
    let b = begins_type shape field around bound c d type v more typed took is same in
    let k : is_i_pcm v.kind ≡ true = ap (λ (t : Typed). is_i_pcm t.0) b.0 ∙ pcm in
    let there : pcm_at field d ≡ Some (v, cursor (d.taken + length (pcm_text d.taken v)) more) =
    ap (λ l. pcm_at field (cursor d.taken l)) (b.1 ∙ ap (λ t. t ++ more) (behind_pcm shape around d.taken v k)) ∙ (pcm_inverts field).again d.taken v more (sent_pcm shape field bound v k is) in
    absurd (cc (there, none))
reads_pcm shape field around bound pair c d type typed took pcm (Some x) mb e some =
    let given = (pcm_inverts field).takes d mb e some in
    let kind : mb.kind ≡ type.0 = pcm_kind field mb given.0 ∙ sym (named_pcm type.0 pcm) in
    let ref0 : mb.ref0 ≡ false = ap (λ (m : Mb). m.ref0) given.0.elements in
    let plain : type.1 ≡ false = not_ref0 type.0 type.1 (named_pcm type.0 pcm) typed.ref0 in
    let same : typed_of mb ≡ type = ap (λ k. (k, mb.ref0)) kind ∙ ap (λ b. (type.0, b)) (ref0 ∙ sym plain) in
    let is : IsSent shape field bound mb = record {
      kind = ap (is_kind_in shape.kind) kind ∙ typed.kind;
      sent = ap is_skip kind ∙ typed.sent;
      ref0 = λ set. absurd (cc (ref0, set));
      pair = pair;
      elements = inl given.0;
    } in
    (is, whole shape around c d e type mb (pcm_text d.taken mb) same took (behind_pcm shape around d.taken mb (ap is_i_pcm kind ∙ pcm)) given.1)
  where
    not_ref0 : (kind : MbKind) (set : Bool) → kind ≡ Intra 25 → (set ≡ true → kind ≡ kinds.P 3) → set ≡ false
    not_ref0 kind true e h = let bad = h refl in absurd (cc (e, bad))
    not_ref0 kind false e h = refl

-- another type
pub reads_layer : (shape : SliceShape) (field : Bool) (around : Around) (bound : ℕ) → (field ≡ true → shape.mbaff ≡ true) → (c d : Cursor) (type : Typed) → IsTypeIn shape.kind type → Takes (type_bits shape type) c d → is_i_pcm type.0 ≡ false
    → (result : Option (Unit {0})) (mb : Mb) (e : Cursor) → Reads (IsLayer shape type.0 type.1 field bound) (layer_text shape around type.0 type.1) d.left (option_map (λ (_ : Unit {0}). mb) result) e.left → Keeps d e → ReadsMacroblock shape field around bound c result mb e
reads_layer shape field around bound pair c d type typed took other None mb e none keeps = λ v more is same.
    let b = begins_type shape field around bound c d type v more typed took is same in
    let k : is_i_pcm v.kind ≡ false = ap (λ (t : Typed). is_i_pcm t.0) b.0 ∙ other in
    let P : Typed → Type 0 = λ t. IsLayer shape t.0 t.1 field bound v in
    none v more (subst P b.0 (sent_layer shape field bound v k is)) (b.1 ∙ ap (λ t. t ++ more) (behind_layer shape around d.taken v k) ∙ ap (λ (t : Typed). layer_text shape around t.0 t.1 v ++ more) b.0)
reads_layer shape field around bound pair c d type typed took other (Some x) mb e some keeps =
    let same : typed_of mb ≡ type = ap (λ (m : Mb). (m.kind, m.ref0)) some.0.absent in
    let k : is_i_pcm mb.kind ≡ false = ap (λ (t : Typed). is_i_pcm t.0) same ∙ other in
    let P : Typed → Type 0 = λ t. IsLayer shape t.0 t.1 field bound mb in
    let Q : Typed → Type 0 = λ t. IsTypeIn shape.kind t in
    let type' = subst Q (sym same) typed in
    let is : IsSent shape field bound mb = record { kind = type'.kind; sent = type'.sent; ref0 = type'.ref0; pair = pair; elements = inr (k, subst P (sym same) some.0) } in
    (is, whole shape around c d e type mb (layer_text shape around type.0 type.1 mb) same took (behind_layer shape around d.taken mb k ∙ ap (λ (t : Typed). layer_text shape around t.0 t.1 mb) same) (Takes-from_Keeps (layer_text shape around type.0 type.1 mb) d e some.1 keeps))

-- ---- writing a macroblock

pub written_pcm : (shape : SliceShape) (around : Around) (pos pos' : ℕ) (mb : Mb) → pos ≡ pos' → true ≡ is_i_pcm mb.kind → pcm_text pos mb ≡ behind_type shape around pos' mb
written_pcm shape around pos pos' mb e is = ap (λ n. pcm_text n mb) e ∙ sym (behind_pcm shape around pos' mb (sym is))

pub written_layer : (shape : SliceShape) (around : Around) (pos : ℕ) (mb : Mb) → false ≡ is_i_pcm mb.kind → layer_text shape around mb.kind mb.ref0 mb ≡ behind_type shape around pos mb
written_layer shape around pos mb is = sym (behind_layer shape around pos mb (sym is))

-- it has some bits
pub text_some : (shape : SliceShape) (around : Around) (pos : ℕ) (mb : Mb) → 0 < length (macroblock_text shape around pos mb)
unfolding macroblock_text
text_some shape around pos mb =
    omega (arith, ue_some (type_of shape.kind mb.kind mb.ref0), length-append (type_text shape.kind mb) (behind_type shape around (pos + length (type_text shape.kind mb)) mb))
