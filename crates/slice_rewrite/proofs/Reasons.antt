-- A unit has one item, or is refused for one reason.
use Rattle.std.proofs.Common.{◌≡◌, ◌⊎◌, inl, inr, ℕ, List, [], drop, Option, Some, None, refl, sym, ap, subst, ◌∙◌, Bool, true, false, cond, eqb}
use Rattle.bit_texts.specs.Bits.{bits_of}
use Rattle.bit_texts.proofs.Inverting.{some_is}
use Rattle.exp_golomb.specs.EmulationPrevention.{IsEscape, payload_of}
use Rattle.exp_golomb.specs.Syntax.{Syntax, Done, Outcome, Found, Refused, NoText, Spells, outcome_of, ◌>>=◌, refused_where}
use Rattle.exp_golomb.proofs.Escapes.{payload_of-escaped, escaped-payload_of, one_payload}
use Rattle.exp_golomb.proofs.Syntaxes.{spelled}
use Rattle.h264_types.specs.declared.fault.Why.{Why}
use Rattle.h264_types.specs.declared.layer.Layer.{Layer}
use Rattle.h264_types.specs.declared.fault.Why.TheVariants.{Kind as BadKind, Escape, Sps as BadSps, Pps as BadPps}
use Rattle.init_table.specs.declared.table.InitTable.{InitTable}
use Rattle.param_sets.specs.Refusal.{Refusal, AboveLimit}
use Rattle.param_sets.specs.PictureParameterSet.{PpsText, pps_fields, pic_parameter_set}
use Rattle.param_sets.specs.SequenceParameterSet.{SpsText, sps_fields, is_above_limits, seq_parameter_set}
use Rattle.param_sets.specs.TrailingBits.{rbsp_trailing_bits, unread_bits}
use Rattle.param_sets.specs.Sets.{SetMaps, no_sets, find_sps, sps_put}
use Rattle.param_sets.specs.SpsCodes.{IsSps as AreSpsFields}
use Rattle.param_sets.specs.declared.pps.Pps.{Pps}
use Rattle.param_sets.specs.declared.sps.Sps.{Sps}
use Rattle.param_sets.proofs.SetLaws.{one_sps, one_pps, nothing_spelled}
use Rattle.param_sets.proofs.SetMapLaws.{last_found}
use Rattle.param_sets.proofs.SpsFound.{text_of_read}
use Rattle.param_sets.proofs.Spelled.{found_then, found_allowed, same_found}
use Rattle.param_sets.proofs.Trailing.{unread_spelled, trailing_spelled}
use Rattle.slice_rewrite.specs.declared.kinds.UnitKind.{UnitKind}
use Rattle.slice_rewrite.specs.declared.kinds.UnitKind.TheVariants.{Carried as IsCarried, Slice as IsSlice, Sps as IsSps, Pps as IsPps, Refused as IsRefused}
use Rattle.slice_rewrite.specs.Items.{header_of, kind_of, Item, Carried, TheSps, ThePps, TheSlice, Slice, put, IsSliceOf, IsItem}
use Rattle.slice_rewrite.specs.Verdict.{why_of, IsNoText, IsRefusedPayload, IsRefusedEscape, IsRefusedUnit, Refuses}
use Rattle.slice_rewrite.proofs.Slices.{no_text-once, no_text-found, no_slice-once, slice-once, slice-not_refused, slice-decided, AreInRange}

-- ## Texts of sets

abbrev found : {A : Type 0} → A → List Bool → Outcome Refusal A
found value rest = Found value rest

by_outcome : {A : Type 0} (none : Why) (syntax : Syntax Refusal A) (bits : List Bool) → ((value : A) (rest : List Bool) → Spells syntax bits (Found value rest) → rest ≡ []) → (o : Outcome Refusal A) → outcome_of syntax bits ≡ o
    → ((value : A) × Spells syntax bits (Found value [])) ⊎ ((why : Why) × IsNoText why_of none syntax bits why)
by_outcome none syntax bits ends (Found value rest) e =
    let text = spelled syntax bits (Found value rest) e (λ k. cc) in
    inl (value, subst (λ r. Spells syntax bits (Found value r)) (ends value rest text) text)
by_outcome none syntax bits ends (Refused cause) e = inr (why_of cause, inr (cause, refl, spelled syntax bits (Refused cause) e (λ k. cc)))
by_outcome none syntax bits ends NoText e = inr (none, inl (refl, nothing_spelled syntax bits e))

no_rest : {A : Type 0} (value other : A) (rest after : List Bool) → found value rest ≡ Found other after → after ≡ [] → rest ≡ []
no_rest value other rest after e none = (same_found value other rest after (found value rest) refl e).1 ∙ none

-- nothing stands behind a set
sps_ends : (bits : List Bool) (sps : Sps) (rest : List Bool) → Spells seq_parameter_set bits (Found sps rest) → rest ≡ []
unfolding seq_parameter_set
sps_ends bits sps rest h =
    let f = found_then sps_fields (λ s. unread_bits >>= λ others. refused_where (is_above_limits s) AboveLimit >>= λ within. Done (record s { rest = others })) bits sps rest h in
    let g = found_then unread_bits (λ others. refused_where (is_above_limits f.0) AboveLimit >>= λ within. Done (record f.0 { rest = others })) f.1 sps rest f.3 in
    let k = found_allowed (is_above_limits f.0) AboveLimit (λ within. Done (record f.0 { rest = g.0 })) g.1 sps rest g.3 in
    no_rest sps (record f.0 { rest = g.0 }) rest g.1 k.1 (unread_spelled f.1 g.0 g.1 g.2).1

pps_ends : (bits : List Bool) (pps : Pps) (rest : List Bool) → Spells pic_parameter_set bits (Found pps rest) → rest ≡ []
unfolding pic_parameter_set
pps_ends bits pps rest h =
    let f = found_then pps_fields (λ p. rbsp_trailing_bits >>= λ ends. Done p) bits pps rest h in
    let g = found_then rbsp_trailing_bits (λ ends. Done f.0) f.1 pps rest f.3 in
    no_rest pps f.0 rest g.1 g.3 (trailing_spelled f.1 g.0 g.1 g.2).3

-- ## One reason

payload-once : (to : Layer) (init : InitTable) (sets : SetMaps) (k : UnitKind) (header : ℕ) (payload : List ℕ) (v w : Why) → IsRefusedPayload to init sets k header payload v → IsRefusedPayload to init sets k header payload w → v ≡ w
payload-once to init sets IsSps header payload v w a b = no_text-once why_of BadSps seq_parameter_set (bits_of payload) v w a b
payload-once to init sets IsPps header payload v w a b = no_text-once why_of BadPps pic_parameter_set (bits_of payload) v w a b
payload-once to init sets IsSlice header payload v w a b = no_slice-once to init sets header (bits_of payload) v w a b
payload-once to init sets IsCarried header payload v w a b = absurd a
payload-once to init sets IsRefused header payload v w a b = absurd a

escape-once : (to : Layer) (init : InitTable) (sets : SetMaps) (k : UnitKind) (u : List ℕ) (v w : Why) → IsRefusedEscape to init sets k u v → IsRefusedEscape to init sets k u w → v ≡ w
escape-once to init sets k u v w (inl a) (inl b) = a.0 ∙ sym b.0
escape-once to init sets k u v w (inl a) (inr b) = absurd (a.1 b.0 b.1)
escape-once to init sets k u v w (inr a) (inl b) = absurd (b.1 a.0 a.1)
escape-once to init sets k u v w (inr a) (inr b) =
    let P : List ℕ → Type 0 = λ p. IsRefusedPayload to init sets k (header_of u) p w in
    payload-once to init sets k (header_of u) a.0 v w a.2 (subst P (one_payload b.0 a.0 (drop 1 u) b.1 a.1) b.2)

unit-once : (to : Layer) (init : InitTable) (sets : SetMaps) (k : UnitKind) (u : List ℕ) (v w : Why) → IsRefusedUnit to init sets k u v → IsRefusedUnit to init sets k u w → v ≡ w
unit-once to init sets IsRefused u v w a b = a ∙ sym b
unit-once to init sets IsSlice u v w a b = escape-once to init sets IsSlice u v w a b
unit-once to init sets IsCarried u v w a b = escape-once to init sets IsCarried u v w a b
unit-once to init sets IsSps u v w a b = escape-once to init sets IsSps u v w a b
unit-once to init sets IsPps u v w a b = escape-once to init sets IsPps u v w a b

pub refused-once : (to : Layer) (init : InitTable) (sets : SetMaps) (u : List ℕ) (v w : Why) → Refuses to init sets u v → Refuses to init sets u w → v ≡ w
refused-once to init sets u v w a b = unit-once to init sets (kind_of u) u v w a b

-- ## No item where a unit is refused

at_kind : (to : Layer) (init : InitTable) (sets : SetMaps) (u : List ℕ) (k : UnitKind) (w : Why) → kind_of u ≡ k → Refuses to init sets u w → IsRefusedUnit to init sets k u w
at_kind to init sets u k w e r = let P : UnitKind → Type 0 = λ x. IsRefusedUnit to init sets x u w in subst P e r

-- a unit with a payload is refused for the payload alone
by_payload : (to : Layer) (init : InitTable) (sets : SetMaps) (k : UnitKind) (u payload : List ℕ) (w : Why) → IsEscape payload (drop 1 u) → IsRefusedEscape to init sets k u w → IsRefusedPayload to init sets k (header_of u) payload w
by_payload to init sets k u payload w e (inl r) = absurd (r.1 payload e)
by_payload to init sets k u payload w e (inr r) = let P : List ℕ → Type 0 = λ p. IsRefusedPayload to init sets k (header_of u) p w in subst P (one_payload r.0 payload (drop 1 u) r.1 e) r.2

pub not-refused : (to : Layer) (init : InitTable) (sets : SetMaps) (u : List ℕ) (i : Item) (w : Why) → IsItem to init sets u i → Refuses to init sets u w → ⊥
not-refused to init sets u (Carried v) w is r = by_payload to init sets IsCarried u is.0 w is.1.1 (at_kind to init sets u IsCarried w is.1.0 r)
not-refused to init sets u (TheSps header sps) w is r =
    no_text-found why_of BadSps seq_parameter_set (bits_of is.0) w sps [] (by_payload to init sets IsSps u is.0 w is.1.1 (at_kind to init sets u IsSps w is.1.0 r)) is.3
not-refused to init sets u (ThePps header pps) w is r =
    no_text-found why_of BadPps pic_parameter_set (bits_of is.0) w pps [] (by_payload to init sets IsPps u is.0 w is.1.1 (at_kind to init sets u IsPps w is.1.0 r)) is.3
not-refused to init sets u (TheSlice s) w is r =
    slice-not_refused to init sets (header_of u) (bits_of is.0) s w is.2 (by_payload to init sets IsSlice u is.0 w is.1.1 (at_kind to init sets u IsSlice w is.1.0 r))

-- ## One item

two_kinds : {A : Type 0} (u : List ℕ) (k l : UnitKind) → kind_of u ≡ k → kind_of u ≡ l → (k ≡ l → ⊥) → A
two_kinds u k l a b ne = absurd (ne (sym a ∙ b))

same_sps : (u p q : List ℕ) (header other : ℕ) (sps sps' : Sps) → IsEscape p (drop 1 u) → IsEscape q (drop 1 u) → header ≡ other → SpsText sps (bits_of p) → SpsText sps' (bits_of q) → TheSps header sps ≡ TheSps other sps'
same_sps u p q header other sps sps' a b e s t =
    let P : List ℕ → Type 0 = λ x. SpsText sps (bits_of x) in
    ap (λ h. TheSps h sps) e ∙ ap (TheSps other) (one_sps (bits_of q) sps sps' (subst P (one_payload p q (drop 1 u) a b) s) t)

same_pps : (u p q : List ℕ) (header other : ℕ) (pps pps' : Pps) → IsEscape p (drop 1 u) → IsEscape q (drop 1 u) → header ≡ other → PpsText pps (bits_of p) → PpsText pps' (bits_of q) → ThePps header pps ≡ ThePps other pps'
same_pps u p q header other pps pps' a b e s t =
    let P : List ℕ → Type 0 = λ x. PpsText pps (bits_of x) in
    ap (λ h. ThePps h pps) e ∙ ap (ThePps other) (one_pps (bits_of q) pps pps' (subst P (one_payload p q (drop 1 u) a b) s) t)

same_slice : (to other : Layer) (init : InitTable) (sets : SetMaps) (u p q : List ℕ) (s t : Slice) → IsEscape p (drop 1 u) → IsEscape q (drop 1 u) → IsSliceOf to init sets (header_of u) (bits_of p) s → IsSliceOf other init sets (header_of u) (bits_of q) t → TheSlice s ≡ TheSlice t
same_slice to other init sets u p q s t a b is js =
    let P : List ℕ → Type 0 = λ x. IsSliceOf to init sets (header_of u) (bits_of x) s in
    ap TheSlice (slice-once to other init sets (header_of u) (bits_of q) s t (subst P (one_payload p q (drop 1 u) a b) is) js)

-- the kind of the units that are read as this item
abbrev kind_read : Item → UnitKind
kind_read (Carried v) = IsCarried
kind_read (TheSps header sps) = IsSps
kind_read (ThePps header pps) = IsPps
kind_read (TheSlice s) = IsSlice

read_kind : (to : Layer) (init : InitTable) (sets : SetMaps) (u : List ℕ) (i : Item) → IsItem to init sets u i → kind_of u ≡ kind_read i
read_kind to init sets u (Carried v) is = is.1.0
read_kind to init sets u (TheSps header sps) is = is.1.0
read_kind to init sets u (ThePps header pps) is = is.1.0
read_kind to init sets u (TheSlice s) is = is.1.0

same_kind : (to other : Layer) (init : InitTable) (sets : SetMaps) (u : List ℕ) (i j : Item) → IsItem to init sets u i → IsItem other init sets u j → kind_read i ≡ kind_read j
same_kind to other init sets u i j a b = sym (read_kind to init sets u i a) ∙ read_kind other init sets u j b

-- whichever layers it is read for
pub same-item : (to later : Layer) (init : InitTable) (sets : SetMaps) (u : List ℕ) (i j : Item) → IsItem to init sets u i → IsItem later init sets u j → i ≡ j
same-item to later init sets u (Carried v) (Carried w) a b = ap Carried (a.2 ∙ sym b.2)
same-item to later init sets u (TheSps header sps) (TheSps other sps') a b = same_sps u a.0 b.0 header other sps sps' a.1.1 b.1.1 (a.2 ∙ sym b.2) a.3 b.3
same-item to later init sets u (ThePps header pps) (ThePps other pps') a b = same_pps u a.0 b.0 header other pps pps' a.1.1 b.1.1 (a.2 ∙ sym b.2) a.3 b.3
same-item to later init sets u (TheSlice s) (TheSlice t) a b = same_slice to later init sets u a.0 b.0 s t a.1.1 b.1.1 a.2 b.2
same-item to later init sets u (Carried v) (TheSps other sps') a b = absurd (let e : IsCarried ≡ IsSps = same_kind to later init sets u (Carried v) (TheSps other sps') a b in cc)
same-item to later init sets u (Carried v) (ThePps other pps') a b = absurd (let e : IsCarried ≡ IsPps = same_kind to later init sets u (Carried v) (ThePps other pps') a b in cc)
same-item to later init sets u (Carried v) (TheSlice t) a b = absurd (let e : IsCarried ≡ IsSlice = same_kind to later init sets u (Carried v) (TheSlice t) a b in cc)
same-item to later init sets u (TheSps header sps) (Carried w) a b = absurd (let e : IsSps ≡ IsCarried = same_kind to later init sets u (TheSps header sps) (Carried w) a b in cc)
same-item to later init sets u (TheSps header sps) (ThePps other pps') a b = absurd (let e : IsSps ≡ IsPps = same_kind to later init sets u (TheSps header sps) (ThePps other pps') a b in cc)
same-item to later init sets u (TheSps header sps) (TheSlice t) a b = absurd (let e : IsSps ≡ IsSlice = same_kind to later init sets u (TheSps header sps) (TheSlice t) a b in cc)
same-item to later init sets u (ThePps header pps) (Carried w) a b = absurd (let e : IsPps ≡ IsCarried = same_kind to later init sets u (ThePps header pps) (Carried w) a b in cc)
same-item to later init sets u (ThePps header pps) (TheSps other sps') a b = absurd (let e : IsPps ≡ IsSps = same_kind to later init sets u (ThePps header pps) (TheSps other sps') a b in cc)
same-item to later init sets u (ThePps header pps) (TheSlice t) a b = absurd (let e : IsPps ≡ IsSlice = same_kind to later init sets u (ThePps header pps) (TheSlice t) a b in cc)
same-item to later init sets u (TheSlice s) (Carried w) a b = absurd (let e : IsSlice ≡ IsCarried = same_kind to later init sets u (TheSlice s) (Carried w) a b in cc)
same-item to later init sets u (TheSlice s) (TheSps other sps') a b = absurd (let e : IsSlice ≡ IsSps = same_kind to later init sets u (TheSlice s) (TheSps other sps') a b in cc)
same-item to later init sets u (TheSlice s) (ThePps other pps') a b = absurd (let e : IsSlice ≡ IsPps = same_kind to later init sets u (TheSlice s) (ThePps other pps') a b in cc)

-- ## The sets that stand are in range

found_in_range : (sets : SetMaps) (sps found : Sps) (n : ℕ) (same : Bool) → AreSpsFields sps → AreInRange sets → cond same (Some sps) (find_sps n sets) ≡ Some found → AreSpsFields found
found_in_range sets sps found n true is range e = subst AreSpsFields (some_is sps found e) is
found_in_range sets sps found n false is range e = range n found e

in_range-put : (sets : SetMaps) (sps : Sps) → AreSpsFields sps → AreInRange sets → AreInRange (sps_put sps sets)
in_range-put sets sps is range = λ n found e.
    found_in_range sets sps found n (eqb n sps.seq_parameter_set_id) is range (sym (last_found n sps.seq_parameter_set_id sps sets.sps) ∙ e)

pub in_range-behind : (to : Layer) (init : InitTable) (sets : SetMaps) (u : List ℕ) (i : Item) → IsItem to init sets u i → AreInRange sets → AreInRange (put i sets)
in_range-behind to init sets u (Carried v) is range = range
in_range-behind to init sets u (TheSps header sps) is range = in_range-put sets sps (text_of_read sps (bits_of is.0) is.3).0 range
in_range-behind to init sets u (ThePps header pps) is range = range
in_range-behind to init sets u (TheSlice s) is range = range

pub in_range-none : AreInRange no_sets
in_range-none = λ n sps e. absurd cc

-- ## Each unit is decided

abbrev Decided : Layer → InitTable → SetMaps → List ℕ → Type 0
Decided to init sets u = ((i : Item) × IsItem to init sets u i) ⊎ ((why : Why) × Refuses to init sets u why)

refused_as : (to : Layer) (init : InitTable) (sets : SetMaps) (u : List ℕ) (k : UnitKind) (why : Why) → kind_of u ≡ k → IsRefusedUnit to init sets k u why → Decided to init sets u
refused_as to init sets u k why e r = let P : UnitKind → Type 0 = λ x. IsRefusedUnit to init sets x u why in inr (why, subst P (sym e) r)

without_payload : (bytes : List ℕ) → payload_of bytes ≡ None → (payload : List ℕ) → IsEscape payload bytes → ⊥
without_payload bytes e payload is = absurd (let both : Some payload ≡ None = sym (payload_of-escaped payload bytes is) ∙ e in cc)

carried-decided : (to : Layer) (init : InitTable) (sets : SetMaps) (u : List ℕ) (o : Option (List ℕ)) → kind_of u ≡ IsCarried → payload_of (drop 1 u) ≡ o → Decided to init sets u
carried-decided to init sets u None kind e = refused_as to init sets u IsCarried Escape kind (inl (refl, without_payload (drop 1 u) e))
carried-decided to init sets u (Some payload) kind e = inl (Carried u, (payload, (kind, escaped-payload_of payload (drop 1 u) e), refl))

sps-decided : (to : Layer) (init : InitTable) (sets : SetMaps) (u : List ℕ) (o : Option (List ℕ)) → kind_of u ≡ IsSps → payload_of (drop 1 u) ≡ o → Decided to init sets u
sps-decided to init sets u None kind e = refused_as to init sets u IsSps Escape kind (inl (refl, without_payload (drop 1 u) e))
sps-decided to init sets u (Some payload) kind e =
    let is = escaped-payload_of payload (drop 1 u) e in
    elim (by_outcome BadSps seq_parameter_set (bits_of payload) (sps_ends (bits_of payload)) (outcome_of seq_parameter_set (bits_of payload)) refl) [
      | inl text ↦ inl (TheSps (header_of u) text.0, (payload, (kind, is), refl, text.1))
      | inr refused ↦ refused_as to init sets u IsSps refused.0 kind (inr (payload, is, refused.1))
    ]

pps-decided : (to : Layer) (init : InitTable) (sets : SetMaps) (u : List ℕ) (o : Option (List ℕ)) → kind_of u ≡ IsPps → payload_of (drop 1 u) ≡ o → Decided to init sets u
pps-decided to init sets u None kind e = refused_as to init sets u IsPps Escape kind (inl (refl, without_payload (drop 1 u) e))
pps-decided to init sets u (Some payload) kind e =
    let is = escaped-payload_of payload (drop 1 u) e in
    elim (by_outcome BadPps pic_parameter_set (bits_of payload) (pps_ends (bits_of payload)) (outcome_of pic_parameter_set (bits_of payload)) refl) [
      | inl text ↦ inl (ThePps (header_of u) text.0, (payload, (kind, is), refl, text.1))
      | inr refused ↦ refused_as to init sets u IsPps refused.0 kind (inr (payload, is, refused.1))
    ]

coded-decided : (to : Layer) (init : InitTable) (sets : SetMaps) (u : List ℕ) (o : Option (List ℕ)) → kind_of u ≡ IsSlice → payload_of (drop 1 u) ≡ o → AreInRange sets → Decided to init sets u
coded-decided to init sets u None kind e range = refused_as to init sets u IsSlice Escape kind (inl (refl, without_payload (drop 1 u) e))
coded-decided to init sets u (Some payload) kind e range =
    let is = escaped-payload_of payload (drop 1 u) e in
    elim (slice-decided to init sets (header_of u) (bits_of payload) range) [
      | inl slice ↦ inl (TheSlice slice.0, (payload, (kind, is), slice.1))
      | inr refused ↦ refused_as to init sets u IsSlice refused.0 kind (inr (payload, is, refused.1))
    ]

kind-decided : (to : Layer) (init : InitTable) (sets : SetMaps) (u : List ℕ) (k : UnitKind) → kind_of u ≡ k → AreInRange sets → Decided to init sets u
kind-decided to init sets u IsRefused e range = refused_as to init sets u IsRefused BadKind e refl
kind-decided to init sets u IsCarried e range = carried-decided to init sets u (payload_of (drop 1 u)) e refl
kind-decided to init sets u IsSps e range = sps-decided to init sets u (payload_of (drop 1 u)) e refl
kind-decided to init sets u IsPps e range = pps-decided to init sets u (payload_of (drop 1 u)) e refl
kind-decided to init sets u IsSlice e range = coded-decided to init sets u (payload_of (drop 1 u)) e refl range

pub decided : (to : Layer) (init : InitTable) (sets : SetMaps) (u : List ℕ) → AreInRange sets → ((i : Item) × IsItem to init sets u i) ⊎ ((why : Why) × Refuses to init sets u why)
decided to init sets u range = kind-decided to init sets u (kind_of u) refl range
