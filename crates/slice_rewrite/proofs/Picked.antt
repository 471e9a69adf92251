-- The form of a slice under the number of a pick.
use Rattle.std.proofs.Common.{◌≡◌, ℕ, zero, suc, ◌<◌, ◌%◌, Bool, true, false, List, [], ◌∷◌, length, Option, Some, refl, sym, ap, subst, ◌∙◌, arith}
use Rattle.std.specs.Prelude.{slice_get}
use Rattle.bit_texts.specs.Bits.{bits_of, bytes_of}
use Rattle.exp_golomb.specs.EmulationPrevention.{HasEscape, escaped, zeros_at_end}
use Rattle.h264_types.specs.declared.layer.Layer.{Layer}
use Rattle.h264_types.specs.declared.macroblock.Mb.{Mb}
use Rattle.init_table.specs.declared.table.InitTable.{InitTable}
use Rattle.param_sets.specs.Sets.{SetMaps}
use Rattle.param_sets.specs.TrailingBits.{IsPayload}
use Rattle.header_parts.specs.declared.header.Header.{Header}
use Rattle.slice_header.specs.HeaderCodes.{Names}
use Rattle.slice_rewrite.specs.Items.{Slice, IsSliceOf}
use Rattle.slice_rewrite.specs.Options.{whole_run}
use Rattle.slice_rewrite.specs.Periods.{number_in}
use Rattle.slice_rewrite.specs.Picks.{AreLengths, PicksBy, Picks, IsPickedForm, IsChosen, stands_in}
use Rattle.slice_rewrite.specs.SliceForms.{IsOpened, IsSliceForm, coded, sets_in}
use Rattle.slice_rewrite.specs.Written.{slice_under, IsSliceBits, IsSliceUnit}
use Rattle.slice_rewrite.specs.declared.opening.OpenSlice.{OpenSlice}
use Rattle.slice_rewrite.specs.declared.pick.Tries.{Tries}
use Rattle.slice_rewrite.specs.declared.pick.Tries.TheVariants.{One, All}
use Rattle.slice_rewrite.proofs.ComesBack.{slice_payload}
use Rattle.slice_rewrite.proofs.Slices.{header-once, names-once, slice-nal, slice-once}

pub has_escape : (payload : List ℕ) (bits : List Bool) → IsPayload bits → bits_of payload ≡ bits → HasEscape (bytes_of (bits_of payload))
has_escape payload bits is e = ap (λ z. z % 2) (ap (λ x. zeros_at_end (bytes_of x)) e ∙ is.no_zeros_at_end)

-- what is written for a slice has an escaped form
pub form_escape : (to : Layer) (init : InitTable) (tries : Tries) (number : ℕ) (sets : SetMaps) (header : ℕ) (bits : List Bool) (payload : List ℕ) (macroblocks : ℕ) → IsSliceForm (whole_run to init tries) number sets header bits payload macroblocks
    → HasEscape (bytes_of (bits_of payload))
form_escape to init tries number sets header bits payload macroblocks f =
    has_escape payload (bits_of payload) (slice_payload init (slice_under to number f.idc f.slice) (bits_of payload) f.written) refl

-- ## The lengths of the three units

-- the unit of a form under one number
pub unit_of : (to : Layer) (init : InitTable) (number k : ℕ) (sets : SetMaps) (header : ℕ) (bits : List Bool) (payload : List ℕ) (macroblocks : ℕ) (s : Slice) (f : IsSliceForm (whole_run to init (One k)) number sets header bits payload macroblocks)
    → f.slice ≡ s → IsSliceUnit init (slice_under to number k s) (header ∷ escaped (bytes_of (bits_of payload)))
unit_of to init number k sets header bits payload macroblocks s f same =
    let P : Slice → Type 0 = λ x. IsSliceBits init (slice_under to number f.idc x) (bits_of payload) in
    let Q : ℕ → Type 0 = λ n. IsSliceBits init (slice_under to number n s) (bits_of payload) in
    (bits_of payload, subst Q f.tried.1 (subst P same f.written), ap (λ h. h ∷ escaped (bytes_of (bits_of payload))) (sym (ap (λ (x : Slice). x.header.nal) (sym same) ∙ slice-nal to init sets header bits f.slice f.read)))

pub three_lengths : (to : Layer) (init : InitTable) (number : ℕ) (s : Slice) (u0 u1 u2 : List ℕ) (n0 n1 n2 : ℕ) (lengths : List ℕ)
    → IsSliceUnit init (slice_under to number 0 s) u0 → IsSliceUnit init (slice_under to number 1 s) u1 → IsSliceUnit init (slice_under to number 2 s) u2
    → n0 ≡ length u0 → n1 ≡ length u1 → n2 ≡ length u2 → lengths ≡ n0 ∷ n1 ∷ n2 ∷ [] → AreLengths to init number s lengths
three_lengths to init number s u0 u1 u2 n0 n1 n2 lengths is0 is1 is2 e0 e1 e2 are =
    let A : List ℕ → Type 0 = AreLengths to init number s in
    subst A (sym are) (record { three = refl; of_each = each })
  where
    each : (k : ℕ) → k < 3 → (unit : List ℕ) × IsSliceUnit init (slice_under to number k s) unit × (slice_get (n0 ∷ n1 ∷ n2 ∷ []) k ≡ Some (length unit))
    each zero below = (u0, is0, ap Some e0)
    each (suc zero) below = (u1, is1, ap Some e1)
    each (suc (suc zero)) below = (u2, is2, ap Some e2)
    each (suc (suc (suc k))) below = absurd (omega (arith, below))

-- the three forms are those of one slice
pub lengths_of : (to : Layer) (init : InitTable) (number : ℕ) (sets : SetMaps) (header : ℕ) (bits : List Bool) (p0 p1 p2 : List ℕ) (m0 m1 m2 n0 n1 n2 : ℕ) (lengths : List ℕ)
    (f0 : IsSliceForm (whole_run to init (One 0)) number sets header bits p0 m0) (f1 : IsSliceForm (whole_run to init (One 1)) number sets header bits p1 m1) (f2 : IsSliceForm (whole_run to init (One 2)) number sets header bits p2 m2)
    → n0 ≡ length (header ∷ escaped (bytes_of (bits_of p0))) → n1 ≡ length (header ∷ escaped (bytes_of (bits_of p1))) → n2 ≡ length (header ∷ escaped (bytes_of (bits_of p2)))
    → lengths ≡ n0 ∷ n1 ∷ n2 ∷ [] → (s : Slice) → f0.slice ≡ s → AreLengths to init number s lengths
lengths_of to init number sets header bits p0 p1 p2 m0 m1 m2 n0 n1 n2 lengths f0 f1 f2 e0 e1 e2 are s same =
    let same1 = slice-once to to init sets header bits f1.slice f0.slice f1.read f0.read ∙ same in
    let same2 = slice-once to to init sets header bits f2.slice f0.slice f2.read f0.read ∙ same in
    three_lengths to init number s (header ∷ escaped (bytes_of (bits_of p0))) (header ∷ escaped (bytes_of (bits_of p1))) (header ∷ escaped (bytes_of (bits_of p2))) n0 n1 n2 lengths
    (unit_of to init number 0 sets header bits p0 m0 s f0 same) (unit_of to init number 1 sets header bits p1 m1 s f1 same1) (unit_of to init number 2 sets header bits p2 m2 s f2 same2) e0 e1 e2 are

-- ## The pick

module _ {P : Type 0} (tried : P → Tries) (step : P → List ℕ → ℕ → P → Type 0) (to : Layer) (init : InitTable) (number : ℕ) (sets : SetMaps) (header : ℕ) (bits : List Bool) where
  -- the pick tries one number
  pub picked_one : (old new : P) (k : ℕ) (payload : List ℕ) (macroblocks : ℕ) → tried old ≡ One k → new ≡ old → IsSliceForm (whole_run to init (One k)) number sets header bits payload macroblocks
      → IsPickedForm tried step to init number sets header bits old payload macroblocks new
  picked_one old new k payload macroblocks one stays f =
      let F : Tries → Type 0 = λ t. (g : IsSliceForm (whole_run to init t) number sets header bits payload macroblocks) × PicksBy tried step to init number t (stands_in to g.slice) g.slice g.idc old new in
      let p = subst F (sym one) (f, stays) in
      record { form = p.0; picks = p.1 }

  -- a form under one number is one under some number
  abbrev of_all : (k : ℕ) (payload : List ℕ) (macroblocks : ℕ) → IsSliceForm (whole_run to init (One k)) number sets header bits payload macroblocks → IsSliceForm (whole_run to init All) number sets header bits payload macroblocks
  of_all k payload macroblocks f = record { slice = f.slice; read = f.read; goes_on = f.goes_on; idc = f.idc; tried = f.tried.0; written = f.written; count = f.count }

  -- it tries all, and no number stands
  pub picked_none : (old new : P) (k : ℕ) (payload : List ℕ) (macroblocks : ℕ) → tried old ≡ All → new ≡ old → (f : IsSliceForm (whole_run to init (One k)) number sets header bits payload macroblocks) → stands_in to f.slice ≡ false
      → IsPickedForm tried step to init number sets header bits old payload macroblocks new
  picked_none old new k payload macroblocks all stays f none =
      let F : Tries → Type 0 = λ t. (g : IsSliceForm (whole_run to init t) number sets header bits payload macroblocks) × PicksBy tried step to init number t (stands_in to g.slice) g.slice g.idc old new in
      let B : Bool → Type 0 = λ b. PicksBy tried step to init number All b f.slice f.idc old new in
      let p = subst F (sym all) (of_all k payload macroblocks f, subst B (sym none) stays) in
      record { form = p.0; picks = p.1 }

  -- it tries all, and chose
  pub picked_all : (old new : P) (payload : List ℕ) (macroblocks : ℕ) → tried old ≡ All → (c : IsChosen tried step to init number sets header bits old payload macroblocks new) → stands_in to c.form.slice ≡ true
      → IsPickedForm tried step to init number sets header bits old payload macroblocks new
  picked_all old new payload macroblocks all c stands =
      let F : Tries → Type 0 = λ t. (g : IsSliceForm (whole_run to init t) number sets header bits payload macroblocks) × PicksBy tried step to init number t (stands_in to g.slice) g.slice g.idc old new in
      let B : Bool → Type 0 = λ b. PicksBy tried step to init number All b c.form.slice c.form.idc old new in
      let S : ℕ → Type 0 = λ n. step old c.lengths n new in
      let p = subst F (sym all) (of_all c.idc payload macroblocks c.form, subst B (sym stands) (c.lengths, c.are, subst S (sym c.form.tried.1) c.step_is)) in
      record { form = p.0; picks = p.1 }

-- a slice that was opened is that of its header and its sets
pub slice_is : (to : Layer) (init : InitTable) (sets : SetMaps) (header : ℕ) (bits : List Bool) (o : OpenSlice) (s : Slice) → IsOpened to sets header bits o → IsSliceOf to init sets header bits s → s ≡ coded (sets_in o) o.header s.mbs
slice_is to init sets header bits o s r is =
    let h = (header-once sets header bits s.header o.header is.rest o.bits.left is.header_is r.text).0 in
    let N : Header → Type 0 = λ x. Names sets x.pic_parameter_set_id s.active in
    let a = names-once sets o.header.pic_parameter_set_id s.active (sets_in o) (subst N h is.names) r.names in
    ap (λ x. let c : Slice = record { header = x; active = s.active; mbs = s.mbs } in c) h ∙ ap (λ x. let c : Slice = record { header = o.header; active = x; mbs = s.mbs } in c) a

-- whether the number stands in it
pub stands_opened : (to : Layer) (init : InitTable) (sets : SetMaps) (header : ℕ) (bits : List Bool) (o : OpenSlice) (b : Bool) (s : Slice) → IsOpened to sets header bits o → ((mbs : List Mb) → b ≡ stands_in to (coded (sets_in o) o.header mbs))
    → IsSliceOf to init sets header bits s → stands_in to s ≡ b
stands_opened to init sets header bits o b s r says is = ap (stands_in to) (slice_is to init sets header bits o s r is) ∙ sym (says s.mbs)

-- under the number by which slices in range name its set, the pick goes on as for a slice in range
pub picks_under_own : {P : Type 0} (tried : P → Tries) (step : P → List ℕ → ℕ → P → Type 0) (to : Layer) (range : Option (ℕ × ℕ)) (init : InitTable) (sets : SetMaps) (header : ℕ) (bits : List Bool) (s : OpenSlice) (payload : List ℕ) (macroblocks : ℕ) (old new : P)
    → IsOpened to sets header bits s → (f : IsPickedForm tried step to init (number_in range s.header.pic_parameter_set_id) sets header bits old payload macroblocks new)
    → Picks tried step to init (number_in range f.form.slice.header.pic_parameter_set_id) f.form.slice f.form.idc old new
picks_under_own tried step to range init sets header bits s payload macroblocks old new r f =
    let same = (header-once sets header bits s.header f.form.slice.header s.bits.left f.form.read.rest r.text f.form.read.header_is).0 in
    let N : Header → Type 0 = λ h. Picks tried step to init (number_in range h.pic_parameter_set_id) f.form.slice f.form.idc old new in
    subst N same f.picks
