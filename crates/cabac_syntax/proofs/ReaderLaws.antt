-- What a reader stands for after each macroblock.
use Rattle.std.proofs.Common.{◌≡◌, ℕ, ◌<◌, Bool, true, false, List, [], ◌∷◌, ◌++◌, length, Option, Some, None, refl, sym, ap, subst, ◌∙◌, append-nil, length-append, arith}
use Rattle.binarisation.specs.BinString.{Reads}
use Rattle.cabac_contexts.specs.Coders.{InCoding, GivesBin}
use Rattle.cabac_contexts.specs.Terms.{IsReadAt}
use Rattle.cabac_macroblock.specs.MacroblockLayer.{macroblock, without_samples}
use Rattle.cabac_macroblock.specs.MbType.{of_kind}
use Rattle.cabac_macroblock.proofs.ValidMacroblock.{pcm_valid}
use Rattle.h264_types.specs.Kind.{is_i_pcm}
use Rattle.h264_types.specs.LastRows.{LastRows, AreRows}
use Rattle.h264_types.specs.declared.macroblock.Mb.{Mb}
use Rattle.h264_types.specs.declared.macroblock.MbKind.TheVariants.{Intra}
use Rattle.h264_types.specs.declared.slice_shape.SliceShape.{SliceShape}
use Rattle.slice_data.specs.Reading.{AreGiven, NoList}
use Rattle.cabac_syntax.specs.declared.reader.Phase.{Phase}
use Rattle.cabac_syntax.specs.declared.reader.Phase.TheVariants as phases
use Rattle.cabac_syntax.specs.SliceData.{HasData, AreDataFrom}
use Rattle.cabac_syntax.specs.Standing.{Knows, GoesOn, IsNext, IsBehind, IsSampled, Stands}
use Rattle.cabac_syntax.proofs.StandsLaws.{HasRoom, here, next_here, stands_more}
use Rattle.cabac_syntax.proofs.MacroblockLaws.{bins_behind, no_macroblock, know_behind, IsValid, read_valid, read_pcm, none_sampled}

-- a phase has one coder
coder_in : {B : Type 0} → InCoding → Phase B → InCoding
coder_in other (phases.Running coder) = coder
coder_in other (phases.Fresh contexts bits) = other
coder_in other (phases.Ended bits) = other
coder_in other phases.Over = other

pub same_coder : {B : Type 0} (phase : Phase B) (d e : InCoding) → phase ≡ phases.Running d → phase ≡ phases.Running e → d ≡ e
unfolding coder_in
same_coder phase d e is other = ap (coder_in d) (sym is ∙ other)

-- where no samples follow, none are put
pub plain_sampled : (mb : Mb) → is_i_pcm mb.kind ≡ false → IsSampled mb mb
plain_sampled mb other = (λ e. refl, λ pcm. absurd (no (sym other ∙ pcm)))
  where
    no : false ≡ true → ⊥
    no e = absurd cc

module _ (start : ℕ → ℕ × Bool) (kept shape : SliceShape) (rows : LastRows Mb) (pos : ℕ) (all : List Bool) (done : List Mb) where
  -- a reader that stands before a macroblock
  abbrev pub IsBefore : InCoding → Type 0
  IsBefore d = Stands kept rows shape done (Knows start shape pos all (IsNext shape done) d)

  abbrev Place : InCoding → Type 0
  Place d = Knows start shape pos all (IsNext shape done) d

  -- what was read beside the rows, whichever list these are of
  abbrev pub IsRead : ℕ → Option Mb → InCoding → InCoding → Type 0
  IsRead at result d e = (mbs : List Mb) → IsReadAt kept rows mbs at → Reads GivesBin (macroblock kept mbs at false) result d e

  read_here : (at : ℕ) (result : Option Mb) (d e : InCoding) → IsBefore d → HasRoom kept shape rows done (Place d) at → IsRead at result d e → Reads GivesBin (bins_behind shape done) result d e
  read_here at result d e s room read =
      next_here kept shape rows done (Place d) (λ (x : SliceShape) (n : ℕ). Reads GivesBin (macroblock x done n false) result d e) at s room (read done (here kept shape rows done (Place d) at s room))

  pub next_none : (at : ℕ) (d e : InCoding) → IsBefore d → HasRoom kept shape rows done (Place d) at → IsRead at None d e → NoList HasData (AreDataFrom false start) shape pos all
  next_none at d e s room read = no_macroblock start shape pos all done d e s.place (read_here at None d e s room read)

  bare : (read : Mb) (d e : InCoding) → Reads GivesBin (bins_behind shape done) (Some read) d e → without_samples read ≡ read
  bare read d e reads = by (is_i_pcm read.kind) refl
    where
      by : (b : Bool) → is_i_pcm read.kind ≡ b → without_samples read ≡ read
      by true pcm = let is : read ≡ of_kind false (Intra 25) = read_pcm shape done read d e reads pcm in ap without_samples is ∙ sym is
      by false other = none_sampled shape read (read_valid shape done read d e reads other).0 other

  pub next_behind : (at : ℕ) (read : Mb) (d e : InCoding) → IsBefore d → HasRoom kept shape rows done (Place d) at → IsRead at (Some read) d e
      → Knows start shape pos all (IsBehind shape done read) e × (without_samples read ≡ read)
  next_behind at read d e s room read_is =
      let reads = read_here at (Some read) d e s room read_is in
      (know_behind start shape pos all done read d e s.place reads, bare read d e reads)

  -- what was read, with its samples, is a macroblock of the slice
  valid : (read mb : Mb) (d e : InCoding) → Reads GivesBin (bins_behind shape done) (Some read) d e → IsSampled read mb → IsValid shape mb
  valid read mb d e reads sampled = by (is_i_pcm read.kind) refl
    where
      by : (b : Bool) → is_i_pcm read.kind ≡ b → IsValid shape mb
      by true pcm =
          let put = sampled.1 pcm in
          let is : mb ≡ record (of_kind false (Intra 25)) { pcm = mb.pcm } = put.1 ∙ ap (λ (m : Mb). record m { pcm = mb.pcm }) (read_pcm shape done read d e reads pcm) in
          let whole = pcm_valid shape mb.pcm put.0.count put.0.bytes in
          subst (IsValid shape) (sym is) (whole.0, whole.1, refl)
      by false other = subst (IsValid shape) (sym (sampled.0 other)) (read_valid shape done read d e reads other)

  -- the reader stands behind the macroblock, which is given
  pub next_given : (at : ℕ) (read mb : Mb) (d e next : InCoding) (new : LastRows Mb) → IsBefore d → HasRoom kept shape rows done (Place d) at → IsRead at (Some read) d e → IsSampled read mb
      → Knows start shape pos all (GoesOn shape (done ++ mb ∷ [])) next
      → ((other : SliceShape) (mbs : List Mb) → AreRows (λ m. m) other rows mbs → AreRows (λ m. m) other new (mbs ++ mb ∷ []))
      → Stands kept new shape (done ++ mb ∷ []) ((0 < length (done ++ mb ∷ [])) × Knows start shape pos all (GoesOn shape (done ++ mb ∷ [])) next)
      × AreGiven HasData (AreDataFrom false start) shape pos all (done ++ mb ∷ [])
  next_given at read mb d e next new s room read_is sampled k pushed =
      let is = valid read mb d e (read_here at (Some read) d e s room read_is) sampled in
      let stands = stands_more kept shape rows done (Place d) ((0 < length (done ++ mb ∷ [])) × Knows start shape pos all (GoesOn shape (done ++ mb ∷ [])) next) at mb new s room is.0 is.1 is.2 pushed (omega (arith, length-append done (mb ∷ [])), k) in (
        stands,
        record {
          begins = ([], subst (HasData shape) (sym (append-nil (done ++ mb ∷ []))) (stands.given stands.place.0));
          only = λ mbs data_of are. let o = k.only mbs data_of are in (o.1.0, o.1.1);
        },
      )

pub none_fresh : (start : ℕ → ℕ × Bool) (shape : SliceShape) (pos place : ℕ) (all left : List Bool) → pos ≡ place → all ≡ left → NoList HasData (AreDataFrom false start) shape place left → NoList HasData (AreDataFrom false start) shape pos all
none_fresh start shape pos place all left at is none =
    subst (λ (bits : List Bool). NoList HasData (AreDataFrom false start) shape pos bits) (sym is) (subst (λ (n : ℕ). NoList HasData (AreDataFrom false start) shape n left) (sym at) none)

-- before the first macroblock nothing is done
pub first_here : (start : ℕ → ℕ × Bool) (shape : SliceShape) (pos place : ℕ) (all left : List Bool) (done : List Mb) (d : InCoding) → done ≡ [] → pos ≡ place → all ≡ left
    → Knows start shape place left (IsNext shape []) d → Knows start shape pos all (IsNext shape done) d
first_here start shape pos place all left done d none at is k =
    subst (λ (l : List Mb). Knows start shape pos all (IsNext shape l) d) (sym none)
    (subst (λ (bits : List Bool). Knows start shape pos bits (IsNext shape []) d) (sym is) (subst (λ (n : ℕ). Knows start shape n left (IsNext shape []) d) (sym at) k))
