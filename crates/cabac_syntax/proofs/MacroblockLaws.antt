-- What is known when the bins of a macroblock were read, or refused.
use Rattle.std.proofs.Common.{◌≡◌, ℕ, Bool, true, false, List, [], ◌∷◌, ◌++◌, length, map, replicate, cond, Option, Some, None, refl, sym, ap, subst, ◌∙◌, append_assoc, arith}
use Rattle.std.specs.Prelude.{All}
use Rattle.std.proofs.lemmas.List.Elements.{All-head, All-tail}
use Rattle.cabac_engine.specs.Bins.{Promises}
use Rattle.binarisation.specs.BinString.{BinString, Spells, Reads, HasOneString, WasGiven}
use Rattle.binarisation.proofs.Spelling.{reads_gave, reads_promised}
use Rattle.cabac_contexts.specs.Coders.{InCoding, GivesBin}
use Rattle.cabac_macroblock.specs.MacroblockLayer.{macroblock, without_samples}
use Rattle.cabac_macroblock.specs.MbType.{of_kind}
use Rattle.cabac_macroblock.proofs.OneMacroblock.{macroblock_one}
use Rattle.cabac_macroblock.proofs.ValidMacroblock.{macroblock_valid, macroblock_typed, macroblock_pcm}
use Rattle.cabac_mb_residual.specs.Levels.{IsResidual, without_levels}
use Rattle.cabac_mb_residual.proofs.OneString.{residual_one}
use Rattle.cabac_mb_residual.proofs.Spelled.{sized-none}
use Rattle.cabac_mb_residual.proofs.Validity.{spelled_is_valid}
use Rattle.h264_types.proofs.Zeros.{all_same}
use Rattle.h264_types.specs.Kind.{is_i_pcm}
use Rattle.h264_types.specs.Valid.{IsMacroblock, sample_bound}
use Rattle.h264_types.specs.declared.macroblock.Mb.{Mb}
use Rattle.h264_types.specs.declared.macroblock.MbKind.TheVariants.{Intra}
use Rattle.h264_types.specs.declared.slice_shape.SliceShape.{SliceShape}
use Rattle.slice_data.specs.Reading.{NoList}
use Rattle.cabac_syntax.specs.SliceData.{Bin, Piece, coded, sampled, HasData, AreDataFrom, ArePieces, Begins, samples_of}
use Rattle.cabac_syntax.specs.Standing.{Knows, GoesOn, IsNext, IsBehind}
use Rattle.cabac_syntax.proofs.CodeParts.{run, run-bins}
use Rattle.cabac_syntax.proofs.KnowsLaws.{know_step, know_same, know_none}

-- the bins of the macroblock behind `done`
abbrev pub bins_behind : SliceShape → List Mb → BinString Mb
bins_behind shape done = macroblock shape done (length done) false

pub one_string : (shape : SliceShape) (done : List Mb) → HasOneString (bins_behind shape done)
one_string shape done = macroblock_one shape done (length done) false (λ m. residual_one shape done (length done) (without_levels m) (sized-none m))

-- what a macroblock's bins spell, but for its samples, is what was read
read_is : (shape : SliceShape) (done : List Mb) (mb : Mb) (rest pieces : List Piece) (result : Option Mb) (d e : InCoding) → Begins shape done mb rest pieces
    → Promises GivesBin d (run pieces) → Reads GivesBin (bins_behind shape done) result d e → result ≡ Some (without_samples mb)
read_is shape done mb rest pieces result d e (bins, spelled, parts) promised read =
    let ahead : Promises GivesBin d (bins ++ run (samples_of mb ++ rest)) = subst (Promises GivesBin d) (ap run parts ∙ run-bins bins (samples_of mb ++ rest)) promised in
    (reads_promised GivesBin (bins_behind shape done) bins (run (samples_of mb ++ rest)) (without_samples mb) result d e spelled ahead read).0

pub no_macroblock : (start : ℕ → ℕ × Bool) (shape : SliceShape) (pos : ℕ) (all : List Bool) (done : List Mb) (d e : InCoding) → Knows start shape pos all (IsNext shape done) d
    → Reads GivesBin (bins_behind shape done) None d e → NoList HasData (AreDataFrom false start) shape pos all
no_macroblock start shape pos all done d e k read =
    know_none start shape pos all (IsNext shape done) d k (λ mbs pieces has (mb, tail, rest, parts, begins, others) promised.
    let is : None ≡ Some (without_samples mb) = read_is shape done mb rest pieces None d e begins promised read in
    absurd cc)

pub know_behind : (start : ℕ → ℕ × Bool) (shape : SliceShape) (pos : ℕ) (all : List Bool) (done : List Mb) (read : Mb) (d e : InCoding) → Knows start shape pos all (IsNext shape done) d
    → Reads GivesBin (bins_behind shape done) (Some read) d e → Knows start shape pos all (IsBehind shape done read) e
know_behind start shape pos all done read d e k reads =
    know_step start shape pos all (IsNext shape done) (IsBehind shape done read) bins d e k gave.2
    (λ mbs pieces has (mb, tail, rest, parts, begins, others) promised.
    let is : read ≡ without_samples mb = same (without_samples mb) (read_is shape done mb rest pieces (Some read) d e begins promised reads) in
    let one : begins.0 ≡ bins = one_string shape done begins.0 bins read (subst (Spells (bins_behind shape done) begins.0) (sym is) begins.1) gave.1 in
    (samples_of mb ++ rest, begins.2 ∙ ap (λ (l : List Bin). map coded l ++ (samples_of mb ++ rest)) one, (mb, tail, rest, parts, sym is, refl, others)))
    (λ mbs pieces (mb, tail, rest, parts, is, e, others).
    (mb, tail, rest, parts, (bins, subst (Spells (bins_behind shape done) bins) (sym is) gave.1, ap (λ (l : List Piece). map coded bins ++ l) e), others))
  where
    gave : WasGiven GivesBin (bins_behind shape done) read d e
    gave = reads_gave GivesBin (bins_behind shape done) read d e reads

    bins : List Bin
    bins = gave.0

    same : (x : Mb) → Some read ≡ Some x → read ≡ x
    same x h = cc

-- ---- what was read is a macroblock of the slice

-- of the slice, and with bins
abbrev pub IsValid : SliceShape → Mb → Type 0
IsValid shape mb = IsMacroblock shape mb × IsResidual mb × (mb.ref0 ≡ false)

pub spelled_valid : (shape : SliceShape) (done : List Mb) (bins : List Bin) (read : Mb) → Spells (bins_behind shape done) bins read → is_i_pcm read.kind ≡ false → IsValid shape read
spelled_valid shape done bins read spelled other =
    let is =
    macroblock_valid shape done (length done) false bins read
    (λ m levels value sizes apart spelled. let is = spelled_is_valid shape done (length done) m levels value sizes apart spelled in (is.0, is.1)) spelled other (λ h. absurd cc) in
    (is.0, is.1, (macroblock_typed shape done (length done) false bins read spelled).0)

pub read_valid : (shape : SliceShape) (done : List Mb) (read : Mb) (d e : InCoding) → Reads GivesBin (bins_behind shape done) (Some read) d e → is_i_pcm read.kind ≡ false → IsValid shape read
read_valid shape done read d e reads other =
    let gave = reads_gave GivesBin (bins_behind shape done) read d e reads in
    spelled_valid shape done gave.0 read gave.1 other

pub read_pcm : (shape : SliceShape) (done : List Mb) (read : Mb) (d e : InCoding) → Reads GivesBin (bins_behind shape done) (Some read) d e → is_i_pcm read.kind ≡ true → read ≡ of_kind false (Intra 25)
read_pcm shape done read d e reads pcm =
    let gave = reads_gave GivesBin (bins_behind shape done) read d e reads in
    macroblock_pcm shape done (length done) false gave.0 read gave.1 pcm

-- ---- a macroblock without samples

-- a macroblock that isn't I_PCM has none
pub none_sampled : (shape : SliceShape) (mb : Mb) → IsMacroblock shape mb → is_i_pcm mb.kind ≡ false → without_samples mb ≡ mb
none_sampled shape mb is other =
    let bound : sample_bound mb.kind ≡ 0 = ap (λ (b : Bool). cond b 255 0) other in
    let none : mb.pcm ≡ replicate 384 0 = all_same 0 384 mb.pcm is.sizes.pcm (λ k d below. let few = is.coded.pcm k d below in omega (arith, few, bound)) in
    ap (λ (l : List ℕ). record mb { pcm = l }) (sym none)

pub all_member : {A : Type 0} (P : A → Type 0) (xs : List A) (y : A) (ys : List A) → All P (xs ++ y ∷ ys) → P y
all_member P [] y ys h = All-head P y ys h
all_member P (x ∷ xs) y ys h = all_member P xs y ys (All-tail P x (xs ++ y ∷ ys) h)

pub member : (shape : SliceShape) (mbs done : List Mb) (mb : Mb) (tail : List Mb) → HasData shape mbs → mbs ≡ done ++ mb ∷ tail → IsMacroblock shape mb
member shape mbs done mb tail has parts = all_member (IsMacroblock shape) done mb tail (subst (All (IsMacroblock shape)) parts has.slice.macroblocks)

pub no_samples : (mb : Mb) → is_i_pcm mb.kind ≡ false → samples_of mb ≡ []
no_samples mb other = ap (λ (b : Bool). cond b (sampled mb.pcm ∷ []) []) other

-- behind the bins of a macroblock that isn't I_PCM the slice goes on
pub know_plain : (start : ℕ → ℕ × Bool) (shape : SliceShape) (pos : ℕ) (all : List Bool) (done : List Mb) (read : Mb) (d : InCoding) → Knows start shape pos all (IsBehind shape done read) d
    → is_i_pcm read.kind ≡ false → without_samples read ≡ read → Knows start shape pos all (GoesOn shape (done ++ read ∷ [])) d
know_plain start shape pos all done read d k other none =
    know_same start shape pos all (IsBehind shape done read) (GoesOn shape (done ++ read ∷ [])) d k
    (λ mbs pieces has (mb, tail, rest, parts, is, e, others).
    let kind : is_i_pcm mb.kind ≡ false = ap (λ (m : Mb). is_i_pcm m.kind) is ∙ other in
    let same : mb ≡ read = sym (none_sampled shape mb (member shape mbs done mb tail has parts) kind) ∙ is in
    let none_of : pieces ≡ rest = e ∙ ap (λ (l : List Piece). l ++ rest) (no_samples mb kind) in (
      tail,
      parts ∙ ap (λ (m : Mb). done ++ m ∷ tail) same ∙ sym (append_assoc done (read ∷ []) tail),
      subst (ArePieces shape (done ++ read ∷ []) tail) (sym none_of) (subst (λ (m : Mb). ArePieces shape (done ++ m ∷ []) tail rest) same others),
    ))
    (λ mbs pieces (tail, parts, are). (read, tail, pieces, parts ∙ append_assoc done (read ∷ []) tail, none, sym (ap (λ (l : List Piece). l ++ pieces) (no_samples read other)), are))
