-- Each step of a writer keeps what was written.
use Rattle.std.proofs.Common.{◌≡◌, ◌≢◌, ℕ, suc, ◌+◌, ◌-◌, ◌*◌, ◌%◌, ◌<◌, Bool, true, false, List, [], ◌∷◌, ◌++◌, length, map, replicate, Some, Result, OnOk, refl, sym, ap, subst, ◌∙◌, append_assoc, append-nil, length-append, arith}
use Rattle.std.proofs.lemmas.List.{length-replicate}
use Rattle.bit_texts.specs.Bits.{bits_of}
use Rattle.bit_texts.specs.Texts.{Appended}
use Rattle.bit_texts.proofs.Bytes.{length-bits_of}
use Rattle.binarisation.specs.BinString.{Writes}
use Rattle.binarisation.proofs.Spelling.{writes_put}
use Rattle.binarisation.proofs.Strings.{on_ok}
use Rattle.cabac_interval.proofs.Lists.{segment_range}
use Rattle.cabac_engine.specs.Bins.{Slot, at_end, Puts}
use Rattle.cabac_engine.specs.Encoding.{IsEnded, Closes}
use Rattle.cabac_contexts.specs.Coders.{OutCoding, HasTaken, TakesBin}
use Rattle.cabac_contexts.specs.States.{HasStates, state_of, with_states}
use Rattle.cabac_contexts.proofs.Segments.{taken_bins}
use Rattle.cabac_contexts.proofs.Steps.{state_of-append}
use Rattle.cabac_macroblock.specs.MacroblockLayer.{without_samples}
use Rattle.h264_types.specs.Kind.{is_i_pcm}
use Rattle.h264_types.specs.declared.macroblock.Mb.{Mb}
use Rattle.h264_types.specs.declared.slice_shape.SliceShape.{SliceShape}
use Rattle.pcm_samples.specs.Alignment.{alignment}
use Rattle.cabac_syntax.specs.SliceData.{Bin, Piece, coded, sampled, AreDataFrom, ArePieces, ones, Codes}
use Rattle.cabac_syntax.specs.Standing.{GoesOn, IsNext, IsEnd}
use Rattle.cabac_syntax.specs.Written.{Wrote, IsPut}
use Rattle.cabac_syntax.specs.declared.writer.Phase.{Phase}
use Rattle.cabac_syntax.specs.declared.writer.Phase.TheVariants as phases
use Rattle.cabac_syntax.proofs.CodeParts.{bins_codes}
use Rattle.cabac_syntax.proofs.EndLaws.{one_sampled}
use Rattle.cabac_syntax.proofs.KnowsLaws.{next_behind, end_behind, next_first}
use Rattle.cabac_syntax.proofs.MacroblockLaws.{bins_behind, no_samples}
use Rattle.cabac_syntax.proofs.Samples.{boundary_is}

-- bins were taken that stand before what is to come
wrote_step : (start : ℕ → ℕ × Bool) (shape : SliceShape) (before : List Bool) (Is Is' : List Mb → List Piece → Type 0) (bins : List Bin) (d e : OutCoding)
    → Wrote start shape before Is d → Puts TakesBin d bins e → ((mbs : List Mb) (rest : List Piece) → Is' mbs rest → Is mbs (map coded bins ++ rest)) → Wrote start shape before Is' e
wrote_step start shape before Is Is' bins d e w puts up = record {
  sunk = w.sunk;
  earlier = w.earlier;
  current = w.current ++ bins;
  taken = taken_bins w.sunk (state_of start w.earlier) w.current bins d e w.taken puts;
  aligned = w.aligned;
  these = λ mbs rest here is c. w.these mbs (map coded bins ++ rest) here (up mbs rest is) (bins_codes true start w.earlier w.current bins rest here c);
}

-- the same pieces are to come, in other words
wrote_same : (start : ℕ → ℕ × Bool) (shape : SliceShape) (before : List Bool) (Is Is' : List Mb → List Piece → Type 0) (d : OutCoding)
    → Wrote start shape before Is d → ((mbs : List Mb) (pieces : List Piece) → Is' mbs pieces → Is mbs pieces) → Wrote start shape before Is' d
wrote_same start shape before Is Is' d w up = record {
  sunk = w.sunk;
  earlier = w.earlier;
  current = w.current;
  taken = w.taken;
  aligned = w.aligned;
  these = λ mbs pieces here is c. w.these mbs pieces here (up mbs pieces is) c;
}

one_bin : (d e : OutCoding) (slot : Slot) (bit : Bool) → TakesBin d slot bit e → Puts TakesBin d ((slot, bit) ∷ []) e
one_bin d e slot bit step = (e, step, refl)

-- ---- the start

-- a one bit put before the boundary is the first of those up to it
pub ones_put : (now new : List Bool) → length now % 8 ≢ 0 → Appended now new (true ∷ []) → ones (length now) ≡ (true ∷ []) ++ ones (length new)
ones_put now new h put =
    let size : length new ≡ length now + 1 = ap length put.is ∙ length-append now (true ∷ []) in
    let gap : (8 - length now % 8) % 8 ≡ suc ((8 - length new % 8) % 8) = omega (arith, h, size) in
    rw gap refl

pub wrote_first : (start : ℕ → ℕ × Bool) (shape : SliceShape) (before sunk : List Bool) (e : OutCoding) → Appended before sunk (ones (length before)) → HasTaken sunk start [] e → Wrote start shape before (GoesOn shape []) e
wrote_first start shape before sunk e put taken = record {
  sunk = sunk;
  earlier = [];
  current = [];
  taken = taken;
  aligned =
      let size : length sunk ≡ length before + (8 - length before % 8) % 8 =
      ap length put.is ∙ length-append before (ones (length before)) ∙ ap (λ (n : ℕ). length before + n) (length-replicate ((8 - length before % 8) % 8) true) in
      omega (arith, size);
  these = λ mbs pieces here (tail, parts, are) c. (
    ones (length before) ++ here,
    (pieces, here, subst (λ (l : List Mb). ArePieces shape [] l pieces) (sym parts) are, refl, c),
    sym (append_assoc before (ones (length before)) here) ∙ ap (λ (l : List Bool). l ++ here) (sym put.is),
  );
}

-- ---- end_of_slice_flag

pub wrote_none : (start : ℕ → ℕ × Bool) (shape : SliceShape) (before : List Bool) (done : List Mb) (d : OutCoding) → length done ≡ 0 → Wrote start shape before (GoesOn shape done) d → Wrote start shape before (IsNext shape done) d
wrote_none start shape before [] d none w = wrote_same start shape before (GoesOn shape []) (IsNext shape []) d w (next_first shape)
wrote_none start shape before (mb ∷ done) d none w = absurd (omega (arith, none))

wrote_flag : (start : ℕ → ℕ × Bool) (shape : SliceShape) (before : List Bool) (done : List Mb) (d e : OutCoding) → 0 < length done → Wrote start shape before (GoesOn shape done) d → TakesBin d at_end false e → Wrote start shape before (IsNext shape done) e
wrote_flag start shape before done d e some w step =
    wrote_step start shape before (GoesOn shape done) (IsNext shape done) ((at_end, false) ∷ []) d e w (one_bin d e at_end false step) (next_behind shape done some)

pub wrote_end : (start : ℕ → ℕ × Bool) (shape : SliceShape) (before : List Bool) (done : List Mb) (d e : OutCoding) → Wrote start shape before (GoesOn shape done) d → TakesBin d at_end true e → Wrote start shape before (IsEnd done) e
wrote_end start shape before done d e w step =
    wrote_step start shape before (GoesOn shape done) (IsEnd done) ((at_end, true) ∷ []) d e w (one_bin d e at_end true step) (end_behind shape done)

-- ---- a macroblock

pub wrote_bins : (start : ℕ → ℕ × Bool) (shape : SliceShape) (before : List Bool) (done : List Mb) (mb : Mb) (d e : OutCoding) → Wrote start shape before (IsNext shape done) d
    → Writes TakesBin (bins_behind shape done) (without_samples mb) d e → Wrote start shape before (IsPut shape done mb) e
wrote_bins start shape before done mb d e w writes =
    let put = writes_put TakesBin (bins_behind shape done) (without_samples mb) d e writes in
    wrote_step start shape before (IsNext shape done) (IsPut shape done mb) put.0 d e w put.2
    (λ mbs pieces (rest, is, (tail, parts, are)).
    (mb, tail, rest, parts ∙ append_assoc done (mb ∷ []) tail, (put.0, put.1, ap (λ (l : List Piece). map coded put.0 ++ l) is), are))

pub wrote_plain : (start : ℕ → ℕ × Bool) (shape : SliceShape) (before : List Bool) (done : List Mb) (mb : Mb) (d : OutCoding) → is_i_pcm mb.kind ≡ false → Wrote start shape before (IsPut shape done mb) d
    → Wrote start shape before (GoesOn shape (done ++ mb ∷ [])) d
wrote_plain start shape before done mb d other w =
    wrote_same start shape before (IsPut shape done mb) (GoesOn shape (done ++ mb ∷ [])) d w
    (λ mbs pieces goes. (pieces, sym (ap (λ (l : List Piece). l ++ pieces) (no_samples mb other)), goes))

-- an encoder that can take no further bin took an end bin of 1
pub wrote_ended : (start : ℕ → ℕ × Bool) (shape : SliceShape) (before : List Bool) (Is : List Mb → List Piece → Type 0) (e : OutCoding) → Wrote start shape before Is e → e.encoder.range < 256 → IsEnded e.encoder
wrote_ended start shape before Is e w few =
    w.taken.encoded.stands.range_is ∙ segment_range (with_states (state_of start w.earlier) [] w.current) (w.taken.encoded.ended few)

-- ---- the end of a segment

regroup : (s c a b h : List Bool) → s ++ (c ++ (a ++ (b ++ h))) ≡ ((s ++ c) ++ (a ++ b)) ++ h
regroup s c a b h = simp append_assoc

pub wrote_samples : (start : ℕ → ℕ × Bool) (shape : SliceShape) (before : List Bool) (done : List Mb) (mb : Mb) (d next : OutCoding) (closed sunk : List Bool) (w : Wrote start shape before (IsPut shape done mb) d) → is_i_pcm mb.kind ≡ true
    → Closes w.sunk (with_states (state_of start w.earlier) [] w.current) closed → sunk ≡ closed ++ (alignment (length closed) ++ bits_of mb.pcm) → length mb.pcm ≡ 384
    → ((states : ℕ → ℕ × Bool) → HasStates states d.cells → HasTaken sunk states [] next)
    → Wrote start shape before (GoesOn shape (done ++ mb ∷ [])) next
unfolding Codes
wrote_samples start shape before done mb d next closed sunk w pcm closes put count taken =
    let code = closes.code in
    let place : alignment (length code) ≡ alignment (length closed) = boundary_is w.sunk code closed w.aligned closes.bits_are in
    record {
      sunk = sunk;
      earlier = w.earlier ++ w.current;
      current = [];
      taken = taken (state_of start (w.earlier ++ w.current)) (λ ctx below. w.taken.states ctx below ∙ ap Some (state_of-append start w.earlier w.current ctx));
      aligned =
          let gap : length (alignment (length closed)) ≡ (8 - length closed % 8) % 8 = length-replicate ((8 - length closed % 8) % 8) false in
          let size : length sunk ≡ length closed + (length (alignment (length closed)) + 8 * length mb.pcm) =
          ap length put ∙ length-append closed (alignment (length closed) ++ bits_of mb.pcm)
          ∙ ap (λ (n : ℕ). length closed + n) (length-append (alignment (length closed)) (bits_of mb.pcm) ∙ ap (λ (n : ℕ). length (alignment (length closed)) + n) (length-bits_of mb.pcm)) in
          omega (arith, gap, size, count);
      these = λ mbs pieces here is c.
          let all = w.these mbs (sampled mb.pcm ∷ pieces) (code ++ (alignment (length code) ++ (bits_of mb.pcm ++ here))) (pieces, sym (one_sampled mb pieces pcm), is) (code, here, closes.closing.is_code, λ h. closes.closing.last_is_one, refl, c) in (
            all.0,
            all.1,
            all.2 ∙ regroup w.sunk code (alignment (length code)) (bits_of mb.pcm) here ∙ ap (λ (l : List Bool). l ++ here)
                (ap (λ (l : List Bool). l ++ (alignment (length code) ++ bits_of mb.pcm)) (sym closes.bits_are) ∙ ap (λ (l : List Bool). closed ++ (l ++ bits_of mb.pcm)) place ∙ sym put),
          );
    }

pub wrote_all : (start : ℕ → ℕ × Bool) (shape : SliceShape) (before : List Bool) (done : List Mb) (e : OutCoding) (closed sunk : List Bool) (w : Wrote start shape before (IsEnd done) e)
    → Closes w.sunk (with_states (state_of start w.earlier) [] w.current) closed → Appended closed sunk (alignment (length closed))
    → (text : List Bool) × AreDataFrom true start shape (length before) done text × (sunk ≡ before ++ text)
unfolding Codes
wrote_all start shape before done e closed sunk w closes put =
    let code = closes.code in
    let place : alignment (length code) ≡ alignment (length closed) = boundary_is w.sunk code closed w.aligned closes.bits_are in
    let all = w.these done [] (code ++ (alignment (length code) ++ replicate (16 * 0) false)) (refl, refl) (code, 0, closes.closing.is_code, closes.closing.last_is_one, λ h. refl, refl) in (
      all.0,
      all.1,
      put.is ∙ ap (λ (l : List Bool). closed ++ l) (sym place) ∙ ap (λ (l : List Bool). l ++ alignment (length code)) closes.bits_are ∙ append_assoc w.sunk code (alignment (length code))
          ∙ ap (λ (l : List Bool). w.sunk ++ (code ++ l)) (sym (append-nil (alignment (length code)))) ∙ sym all.2,
    )

-- the flag where it was taken
pub flag_taken : {E : Type 0} (start : ℕ → ℕ × Bool) (shape : SliceShape) (before : List Bool) (done : List Mb) (d e : OutCoding) (result : Result (Unit {0}) E) → 0 < length done → Wrote start shape before (GoesOn shape done) d
    → OnOk result (TakesBin d at_end false e) → OnOk result (Wrote start shape before (IsNext shape done) e)
flag_taken start shape before done d e result some w step = on_ok result (λ taken. wrote_flag start shape before done d e some w taken) step

-- two texts, one behind the other
pub put_behind : (old mid new first second : List Bool) → Appended old mid first → Appended mid new second → new ≡ old ++ (first ++ second)
put_behind old mid new first second a b = b.is ∙ ap (λ (l : List Bool). l ++ second) a.is ∙ append_assoc old first second

-- a phase has one coder
coder_in : {B : Type 0} → OutCoding → Phase B → OutCoding
coder_in other (phases.Running coder) = coder
coder_in other (phases.Fresh contexts bits) = other
coder_in other phases.Over = other

pub same_coder : {B : Type 0} (phase : Phase B) (d e : OutCoding) → phase ≡ phases.Running d → phase ≡ phases.Running e → d ≡ e
unfolding coder_in
same_coder phase d e is other = ap (coder_in d) (sym is ∙ other)
