-- The least macroblock that can't be written.
use Rattle.std.proofs.Common.{◌≡◌, ℕ, zero, suc, ◌+◌, ◌<◌, Bool, true, false, List, [], ◌∷◌, ◌++◌, length, get_or, take, drop, Option, Some, None, refl, sym, ap, ◌∙◌, arith}
use Rattle.std.specs.Prelude.{All, is_some, if◌then◌else◌}
use Rattle.std.proofs.lemmas.List.{take_more, take-append-drop, length-take-le}
use Rattle.cavlc_syntax.specs.SliceText.{prefix_bound, IsNotBeyond, HasText, is_beyond_in}
use Rattle.h264_types.specs.declared.fault.Case.{Case}
use Rattle.h264_types.specs.declared.fault.Case.TheVariants.{Empty, Level}
use Rattle.h264_types.specs.declared.layer.Layer.{Layer}
use Rattle.h264_types.specs.declared.layer.Layer.TheVariants.{Cavlc, Cabac}
use Rattle.h264_types.specs.declared.macroblock.Mb.{Mb}
use Rattle.h264_types.specs.declared.slice_shape.SliceShape.{SliceShape}
use Rattle.h264_types.specs.SliceShape.{without_column}
use Rattle.h264_types.specs.Valid.{IsMacroblock}
use Rattle.pattern_fix.specs.NormalPattern.{IsEmptied}
use Rattle.slice_rewrite.specs.Stops.{is_emptied, is_level_beyond, is_written_beyond, mb_stop, stop_or, stop_from, least_stop}
use Rattle.slice_data.specs.WrittenForm.{written_mb}
use Rattle.slice_rewrite.proofs.Normal.{emptied_is, written_is_within}

-- ## One macroblock

chosen : Bool → Bool → Option Case
chosen emptied beyond = if emptied then Some Empty else (if beyond then Some Level else None)

neither : (emptied beyond : Bool) → chosen emptied beyond ≡ None → (emptied ≡ false) × (beyond ≡ false)
unfolding chosen
neither true beyond e = absurd cc
neither false true e = absurd cc
neither false false e = (refl, refl)

not_both : (b : Bool) → b ≡ true → b ≡ false → ⊥
not_both b e f = let both : true ≡ false = sym e ∙ f in absurd cc

pub goes_kept : (to : Layer) (shape : SliceShape) (mb : Mb) → mb_stop to shape mb ≡ None → IsEmptied mb → ⊥
unfolding chosen
goes_kept to shape mb e is = not_both (is_emptied mb) ((emptied_is mb).1 is) (neither (is_emptied mb) (is_written_beyond to shape mb) e).0

pub goes_within : (shape : SliceShape) (mb : Mb) → mb_stop Cavlc shape mb ≡ None → IsNotBeyond shape (written_mb Cavlc mb)
unfolding chosen
goes_within shape mb e = (neither (is_emptied mb) (is_written_beyond Cavlc shape mb) e).1

pub stops_emptied : (to : Layer) (shape : SliceShape) (mb : Mb) → IsEmptied mb → mb_stop to shape mb ≡ Some Empty
stops_emptied to shape mb is = ap (λ b. if b then Some Empty else (if is_written_beyond to shape mb then Some Level else None)) ((emptied_is mb).1 is)

not_emptied : (mb : Mb) (b : Bool) → is_emptied mb ≡ b → (IsEmptied mb → ⊥) → b ≡ false
not_emptied mb true e kept = absurd (kept ((emptied_is mb).0 e))
not_emptied mb false e kept = refl

-- one that keeps its mb_qp_delta stops by its levels alone
pub stops_by_levels : (to : Layer) (shape : SliceShape) (mb : Mb) (beyond : Bool) → (IsEmptied mb → ⊥) → is_written_beyond to shape mb ≡ beyond → mb_stop to shape mb ≡ (if beyond then Some Level else None)
stops_by_levels to shape mb beyond kept e =
    ap (λ b. if b then Some Empty else (if is_written_beyond to shape mb then Some Level else None)) (not_emptied mb (is_emptied mb) refl kept) ∙ ap (λ b. if b then Some Level else None) e

-- no stop rests on the column
pub level_of_both : (to : Layer) (first second : SliceShape) (mb : Mb) → without_column first ≡ without_column second → is_level_beyond to first mb ≡ is_level_beyond to second mb
level_of_both Cavlc first second mb same = ap (λ (s : SliceShape). is_beyond_in s mb) same
level_of_both Cabac first second mb same = refl

pub stop_of_both : (to : Layer) (first second : SliceShape) (mb : Mb) → without_column first ≡ without_column second → mb_stop to first mb ≡ mb_stop to second mb
stop_of_both to first second mb same =
    ap (λ b. if is_emptied mb then Some Empty else (if b then Some Level else None)) (level_of_both to first second (written_mb to mb) same)

-- ## Lists

-- behind macroblocks that can be written, those that follow tell
pub stop_behind : (to : Layer) (shape : SliceShape) (k : ℕ) (xs ys : List Mb) → stop_from to shape k xs ≡ None → stop_from to shape k (xs ++ ys) ≡ stop_from to shape (k + length xs) ys
stop_behind to shape k [] ys e = ap (λ n. stop_from to shape n ys) (omega arith)
stop_behind to shape k (mb ∷ xs) ys e = by (λ f. stop_behind to shape (k + 1) xs ys f) (mb_stop to shape mb) e
  where
    by : (stop_from to shape (k + 1) xs ≡ None → stop_from to shape (k + 1) (xs ++ ys) ≡ stop_from to shape (k + 1 + length xs) ys) → (stop : Option Case) → stop_or stop k (stop_from to shape (k + 1) xs) ≡ None → stop_or stop k (stop_from to shape (k + 1) (xs ++ ys)) ≡ stop_from to shape (k + length (mb ∷ xs)) ys
    by later None f = later f ∙ ap (λ n. stop_from to shape n ys) (omega arith)
    by later (Some case) f = absurd cc

-- a stop stays, whatever follows
pub stop_kept : (to : Layer) (shape : SliceShape) (k : ℕ) (xs ys : List Mb) (stop : Case × ℕ) → stop_from to shape k xs ≡ Some stop → stop_from to shape k (xs ++ ys) ≡ Some stop
stop_kept to shape k [] ys stop e = absurd cc
stop_kept to shape k (mb ∷ xs) ys stop e = by (λ f. stop_kept to shape (k + 1) xs ys stop f) (mb_stop to shape mb) e
  where
    by : (stop_from to shape (k + 1) xs ≡ Some stop → stop_from to shape (k + 1) (xs ++ ys) ≡ Some stop) → (first : Option Case) → stop_or first k (stop_from to shape (k + 1) xs) ≡ Some stop → stop_or first k (stop_from to shape (k + 1) (xs ++ ys)) ≡ Some stop
    by later None f = later f
    by later (Some case) f = f

-- one macroblock more
pub stop_next : (to : Layer) (shape : SliceShape) (done : List Mb) (mb : Mb) (stop : Option Case) → least_stop to shape done ≡ None → mb_stop to shape mb ≡ stop → least_stop to shape (done ++ mb ∷ []) ≡ stop_or stop (length done) None
stop_next to shape done mb stop e f = stop_behind to shape 0 done (mb ∷ []) e ∙ ap (λ n. stop_from to shape n (mb ∷ [])) (omega arith) ∙ ap (λ s. stop_or s (length done) None) f

pub not_none : (stop : Case × ℕ) → Some stop ≡ None → ⊥
not_none stop e = absurd cc

pub none_of : (stop : Option (Case × ℕ)) → is_some stop ≡ false → stop ≡ None
none_of None e = refl
none_of (Some stop) e = absurd cc

pub some_stays : {A : Type 0} (stop : Option (Case × ℕ)) → is_some stop ≡ true → stop ≡ None → A
some_stays stop e none = absurd (let both : true ≡ false = sym e ∙ ap is_some none in cc)

-- behind a macroblock that can't be written the least one stays
pub stop_stays : (to : Layer) (shape : SliceShape) (done : List Mb) (mb : Mb) (stop : Option (Case × ℕ)) → least_stop to shape done ≡ stop → is_some stop ≡ true → least_stop to shape (done ++ mb ∷ []) ≡ stop
stop_stays to shape done mb None e some = absurd cc
stop_stays to shape done mb (Some stop) e some = stop_kept to shape 0 done (mb ∷ []) stop e

-- where no macroblock stops, each one goes on
pub all_go : (to : Layer) (shape : SliceShape) (k : ℕ) (mbs : List Mb) → stop_from to shape k mbs ≡ None → All (λ mb. mb_stop to shape mb ≡ None) mbs
all_go to shape k [] e j d below = absurd (omega (arith, below))
all_go to shape k (mb ∷ mbs) e zero d below = by (mb_stop to shape mb) e
  where
    by : (stop : Option Case) → stop_or stop k (stop_from to shape (k + 1) mbs) ≡ None → stop ≡ None
    by None f = refl
    by (Some case) f = absurd cc
all_go to shape k (mb ∷ mbs) e (suc j) d below = all_go to shape (k + 1) mbs (by (mb_stop to shape mb) e) j d (omega (arith, below))
  where
    by : (stop : Option Case) → stop_or stop k (stop_from to shape (k + 1) mbs) ≡ None → stop_from to shape (k + 1) mbs ≡ None
    by None f = f
    by (Some case) f = absurd cc

pub none_emptied : (to : Layer) (shape : SliceShape) (mbs : List Mb) → least_stop to shape mbs ≡ None → All (λ mb. IsEmptied mb → ⊥) mbs
none_emptied to shape mbs e k d below = goes_kept to shape (get_or mbs k d) (all_go to shape 0 mbs e k d below)

-- ## The first k macroblocks

-- macroblock k stands behind the first k
pub next_front : (to : Layer) (shape : SliceShape) (mbs : List Mb) (k : ℕ) (d : Mb) → k < length mbs → least_stop to shape (take k mbs) ≡ None → mb_stop to shape (get_or mbs k d) ≡ None → least_stop to shape (take (k + 1) mbs) ≡ None
next_front to shape mbs k d below e f = ap (least_stop to shape) (take_more mbs k d below) ∙ stop_next to shape (take k mbs) (get_or mbs k d) None e f

pub stops_at : (to : Layer) (shape : SliceShape) (mbs : List Mb) (k : ℕ) (d : Mb) (case : Case) → k < length mbs → least_stop to shape (take k mbs) ≡ None → mb_stop to shape (get_or mbs k d) ≡ Some case → least_stop to shape mbs ≡ Some (case, k)
stops_at to shape mbs k d case below e f =
    let front = stop_next to shape (take k mbs) (get_or mbs k d) (Some case) e f ∙ ap (λ n. Some (case, n)) (length-take-le k mbs (omega (arith, below))) in
    ap (least_stop to shape) (sym (take-append-drop (k + 1) mbs))
    ∙ stop_kept to shape 0 (take (k + 1) mbs) (drop (k + 1) mbs) (case, k) (ap (least_stop to shape) (take_more mbs k d below) ∙ front)

-- ## Levels that were read

same_stop : (shape : SliceShape) (mb : Mb) → IsMacroblock shape mb → IsNotBeyond shape mb → mb_stop Cavlc shape mb ≡ mb_stop Cabac shape mb
same_stop shape mb is within = by (is_emptied mb) refl
  where
    by : (emptied : Bool) → is_emptied mb ≡ emptied
        → (if emptied then Some Empty else (if is_beyond_in shape (written_mb Cavlc mb) then Some Level else None)) ≡ (if emptied then Some Empty else None)
    by true e = refl
    by false e = ap (λ b. if b then Some Level else None) (written_is_within Cavlc shape (prefix_bound shape) mb is.sizes is (λ gone. not_both (is_emptied mb) ((emptied_is mb).1 gone) e) within)

same_stops : (shape : SliceShape) (k : ℕ) (mbs : List Mb) → All (IsMacroblock shape) mbs → All (IsNotBeyond shape) mbs → stop_from Cavlc shape k mbs ≡ stop_from Cabac shape k mbs
same_stops shape k [] are within = refl
same_stops shape k (mb ∷ mbs) are within =
    ap (λ s. stop_or s k (stop_from Cavlc shape (k + 1) mbs)) (same_stop shape mb (are 0 mb (omega arith)) (within 0 mb (omega arith)))
    ∙ ap (stop_or (mb_stop Cabac shape mb) k) (same_stops shape (k + 1) mbs (λ j d below. are (suc j) d (omega (arith, below))) (λ j d below. within (suc j) d (omega (arith, below))))

pub stops_without_levels : (shape : SliceShape) (mbs : List Mb) → HasText shape mbs → least_stop Cavlc shape mbs ≡ least_stop Cabac shape mbs
stops_without_levels shape mbs text = same_stops shape 0 mbs text.slice.macroblocks text.within
