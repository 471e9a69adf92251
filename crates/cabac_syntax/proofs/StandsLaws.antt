-- What holds wherever a reader or a writer stands.
use Rattle.std.proofs.Common.{◌≡◌, ℕ, ◌+◌, ◌*◌, ◌<◌, true, false, List, [], ◌∷◌, ◌++◌, length, sym, subst, ◌∙◌, length-append, arith}
use Rattle.std.specs.Prelude.{All}
use Rattle.std.proofs.lemmas.List.Elements.{All-nil, All-push}
use Rattle.cabac_contexts.specs.Terms.{IsReadAt}
use Rattle.cabac_mb_residual.specs.Levels.{IsResidual}
use Rattle.h264_types.specs.LastRows.{LastRows, AreRows}
use Rattle.h264_types.specs.Valid.{IsMacroblock}
use Rattle.h264_types.specs.declared.macroblock.Mb.{Mb}
use Rattle.h264_types.specs.declared.slice_shape.SliceShape.{SliceShape}
use Rattle.cabac_syntax.specs.SliceData.{HasData}
use Rattle.cabac_syntax.specs.Standing.{Stands}

module _ (kept shape : SliceShape) (rows : LastRows Mb) (done : List Mb) (Place : Type 0) where
  -- where a macroblock is read or written beside the rows, there is room for it
  abbrev pub HasRoom : ℕ → Type 0
  HasRoom at = (at ≡ rows.count) × (kept.first + rows.count < kept.width * kept.height)

  pub here : (at : ℕ) → Stands kept rows shape done Place → HasRoom at → IsReadAt kept rows done at
  here at s room = (
    record {
      picture = omega (arith, room.0, room.1);
      are = subst (λ (x : SliceShape). AreRows (λ mb. mb) x rows done) (sym s.of) s.rows_are;
      before = (λ _. omega (arith, room.0), λ _. omega (arith, room.0));
      behind = (λ _. omega (arith, room.0), λ _. omega (arith, room.0));
    },
    omega (arith, room.0, s.rows_are.counted),
  )

  -- what is said of the shape that is kept, and of the number of the next macroblock, holds of this shape and list
  pub next_here : (P : SliceShape → ℕ → Type 0) (at : ℕ) → Stands kept rows shape done Place → HasRoom at → P kept at → P shape (length done)
  next_here P at s room p = subst (λ (x : SliceShape). P x (length done)) s.of (subst (λ (n : ℕ). P kept n) (room.0 ∙ s.rows_are.counted) p)

  all_done : (P : Mb → Type 0) → (0 < length done → All P done) → All P done
  all_done P some = by done some
    where
      by : (list : List Mb) → (0 < length list → All P list) → All P list
      by [] h = All-nil P
      by (mb ∷ list) h = h (omega arith)

  -- a macroblock more
  pub has_more : (at : ℕ) (mb : Mb) → Stands kept rows shape done Place → HasRoom at → IsMacroblock shape mb → IsResidual mb → mb.ref0 ≡ false → HasData shape (done ++ mb ∷ [])
  has_more at mb s room is residual plain =
      let size = length-append done (mb ∷ []) in
      let inside : shape.first + length done < shape.width * shape.height = subst (λ (x : SliceShape). x.first + length done < x.width * x.height) s.of (subst (λ (n : ℕ). kept.first + n < kept.width * kept.height) s.rows_are.counted room.1) in
      record {
        built = s.built.built;
        slice = record {
          is_shape = s.built.is_shape;
          some = omega (arith, size);
          inside = omega (arith, size, inside);
          macroblocks = All-push (IsMacroblock shape) done mb (all_done (IsMacroblock shape) (λ some. (s.given some).slice.macroblocks)) is;
          pairs = λ mbaff. absurd (let clash : true ≡ false = sym mbaff ∙ s.built.built.mbaff in cc);
        };
        residuals = All-push IsResidual done mb (all_done IsResidual (λ some. (s.given some).residuals)) residual;
        ref0 = All-push (λ (m : Mb). m.ref0 ≡ false) done mb (all_done (λ (m : Mb). m.ref0 ≡ false) (λ some. (s.given some).ref0)) plain;
      }

  -- at another place
  pub stands_at : (New : Type 0) → Stands kept rows shape done Place → New → Stands kept rows shape done New
  stands_at New s new = record { of = s.of; built = s.built; rows_are = s.rows_are; given = s.given; place = new }

  -- behind a macroblock more
  pub stands_more : (New : Type 0) (at : ℕ) (mb : Mb) (new : LastRows Mb) → Stands kept rows shape done Place → HasRoom at → IsMacroblock shape mb → IsResidual mb → mb.ref0 ≡ false
      → ((other : SliceShape) (mbs : List Mb) → AreRows (λ m. m) other rows mbs → AreRows (λ m. m) other new (mbs ++ mb ∷ [])) → New → Stands kept new shape (done ++ mb ∷ []) New
  stands_more New at mb new s room is residual plain pushed place =
      let has = has_more at mb s room is residual plain in
      record { of = s.of; built = s.built; rows_are = pushed shape done s.rows_are; given = λ _. has; place = place }
