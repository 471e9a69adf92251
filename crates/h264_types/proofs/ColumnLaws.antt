-- The macroblocks of a slice don't rest on the column of the contexts of CABAC.
use Rattle.std.proofs.Common.{◌≡◌, ℕ, ◌≤◌, List, ap, subst}
use Rattle.std.proofs.lemmas.List.Elements.{All-weaker}
use Rattle.h264_types.specs.declared.macroblock.Mb.{Mb}
use Rattle.h264_types.specs.declared.slice_shape.SliceShape.{SliceShape}
use Rattle.h264_types.specs.SliceShape.{IsSliceShape, without_column}
use Rattle.h264_types.specs.Valid.{IsListSent, IsMacroblock, IsPair, IsSlice}

column_list : (shape : SliceShape) (mb : Mb) (x column : ℕ) → IsListSent shape mb x → IsListSent (record shape { column = column }) mb x
column_list shape mb x column is = record { refs = is.refs; refs_repeat = is.refs_repeat; mvd = is.mvd; mvd_repeat = is.mvd_repeat }

column_macroblock : (shape : SliceShape) (column : ℕ) (mb : Mb) → IsMacroblock shape mb → IsMacroblock (record shape { column = column }) mb
column_macroblock shape column mb is = record {
  sizes = is.sizes;
  typed = record { kind = is.typed.kind; ref0 = is.typed.ref0; field = is.typed.field; t8 = is.typed.t8 };
  intra = is.intra;
  inter = record { subs = is.inter.subs; l0 = column_list shape mb 0 column is.inter.l0; l1 = column_list shape mb 1 column is.inter.l1 };
  coded = is.coded;
}

column_pair : (shape : SliceShape) (column : ℕ) (mbs : List Mb) (pair : ℕ) → IsPair shape mbs pair → IsPair (record shape { column = column }) mbs pair
column_pair shape column mbs pair is = record { same = is.same; inferred = is.inferred }

column_shape : (shape : SliceShape) (column : ℕ) → column ≤ 3 → IsSliceShape shape → IsSliceShape (record shape { column = column })
column_shape shape column h is = record {
  some = is.some;
  width = is.width;
  size = is.size;
  pairs = is.pairs;
  profile = is.profile;
  qp = is.qp;
  column = h;
  l0 = record { some = is.l0.some; few = is.l0.few };
  l1 = record { some = is.l1.some; few = is.l1.few };
}

pub column_slice : (shape : SliceShape) (column : ℕ) (mbs : List Mb) → column ≤ 3 → IsSlice shape mbs → IsSlice (record shape { column = column }) mbs
column_slice shape column mbs h is = record {
  is_shape = column_shape shape column h is.is_shape;
  some = is.some;
  inside = is.inside;
  macroblocks = All-weaker (IsMacroblock shape) (IsMacroblock (record shape { column = column })) (column_macroblock shape column) mbs is.macroblocks;
  pairs = λ mbaff. record { even = (is.pairs mbaff).even; each = λ pair below. column_pair shape column mbs pair ((is.pairs mbaff).each pair below) };
}

pub slices_of_both : (first second : SliceShape) (mbs : List Mb) → without_column first ≡ without_column second → second.column ≤ 3 → IsSlice first mbs → IsSlice second mbs
slices_of_both first second mbs same h is =
    subst (λ (s : SliceShape). IsSlice s mbs) (ap (λ (s : SliceShape). record s { column = second.column }) same) (column_slice first second.column mbs h is)
