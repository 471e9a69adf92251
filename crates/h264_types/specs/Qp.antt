-- QPY of each macroblock (7.4.5).
use Rattle.std.specs.Prelude.{ℕ, ◌+◌, ℤ, pos, ◌+ℤ◌, List, take, fold, int_rem}
use Rattle.h264_types.specs.declared.macroblock.Mb.{Mb}

-- QPY after a macroblock with this mb_qp_delta, which is 0 where it isn't sent
abbrev pub next_qp : ℤ → ℤ → ℤ
next_qp qp delta = int_rem (qp +ℤ delta +ℤ pos 52) (pos 52)

-- QPY of macroblock k of a slice, which starts from SliceQPY
abbrev pub qp_of : ℕ → List Mb → ℕ → ℤ
qp_of slice_qp mbs k = fold (λ qp (mb : Mb). next_qp qp mb.qp_delta) (pos slice_qp) (take (k + 1) mbs)
