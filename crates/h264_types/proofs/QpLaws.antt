-- QPY goes round at 52.
use Rattle.std.proofs.Common.{◌≡◌, [], ◌∷◌, pos, ap}
use Rattle.h264_types.specs.declared.macroblock.Mb.{Mb}
use Rattle.h264_types.specs.Qp.{next_qp, qp_of}

pub goes_round : (mb : Mb) → mb.qp_delta ≡ pos 25 → qp_of 40 (mb ∷ []) 0 ≡ pos 13
goes_round mb delta = ap (next_qp (pos 40)) delta
