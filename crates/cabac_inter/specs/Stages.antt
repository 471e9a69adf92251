-- A P or B macroblock before its prediction and behind it: all other elements but its type and the flag of its pair are absent.
use Rattle.std.specs.Prelude.{◌≡◌}
use Rattle.h264_types.specs.Macroblock.{no_elements}
use Rattle.h264_types.specs.Sizes.{HasSizes}
use Rattle.h264_types.specs.declared.macroblock.Mb.{Mb}

abbrev pub typed : Mb → Mb
typed mb = record (no_elements mb.kind) { field = mb.field }

abbrev pub with_subs : Mb → Mb
with_subs mb = record (typed mb) { subs = mb.subs }

abbrev pub predicted : Mb → Mb
predicted mb = record (with_subs mb) { refs = mb.refs; mvd = mb.mvd }

-- the second macroblock has what tells the parts of the first one, and lists of any macroblock's sizes
pub record IsBegun (mb begun : Mb) : Type 0 where
  pub kind : begun.kind ≡ mb.kind
  pub field : begun.field ≡ mb.field
  pub subs : begun.subs ≡ mb.subs
  pub sizes : HasSizes begun
