use Rattle.std.proofs.Common.{arith}
use Rattle.bit_texts.proofs.Reading.{Reads-None}
use Rattle.cavlc_residual.proofs.WindowLemmas.{no_code, code_cut, code_found}
use Rattle.cavlc_residual.proofs.words.read_code.Goals as goal

pub returns-in_err-place-clause-reads : goal.returns-in_err-place-clause-reads
returns-in_err-place-clause-reads g c =
    Reads-None _ _ _ _ _ c.from_residual.ensures (no_code _ c.window.result _ c.requires c.window.ensures c.in_err-place.ensures.begins)

pub returns-then-not-skip-clause-reads : goal.returns-then-not-skip-clause-reads
returns-then-not-skip-clause-reads g c =
    code_cut _ c.window.result c.in_ok-place.place _ c.requires c.window.ensures c.in_ok-place.ensures.begins (omega (arith, c.in_ok-place.ensures.length, c.if-not-skip.ensures.skipped.0))

pub returns-clause-reads : goal.returns-clause-reads
returns-clause-reads g c =
    code_found _ c.window.result c.in_ok-place.place c.in_ok-place.length _ _ c.window.ensures c.in_ok-place.ensures.begins c.in_ok-place.ensures.length c.if-not-skip.ensures.skipped.0 c.if-not-skip.ensures.skipped.1
