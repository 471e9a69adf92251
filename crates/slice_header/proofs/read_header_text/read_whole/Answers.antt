use Rattle.slice_header.specs.Views.{start_view}
use Rattle.slice_header.proofs.HeaderFound.{start_found}
use Rattle.slice_header.proofs.read_header_text.read_whole.Goals as goal

pub returns-clause-names : goal.returns-clause-names
returns-clause-names g c = (start_found c.args.sets.now c.args.header _ _ (start_view c.in_ok-start.start) c.in_ok-h.h _ c.in_ok-start.ensures.answers c.in_ok-h.ensures.answers).names

pub returns-clause-fits : goal.returns-clause-fits
returns-clause-fits g c =
    let f = start_found c.args.sets.now c.args.header _ _ (start_view c.in_ok-start.start) c.in_ok-h.h _ c.in_ok-start.ensures.answers c.in_ok-h.ensures.answers in
    (f.fits, f.nal_is)
