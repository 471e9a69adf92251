-- Each macroblock is put behind those before.
use Rattle.std.proofs.Common.{[], List, false, pos, get_or, map, take, sym, subst}
use Rattle.std.proofs.lemmas.List.{map_more}
use Rattle.h264_types.specs.declared.macroblock.Mb.{Mb}
use Rattle.h264_types.specs.declared.macroblock.MbKind.TheVariants.{Skip}
use Rattle.slice_data.specs.WrittenForm.{written_mb}
use Rattle.slice_rewrite.proofs.SliceForms.{begins_at}
use Rattle.slice_rewrite.proofs.Normal.{written-written}
use Rattle.slice_rewrite.proofs.Stops.{next_front, stops_at}
use Rattle.slice_rewrite.proofs.writing.write_data.Goals as goal

-- what an index past the end would give
abbrev nothing : Mb
nothing = record {
  kind = Skip;
  ref0 = false;
  field = false;
  t8 = false;
  modes = [];
  chroma_mode = 0;
  subs = [];
  refs = [];
  mvd = [];
  pattern = record { luma = 0; chroma = 0 };
  qp_delta = pos 0;
  dc = [];
  luma = [];
  chroma_dc = [];
  chroma_ac = [];
  pcm = [];
}

pub put_written-requires-clause-next : goal.put_written-requires-clause-next
put_written-requires-clause-next g c kept =
    let to = g.W.SliceWriter.LAYER in
    let inv = c.loop-k.invariant in
    let writes = c.requires.writes in
    (sym (written-written to to (get_or c.args.mbs.now c.loop-k.k _)), (writes.0, c.args.shape, writes.1, map (written_mb to) (take c.loop-k.k c.args.mbs.now), inv.writes writes.0 writes.1 writes.2, begins_at to c.args.shape c.args.mbs.now c.loop-k.k _ c.loop-k-test.true c.requires.mbs inv.goes_on kept))

pub returns-in-Some-clause-err : goal.returns-in-Some-clause-err
returns-in-Some-clause-err g c =
    let to = g.W.SliceWriter.LAYER in
    let inv = c.loop-k.invariant in
    let writes = c.requires.writes in
    let done = map (written_mb to) (take c.loop-k.k c.args.mbs.now) in
    let put = c.in_ok-case.ensures writes.0 c.args.shape writes.1 done (inv.writes writes.0 writes.1 writes.2) in
    stops_at to c.args.shape c.args.mbs.now c.loop-k.k nothing c.in-Some.case c.loop-k-test.true inv.goes_on (rw c.in-Some.is at put).0

pub loop-k-preserved : goal.loop-k-preserved
loop-k-preserved g c =
    let W = g.W.SliceWriter in
    let to = W.LAYER in
    let inv = c.loop-k.invariant in
    let writes = c.requires.writes in
    let done = map (written_mb to) (take c.loop-k.k c.args.mbs.now) in
    let put = rw c.in_default.is at c.in_ok-case.ensures in
    record {
      writes = λ init before wrote.
          let L : List Mb → Type 0 = λ list. W.writes init c.put_written.new.writer c.args.shape before list in
          subst L (sym (map_more (written_mb to) c.args.mbs.now c.loop-k.k _ c.loop-k-test.true)) (put init c.args.shape before done (inv.writes init before wrote)).1;
      goes_on = next_front to c.args.shape c.args.mbs.now c.loop-k.k _ c.loop-k-test.true inv.goes_on (put writes.0 c.args.shape writes.1 done (inv.writes writes.0 writes.1 writes.2)).0;
    }
