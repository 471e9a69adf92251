use Rattle.std.proofs.Common.{List, [], refl, ap, map, subst, sym}
use Rattle.h264_types.specs.Units.{seen}
use Rattle.slice_rewrite.specs.Options.{options}
use Rattle.stream_recoder.specs.Written.{Written, GoesAlong}
use Rattle.stream_recoder.proofs.recoder.Recoder.new.Goals as goal

pub returns : goal.returns
unfolding seen
returns g c = (
  record {
    items = [];
    holds = record {
      splitter = c.new.ensures;
      judged = refl;
      written = ap (λ v. map (λ w. let x : Written = record { form = w.0.items; event = w.1 } in x) v) c.new-4.ensures.items;
      count = refl;
      stands = record { sets_are = c.new-2.ensures; begun = c.new-3.ensures };
      picked =
          let P = g.P.InitPick in
          let o = options c.args.plan c.args.init (P.tried c.args.pick) in
          let written = ap (λ v. map (λ w. let x : Written = record { form = w.0.items; event = w.1 } in x) v) c.new-4.ensures.items in
          let G : List Written → Type 0 = λ v. GoesAlong P.tried P.step o [] [] v c.args.pick c.args.pick in
          subst G (sym written) refl;
    };
    sound = refl;
    on = refl;
  },
  refl,
  refl,
)
