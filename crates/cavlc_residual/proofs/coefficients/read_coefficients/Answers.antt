use Rattle.std.proofs.Common.{◌∙◌, ◌≡◌, ◌≤◌, ◌+◌, ◌-◌, ◌++◌, ℤ, take, drop, to_z, of_z, w32, refl, ap, sym, subst, rules, arith}
use Rattle.std.proofs.lemmas.List.{take_all, drop_all, drop-append-le, take-append-le}
use Rattle.arrayvec.specs.ArrayVec.{array_vec_len}
use Rattle.std.proofs.lemmas.Int.{to_z-of_z}
use Rattle.std.specs.Option.{option_map}
use Rattle.bit_texts.proofs.Reading.{Reads-None}
use Rattle.cavlc_residual.specs.Coefficients.{coefficient_text, IsCoefficient}
use Rattle.cavlc_residual.proofs.CoefficientLemmas.{Completes-from, Completes-turn, Completes-stop, Completes-end}
use Rattle.cavlc_residual.proofs.coefficients.read_coefficients.Goals as goal

pub returns-in_err-level-clause-reads : goal.returns-in_err-level-clause-reads
returns-in_err-level-clause-reads g c =
    Reads-None _ _ _ _ _ (ap (option_map _) c.from_residual.ensures)
    (Completes-stop c.args.count (c.args.count - c.loop-i._i) (c.args.count - (c.loop-i._i + 1)) c.args.bound c.loop-i.suffix_length c.loop-i.extra c.args.suffix_length c.args.extra _ _ (g.B.BitSource.left c.read_coefficient.new.b) _ (omega arith) c.loop-i.invariant.completes c.in_err-level.ensures.reads)

pub loop-i-init : goal.loop-i-init
loop-i-init g c = record {
  kept = refl;
  taken = omega arith;
  before = take_all (array_vec_len c.args.levels.now) c.args.levels.now.items (omega arith);
  small = c.requires.small;
  completes = Completes-from c.args.count _ c.args.bound c.args.suffix_length c.args.extra _ _ (omega arith) (drop_all (array_vec_len c.args.levels.now) c.args.levels.now.items (omega arith));
}

pub loop-i-preserved : goal.loop-i-preserved
loop-i-preserved g c =
    let known = c.loop-i.invariant in
    let n = array_vec_len c.args.levels.now in
    let within : n ≤ array_vec_len c.loop-i.levels = omega (arith, known.taken) in
    record {
      kept = c.in_ok-level.ensures.kept ∙ known.kept;
      taken = omega (arith, known.taken, c.push.ensures.len);
      before = ap (take n) c.push.ensures.items ∙ take-append-le n c.loop-i.levels.items _ within ∙ known.before;
      small = c.suffix_length_after-suffix_length.ensures.small;
      completes =
          let same : to_z w32 (of_z w32 c.in_ok-level.level) ≡ c.in_ok-level.level = to_z-of_z w32 c.in_ok-level.level (search rules) in
          let P : ℤ → Type 0 = λ l. IsCoefficient c.loop-i.suffix_length c.loop-i.extra c.args.bound l × (g.B.BitSource.left c.loop-i.b ≡ coefficient_text c.loop-i.suffix_length c.loop-i.extra l ++ g.B.BitSource.left c.read_coefficient.new.b) in
          Completes-turn c.args.count (c.args.count - c.loop-i._i) (c.args.count - (c.loop-i._i + 1)) c.args.bound c.loop-i.suffix_length c.loop-i.extra c.args.suffix_length c.args.extra _ _ _ _ _ _ (to_z w32 (of_z w32 c.in_ok-level.level)) (omega arith) (omega arith) (omega arith) known.completes (subst P (sym same) c.in_ok-level.ensures.reads) c.suffix_length_after-suffix_length.ensures.next
          (ap (drop n) c.push.ensures.items ∙ drop-append-le n c.loop-i.levels.items _ within);
    }

pub returns-clause-reads : goal.returns-clause-reads
returns-clause-reads g c =
    Completes-end c.args.count (c.args.count - c.loop-i._i) c.args.bound c.loop-i.suffix_length c.loop-i.extra c.args.suffix_length c.args.extra _ _ _ (omega arith) c.loop-i.invariant.completes
