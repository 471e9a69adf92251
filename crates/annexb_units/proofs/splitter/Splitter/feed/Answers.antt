use Rattle.std.proofs.Common.{◌≡◌, slice_index, arith, sym, take, drop, List, ℕ, subst, length-drop}
use Rattle.std.proofs.lemmas.List.{take_all, take_rest, take-append-drop}
use Rattle.std.proofs.lemmas.List.Elements.{All-drop}
use Rattle.std.proofs.lemmas.Result.{err_from_is_err_and}
use Rattle.h264_types.specs.declared.fault.Why.{Why}
use Rattle.annexb_units.specs.declared.splitter.State.TheVariants.{Bad}
use Rattle.annexb_units.specs.declared.splitter.Splitter.{Splitter}
use Rattle.annexb_units.specs.declared.splitter.SplitFault.{SplitFault}
use Rattle.annexb_units.specs.declared.splitter.SplitFault.TheVariants.{Bad as BadFault, Memory}
use Rattle.annexb_units.specs.Splitter.{Feeds, ShowsNone, FeedStops, TakesFront, IsBad}
use Rattle.annexb_units.proofs.Runs.{good-not_bad, feeds-none, shows_none-none, feeds-front, stops-behind}
use Rattle.annexb_units.proofs.splitter.Splitter.feed.Goals as goal

not_bad : (s : Splitter) (fault : SplitFault) → ((why : Why) → s.state ≡ Bad why → ⊥) → IsBad s fault → ⊥
not_bad s (BadFault unit why) h k = h why k.0
not_bad s Memory h k = k

pub loop-at-init : goal.loop-at-init
loop-at-init c =
    let s = c.args.self.now in
    record { within = omega arith; fed = (feeds-none s, shows_none-none s (good-not_bad s.state c.in_default.not-Bad)) }

pub loop-at-preserved : goal.loop-at-preserved
loop-at-preserved c =
    let h = c.loop-at.invariant in
    let at = c.loop-at.at in
    let piece = c.args.piece.now in
    let P : List ℕ → Type 0 = λ b. TakesFront c.loop-at.self c.take_front.new.self b c.in_ok-at.field-0 in
    let k = subst P (take_rest piece at) c.in_ok-at.ensures.ok in
    record {
      within = omega (arith, k.1, h.within, length-drop at piece);
      fed = feeds-front c.args.self.now c.loop-at.self c.take_front.new.self at piece c.in_ok-at.field-0 h.fed k;
    }

pub returns : goal.returns
returns c =
    let s = c.args.self.now in
    let all = take_all c.loop-at.at c.args.piece.now c.loop-at-test.false in
    let P : List ℕ → Type 0 = λ b. Feeds s c.loop-at.self b × ShowsNone s b in
    record { ok = subst P all c.loop-at.invariant.fed; err = tt; zeros = λ none. tt; again = λ fault k. absurd (not_bad s fault c.in_default.not-Bad k) }

pub returns-in_err-at : goal.returns-in_err-at
returns-in_err-at c =
    let s = c.args.self.now in
    let at = c.loop-at.at in
    let piece = c.args.piece.now in
    let P : List ℕ → Type 0 = λ b. FeedStops c.loop-at.self c.take_front.new.self b c.in_err-at.field-0.0 in
    let Z : List ℕ → Type 0 = λ b. slice_index b 0 ≡ 0 in
    let p = err_from_is_err_and c.from_residual.result c.from_residual.ensures.1 in
    rw (p.1, p.2) record {
      ok = tt;
      err = stops-behind s c.loop-at.self c.take_front.new.self (take at piece) (drop at piece) piece c.in_err-at.field-0.0 (sym (take-append-drop at piece)) c.loop-at.invariant.fed.0 (subst P (take_rest piece at) c.in_err-at.ensures.err);
      zeros = λ all. c.in_err-at.ensures.zero (subst Z (sym (take_rest piece at)) (All-drop (λ x. x ≡ 0) at piece all 0 0 (omega (arith, c.loop-at-test.true, length-drop at piece))));
      again = λ fault k. absurd (not_bad s fault c.in_default.not-Bad k);
    }
