use Rattle.std.proofs.Common.{◌≡◌, ◌∷◌, ◌++◌, take, drop, slice_index, lit<, sym, subst, List, [], ℕ}
use Rattle.std.proofs.lemmas.List.{take-append-drop, take_more}
use Rattle.std.proofs.lemmas.Result.{err_from_is_err_and}
use Rattle.annexb_units.specs.Splitter.{Feeds, ShowsNone}
use Rattle.annexb_units.proofs.Runs.{stops-in, stops-none}
use Rattle.annexb_units.proofs.splitter.Splitter.take_front.Goals as goal

pub returns-in_err-keep_run-clause-err : goal.returns-in_err-keep_run-clause-err
returns-in_err-keep_run-clause-err c =
    let p = err_from_is_err_and c.from_residual.result c.from_residual.ensures.1 in
    rw (p.1, p.2) (stops-none c.args.self.now c.keep_run.new.self c.args.bytes.now c.in_err-keep_run.field-0.0 c.in_err-keep_run.ensures.err)

pub returns-in_err-push-clause-err : goal.returns-in_err-push-clause-err
returns-in_err-push-clause-err c =
    let p = err_from_is_err_and c.from_residual-in_err-push.result c.from_residual-in_err-push.ensures.1 in
    let bytes = c.args.bytes.now in
    let first : take 1 bytes ≡ slice_index bytes 0 ∷ [] = take_more bytes 0 0 c.requires in
    let all : bytes ≡ (slice_index bytes 0 ∷ []) ++ drop 1 bytes = subst (λ v. bytes ≡ v ++ drop 1 bytes) first (sym (take-append-drop 1 bytes)) in
    rw (p.1, p.2) (stops-in c.args.self.now c.push.new.self (slice_index bytes 0 ∷ []) (drop 1 bytes) bytes c.in_err-push.field-0.0 all c.in_err-push.ensures.err)

pub returns-clause-ok : goal.returns-clause-ok
returns-clause-ok c =
    let bytes = c.args.bytes.now in
    let first : take 1 bytes ≡ slice_index bytes 0 ∷ [] = take_more bytes 0 0 c.requires in
    let P : List ℕ → Type 0 = λ v. Feeds c.args.self.now c.push.new.self v × ShowsNone c.args.self.now v in
    let k = subst P (sym first) c.in_ok-push.ensures.ok in
    (lit< tt, c.requires, k.0, k.1)
