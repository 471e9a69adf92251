-- Where the last byte isn't 0, no zero word stands at the end.
use Rattle.std.proofs.Common.{◌≡◌, ◌∙◌, ◌-◌, ◌<◌, ap, arith, false, length, nat_eq, not, sym, true}
use Rattle.std.proofs.lemmas.Option.{get_or_from_slice_get}
use Rattle.slice_rewrite.proofs.AsItStands.{last_byte}
use Rattle.slice_rewrite.proofs.standing.ends_in_data.Goals as goal

pub returns-in-Some : goal.returns-in-Some
returns-in-Some c other front e =
    let bytes = c.args.bytes.now in
    let last = c.in-Some.last.now in
    let got = sym c.in-Some.ensures.value in
    let small : last < 256 = omega (arith, c.type_inv.bytes (length bytes - 1), get_or_from_slice_get bytes (length bytes - 1) last 0 got) in
    let both : false ≡ true = ap (λ n. not (nat_eq n 0)) (sym (last_byte bytes last front got small e)) ∙ other in
    cc
