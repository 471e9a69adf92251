use Rattle.std.proofs.Common.{◌+◌, ◌*◌, ◌%◌, ◌^◌, ap}
use Rattle.bit_texts.proofs.Writing.{Appends-same}
use Rattle.cavlc_residual.proofs.WriteLemmas.{code_stands, code_and, none_and}
use Rattle.cavlc_residual.proofs.words.write_code_and.Goals as goal

pub put_bits-requires-clause-fits : goal.put_bits-requires-clause-fits
put_bits-requires-clause-fits g c =
    let here = code_stands c.args.table.now c.args.place c.in-Some.length c.in-Some.word _ c.code.ensures c.in-Some.is in
    (code_and c.args.table.now c.args.place _ _ c.args.n c.args.value _ c.requires.table here c.requires.few c.requires.fits (ap (λ m. m * 2 ^ c.args.n % 18446744073709551616 + c.args.value) c.from.ensures)).1

pub returns-in-Some : goal.returns-in-Some
returns-in-Some g c =
    let here = code_stands c.args.table.now c.args.place c.in-Some.length c.in-Some.word _ c.code.ensures c.in-Some.is in
    Appends-same _ _ _ _ _ (code_and c.args.table.now c.args.place _ _ c.args.n c.args.value _ c.requires.table here c.requires.few c.requires.fits (ap (λ m. m * 2 ^ c.args.n % 18446744073709551616 + c.args.value) c.from.ensures)).0 c.put_bits.ensures

pub returns-in-None : goal.returns-in-None
returns-in-None g c = Appends-same _ _ _ _ _ (none_and c.args.table.now c.args.place c.args.n c.args.value _ c.code.ensures c.in-None.is) c.put_bits-in-None.ensures
