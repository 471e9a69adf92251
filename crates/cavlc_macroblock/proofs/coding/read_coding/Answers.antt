use Rattle.std.proofs.Common.{◌≡◌, ◌++◌, ℤ, Bool, None, ap, sym, subst, pos, to_z, of_z, w8, rules}
use Rattle.std.proofs.lemmas.Int.{to_z-of_z}
use Rattle.std.specs.Option.{option_map}
use Rattle.bit_texts.specs.Texts.{IsWhen, when_text}
use Rattle.bit_texts.proofs.Reading.{Reads-None}
use Rattle.exp_golomb.specs.Code.{se}
use Rattle.h264_types.specs.declared.macroblock.Pattern.{Pattern}
use Rattle.cavlc_macroblock.specs.MacroblockLayer.{IsFlag, IsPattern, no_pattern, IsQpDelta}
use Rattle.cavlc_macroblock.proofs.CodingChain.{Ranges, after_pattern, no_pattern_there, after_size, no_size, after_delta, no_delta, residual_of_coding}
use Rattle.cavlc_macroblock.proofs.coding.read_coding.Goals as goal

pub returns-in_err-mb-clause-reads : goal.returns-in_err-mb-clause-reads
returns-in_err-mb-clause-reads g c =
    let left = g.B.BitSource.left in
    Reads-None _ _ _ _ _ (ap (option_map _) c.from_residual.ensures)
    (no_pattern_there c.args.shape.now c.args.around.now c.args.bound c.args.mb.now c.sends_pattern.result c.is_i_nxn.result c.sends_pattern.ensures c.is_i_nxn.ensures (left c.args.bits.now) (left c.read_pattern_if.new.bits) (left c.read_pattern_if.new.bits) c.in_err-mb.ensures.reads)

pub returns-in_err-mb-2-clause-reads : goal.returns-in_err-mb-2-clause-reads
returns-in_err-mb-2-clause-reads g c =
    let left = g.B.BitSource.left in
    let t1 = left c.read_pattern_if.new.bits in
    let t2 = left c.read_t8_if.new.bits in
    Reads-None _ _ _ _ _ (ap (option_map _) c.from_residual-in_err-mb-2.ensures)
    (after_pattern c.args.shape.now c.args.around.now c.args.bound c.args.mb.now c.sends_pattern.result c.is_i_nxn.result c.sends_pattern.ensures c.is_i_nxn.ensures c.in_ok-mb.field-0 (left c.args.bits.now) t1 c.in_ok-mb.ensures.reads None t2
    (no_size c.args.shape.now c.args.around.now c.args.bound c.args.mb.now c.in_ok-mb.field-0 c.sends_t8_last.result c.sends_t8_last.ensures t1 t2 t2 c.in_err-mb-2.ensures.reads))

pub returns-in_err-mb-3-clause-reads : goal.returns-in_err-mb-3-clause-reads
returns-in_err-mb-3-clause-reads g c =
    let left = g.B.BitSource.left in
    let t1 = left c.read_pattern_if.new.bits in
    let t2 = left c.read_t8_if.new.bits in
    let t3 = left c.read_qp_delta_if.new.bits in
    Reads-None _ _ _ _ _ (ap (option_map _) c.from_residual-in_err-mb-3.ensures)
    (after_pattern c.args.shape.now c.args.around.now c.args.bound c.args.mb.now c.sends_pattern.result c.is_i_nxn.result c.sends_pattern.ensures c.is_i_nxn.ensures c.in_ok-mb.field-0 (left c.args.bits.now) t1 c.in_ok-mb.ensures.reads None t3
    (after_size c.args.shape.now c.args.around.now c.args.bound c.args.mb.now c.in_ok-mb.field-0 c.sends_t8_last.result c.sends_t8_last.ensures c.in_ok-mb-2.field-0 t1 t2 c.in_ok-mb-2.ensures.reads None t3
    (no_delta c.args.shape.now c.args.around.now c.args.bound c.args.mb.now c.in_ok-mb.field-0 c.in_ok-mb-2.field-0 c.sends_qp_delta.result c.sends_qp_delta.ensures t2 t3 t3 c.in_err-mb-3.ensures.reads)))

pub returns-clause-reads : goal.returns-clause-reads
returns-clause-reads g c =
    let left = g.B.BitSource.left in
    let shape = c.args.shape.now in
    let around = c.args.around.now in
    let bound = c.args.bound in
    let old = c.args.mb.now in
    let p : Pattern = c.in_ok-mb.field-0 in
    let t8 : Bool = c.in_ok-mb-2.field-0 in
    let delta : ℤ = to_z w8 (of_z w8 c.in_ok-mb-3.field-0) in
    let same : delta ≡ c.in_ok-mb-3.field-0 = to_z-of_z w8 c.in_ok-mb-3.field-0 (search rules) in
    let t1 = left c.read_pattern_if.new.bits in
    let t2 = left c.read_t8_if.new.bits in
    let t3 = left c.read_qp_delta_if.new.bits in
    let end = left c.read_residual.new.bits in
    let r = option_map (λ _. c.read_residual.new.mb) c.read_residual.result in
    let Q : ℤ → Type 0 = λ d. IsWhen c.sends_qp_delta.result (pos 0) IsQpDelta d × (t2 ≡ when_text c.sends_qp_delta.result se d ++ t3) in
    let read = subst Q (sym same) c.in_ok-mb-3.ensures.reads in
    let ranges : Ranges shape old p t8 delta = record {
      pattern = subst (λ b. IsWhen b no_pattern IsPattern p) c.sends_pattern.ensures c.in_ok-mb.ensures.reads.0;
      t8 = subst (λ b. IsWhen b old.t8 IsFlag t8) c.sends_t8_last.ensures c.in_ok-mb-2.ensures.reads.0;
      qp_delta = subst (λ b. IsWhen b (pos 0) IsQpDelta delta) c.sends_qp_delta.ensures read.0;
    } in
    after_pattern shape around bound old c.sends_pattern.result c.is_i_nxn.result c.sends_pattern.ensures c.is_i_nxn.ensures p (left c.args.bits.now) t1 c.in_ok-mb.ensures.reads r end
    (after_size shape around bound old p c.sends_t8_last.result c.sends_t8_last.ensures t8 t1 t2 c.in_ok-mb-2.ensures.reads r end
    (after_delta shape around bound old p t8 c.sends_qp_delta.result c.sends_qp_delta.ensures delta t2 t3 read r end
    (residual_of_coding shape around bound old p t8 delta ranges t3 r end c.read_residual.ensures.reads)))
