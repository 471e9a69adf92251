use Rattle.std.proofs.Common.{◌≡◌, ◌≤◌, ◌++◌, ◌-◌, ℕ, length, take}
use Rattle.bit_texts.specs.Texts.{Completes}
use Rattle.exp_golomb.specs.Code.{ue}
use Rattle.h264_types.specs.Valid.{sub_bound}
use Rattle.cavlc_inter.proofs.subs.read_subs.Given as goal

abbrev pub invariant-loop-q : goal.invariant-loop-q
invariant-loop-q g l = record {
  size : length l.subs ≡ 4;
  completes : Completes (λ (s : ℕ) sub. sub ≤ sub_bound l.kind) (λ (s : ℕ) sub. ue sub) (λ (s sub : ℕ). s) 4 0 (g.B.BitSource.left l.initial.bits) (4 - l.q) 0 (g.B.BitSource.left l.bits) (take l.q l.subs);
  kept : g.B.BitSource.taken l.bits ++ g.B.BitSource.left l.bits ≡ g.B.BitSource.taken l.initial.bits ++ g.B.BitSource.left l.initial.bits;
}
