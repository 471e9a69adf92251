use Rattle.std.proofs.Common.{ℕ, subst}
use Rattle.h264_types.specs.Valid.{IsWithin}
use Rattle.h264_types.proofs.validity.is_luma_coded.Goals as goal

pub returns-then-is_within : goal.returns-then-is_within
returns-then-is_within c =
    let within : ℕ → Type 0 = λ bound. IsWithin bound c.args.mb.now.dc in (
      (λ quarters. record {
        dc = subst within c.greatest_dc.ensures (c.is_within.ensures.0 c.if-is_within.true);
        quarters = c.are_quarters_coded.ensures.0 quarters;
      }),
      (λ coded. c.are_quarters_coded.ensures.1 coded.quarters),
    )
