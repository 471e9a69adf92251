use Rattle.std.proofs.Common.{◌≡◌, length, [], arith}
use Rattle.std.proofs.lemmas.List.Elements.{recursion_from_All}
use Rattle.h264_types.proofs.Lists.{two_all}
use Rattle.h264_types.proofs.sizes.has_sizes.Goals as goal

pub returns : goal.returns
returns c = record {
  modes = omega arith;
  subs = omega arith;
  refs = (omega arith, recursion_from_All (λ list. length list ≡ 4) c.args.mb.now.refs c.have_sizes.ensures.each);
  mvd = (
    omega arith,
    two_all _ [] c.args.mb.now.mvd (omega arith)
        (c.have_sizes-2.ensures.count, recursion_from_All (λ difference. length difference ≡ 2) _ c.have_sizes-2.ensures.each)
        (c.have_sizes-3.ensures.count, recursion_from_All (λ difference. length difference ≡ 2) _ c.have_sizes-3.ensures.each),
  );
  dc = omega arith;
  luma = (omega arith, recursion_from_All (λ quarter. length quarter ≡ 64) c.args.mb.now.luma c.have_sizes-4.ensures.each);
  chroma_dc = (omega arith, recursion_from_All (λ list. length list ≡ 4) c.args.mb.now.chroma_dc c.have_sizes-5.ensures.each);
  chroma_ac = (
    omega arith,
    two_all _ [] c.args.mb.now.chroma_ac (omega arith)
        (c.have_sizes-6.ensures.count, recursion_from_All (λ block. length block ≡ 15) _ c.have_sizes-6.ensures.each)
        (c.have_sizes-7.ensures.count, recursion_from_All (λ block. length block ≡ 15) _ c.have_sizes-7.ensures.each),
  );
  pcm = omega arith;
}
