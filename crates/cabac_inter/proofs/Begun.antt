-- A macroblock as its prediction is written, list by list.
use Rattle.std.proofs.Common.{◌≡◌, ℕ, ◌<◌, ℤ, pos, List, [], ◌∷◌, length, replicate, refl, ap, ◌∙◌, arith}
use Rattle.std.specs.Prelude.{slice_set}
use Rattle.std.specs.List.{AllByRecursion}
use Rattle.std.proofs.lemmas.List.Elements.{All-replicate, All-from_recursion, recursion_from_All}
use Rattle.h264_types.specs.Sizes.{HasSizes}
use Rattle.h264_types.specs.declared.macroblock.Mb.{Mb}
use Rattle.cavlc_inter.specs.InterPrediction.{refs_of, mvds_of}
use Rattle.cabac_inter.specs.InterPrediction.{with_refs, with_mvds}
use Rattle.cabac_inter.specs.Stages.{with_subs, predicted, IsBegun}
use Rattle.cabac_inter.proofs.Fronts.{set_two}

abbrev IsMvdList : List (List ℤ) → Type 0
IsMvdList list = (length list ≡ 16) × AllByRecursion (λ vector. length vector ≡ 2) list

module _ (mb : Mb) (sizes : HasSizes mb) where
  ref_list : (x : ℕ) → x < 2 → length (refs_of x mb) ≡ 4
  ref_list x h = All-from_recursion (λ list. length list ≡ 4) mb.refs sizes.refs.1 x [] (omega (arith, h, sizes.refs.0))

  mvd_list : (x : ℕ) → x < 2 → IsMvdList (mvds_of x mb)
  mvd_list x h = All-from_recursion IsMvdList mb.mvd sizes.mvd.1 x [] (omega (arith, h, sizes.mvd.0))

  no_mvds : IsMvdList (replicate 16 (replicate 2 (pos 0)))
  no_mvds = (refl, recursion_from_All (λ (vector : List ℤ). length vector ≡ 2) (replicate 16 (replicate 2 (pos 0))) (All-replicate (λ (vector : List ℤ). length vector ≡ 2) 16 (replicate 2 (pos 0)) refl))

  begun : (a b : List ℕ) (u v : List (List ℤ)) → length a ≡ 4 → length b ≡ 4 → IsMvdList u → IsMvdList v → IsBegun mb (record (with_subs mb) { refs = a ∷ b ∷ []; mvd = u ∷ v ∷ [] })
  begun a b u v ha hb hu hv = record {
    kind = refl;
    field = refl;
    subs = refl;
    sizes = record {
      modes = refl;
      subs = sizes.subs;
      refs = (refl, (ha, (hb, tt)));
      mvd = (refl, (hu, (hv, tt)));
      dc = refl;
      luma = (refl, (refl, (refl, (refl, (refl, tt)))));
      chroma_dc = (refl, (refl, (refl, tt)));
      chroma_ac = (refl, ((refl, (refl, (refl, (refl, (refl, tt))))), ((refl, (refl, (refl, (refl, (refl, tt))))), tt)));
      pcm = refl;
    };
  }

  -- ---- before the indices of list 0, those of list 1, the differences of list 0, and those of list 1

  pub begun_subs : IsBegun mb (with_subs mb)
  begun_subs = begun (replicate 4 0) (replicate 4 0) (replicate 16 (replicate 2 (pos 0))) (replicate 16 (replicate 2 (pos 0))) refl refl no_mvds no_mvds

  pub begun_l0 : IsBegun mb (with_refs 0 (with_subs mb) (refs_of 0 mb))
  begun_l0 = begun (refs_of 0 mb) (replicate 4 0) (replicate 16 (replicate 2 (pos 0))) (replicate 16 (replicate 2 (pos 0))) (ref_list 0 (omega arith)) refl no_mvds no_mvds

  pub begun_refs : IsBegun mb (with_refs 1 (with_refs 0 (with_subs mb) (refs_of 0 mb)) (refs_of 1 mb))
  begun_refs = begun (refs_of 0 mb) (refs_of 1 mb) (replicate 16 (replicate 2 (pos 0))) (replicate 16 (replicate 2 (pos 0))) (ref_list 0 (omega arith)) (ref_list 1 (omega arith)) no_mvds no_mvds

  pub begun_mvds : IsBegun mb (with_mvds 0 (with_refs 1 (with_refs 0 (with_subs mb) (refs_of 0 mb)) (refs_of 1 mb)) (mvds_of 0 mb))
  begun_mvds = begun (refs_of 0 mb) (refs_of 1 mb) (mvds_of 0 mb) (replicate 16 (replicate 2 (pos 0))) (ref_list 0 (omega arith)) (ref_list 1 (omega arith)) (mvd_list 0 (omega arith)) no_mvds

  pub is_predicted : with_mvds 1 (with_mvds 0 (with_refs 1 (with_refs 0 (with_subs mb) (refs_of 0 mb)) (refs_of 1 mb)) (mvds_of 0 mb)) (mvds_of 1 mb) ≡ predicted mb
  is_predicted =
      let refs : slice_set (slice_set (replicate 2 (replicate 4 0)) 0 (refs_of 0 mb)) 1 (refs_of 1 mb) ≡ mb.refs = set_two (replicate 2 (replicate 4 0)) mb.refs [] refl sizes.refs.0 in
      let mvds : slice_set (slice_set (replicate 2 (replicate 16 (replicate 2 (pos 0)))) 0 (mvds_of 0 mb)) 1 (mvds_of 1 mb) ≡ mb.mvd = set_two (replicate 2 (replicate 16 (replicate 2 (pos 0)))) mb.mvd [] refl sizes.mvd.0 in
      ap (λ r. record (with_subs mb) { refs = r; mvd = slice_set (slice_set (replicate 2 (replicate 16 (replicate 2 (pos 0)))) 0 (mvds_of 0 mb)) 1 (mvds_of 1 mb) }) refs
      ∙ ap (λ m. record (with_subs mb) { refs = mb.refs; mvd = m }) mvds
