-- The whole prediction of a macroblock, list by list.
use Rattle.std.proofs.Common.{ℕ, Bool, List, Option, Some, None}
use Rattle.cabac_engine.specs.Bins.{Slot}
use Rattle.binarisation.specs.BinString.{Reads, Writes, ◌>>=◌}
use Rattle.binarisation.proofs.Strings.{reads_then, reads_none, writes_then}
use Rattle.h264_types.specs.declared.macroblock.Mb.{Mb}
use Rattle.h264_types.specs.declared.slice_shape.SliceShape.{SliceShape}
use Rattle.cabac_inter.specs.InterPrediction.{subs, refs, mvds, inter_prediction}

module _ {S : Type 0} (step : S → Slot → Option Bool → S → Type 0) (shape : SliceShape) (done : List Mb) (at : ℕ) (mb : Mb) (s t : S) where
  pub stops_at_subs : Reads step (subs mb) None s t → Reads step (inter_prediction shape done at mb) None s t
  unfolding inter_prediction
  stops_at_subs none =
      reads_none step (subs mb >>= refs shape done at 0 >>= refs shape done at 1 >>= mvds shape done at 0) (mvds shape done at 1) s t
      (reads_none step (subs mb >>= refs shape done at 0 >>= refs shape done at 1) (mvds shape done at 0) s t
      (reads_none step (subs mb >>= refs shape done at 0) (refs shape done at 1) s t
      (reads_none step (subs mb) (refs shape done at 0) s t none)))

  module _ (a : Mb) (m : S) (first : Reads step (subs mb) (Some a) s m) where
    pub stops_at_refs : Reads step (refs shape done at 0 a) None m t → Reads step (inter_prediction shape done at mb) None s t
    unfolding inter_prediction
    stops_at_refs none =
        reads_none step (subs mb >>= refs shape done at 0 >>= refs shape done at 1 >>= mvds shape done at 0) (mvds shape done at 1) s t
        (reads_none step (subs mb >>= refs shape done at 0 >>= refs shape done at 1) (mvds shape done at 0) s t
        (reads_none step (subs mb >>= refs shape done at 0) (refs shape done at 1) s t
        (reads_then step (subs mb) (refs shape done at 0) a None s m t first none)))

    module _ (b : Mb) (n : S) (second : Reads step (refs shape done at 0 a) (Some b) m n) where
      two : Reads step (subs mb >>= refs shape done at 0) (Some b) s n
      two = reads_then step (subs mb) (refs shape done at 0) a (Some b) s m n first second

      pub stops_at_more_refs : Reads step (refs shape done at 1 b) None n t → Reads step (inter_prediction shape done at mb) None s t
      unfolding inter_prediction
      stops_at_more_refs none =
          reads_none step (subs mb >>= refs shape done at 0 >>= refs shape done at 1 >>= mvds shape done at 0) (mvds shape done at 1) s t
          (reads_none step (subs mb >>= refs shape done at 0 >>= refs shape done at 1) (mvds shape done at 0) s t
          (reads_then step (subs mb >>= refs shape done at 0) (refs shape done at 1) b None s n t two none))

      module _ (d : Mb) (o : S) (third : Reads step (refs shape done at 1 b) (Some d) n o) where
        three : Reads step (subs mb >>= refs shape done at 0 >>= refs shape done at 1) (Some d) s o
        three = reads_then step (subs mb >>= refs shape done at 0) (refs shape done at 1) b (Some d) s n o two third

        pub stops_at_mvds : Reads step (mvds shape done at 0 d) None o t → Reads step (inter_prediction shape done at mb) None s t
        unfolding inter_prediction
        stops_at_mvds none =
            reads_none step (subs mb >>= refs shape done at 0 >>= refs shape done at 1 >>= mvds shape done at 0) (mvds shape done at 1) s t
            (reads_then step (subs mb >>= refs shape done at 0 >>= refs shape done at 1) (mvds shape done at 0) d None s o t three none)

        pub reads_all : (e : Mb) (p : S) (result : Option Mb) → Reads step (mvds shape done at 0 d) (Some e) o p → Reads step (mvds shape done at 1 e) result p t → Reads step (inter_prediction shape done at mb) result s t
        unfolding inter_prediction
        reads_all e p result fourth last =
            reads_then step (subs mb >>= refs shape done at 0 >>= refs shape done at 1 >>= mvds shape done at 0) (mvds shape done at 1) e result s p t
            (reads_then step (subs mb >>= refs shape done at 0 >>= refs shape done at 1) (mvds shape done at 0) d (Some e) s o p three fourth) last

pub writes_all : {S : Type 0} (step : S → Slot → Bool → S → Type 0) (shape : SliceShape) (done : List Mb) (at : ℕ) (mb a b c d e : Mb) (s m n o p t : S)
    → Writes step (subs mb) a s m → Writes step (refs shape done at 0 a) b m n → Writes step (refs shape done at 1 b) c n o → Writes step (mvds shape done at 0 c) d o p → Writes step (mvds shape done at 1 d) e p t
    → Writes step (inter_prediction shape done at mb) e s t
unfolding inter_prediction
writes_all step shape done at mb a b c d e s m n o p t first second third fourth last =
    writes_then step (subs mb >>= refs shape done at 0 >>= refs shape done at 1 >>= mvds shape done at 0) (mvds shape done at 1) d e s p t
    (writes_then step (subs mb >>= refs shape done at 0 >>= refs shape done at 1) (mvds shape done at 0) c d s o p
    (writes_then step (subs mb >>= refs shape done at 0) (refs shape done at 1) b c s n o
    (writes_then step (subs mb) (refs shape done at 0) a b s m n first second) third) fourth) last
