use Rattle.std.proofs.Common.{refl}
use Rattle.param_sets.specs.Refusal.{sps_says}
use Rattle.param_sets.specs.SequenceParameterSet.{sps_high}
use Rattle.param_sets.proofs.Straight.{absent, done, ends, here, part_fails, part_reads, passes, passes_at, reads, refused, refused_at}
use Rattle.param_sets.proofs.read_sps_text.read_high.Goals as goal

pub returns-in_err-chroma_format_idc : goal.returns-in_err-chroma_format_idc
unfolding sps_high
returns-in_err-chroma_format_idc g c =
    absent sps_says _ _ _ c.from_residual.ensures.1 c.in_err-chroma_format_idc.ensures.0 refl
    (ends c.in_err-chroma_format_idc.ensures.1)

pub returns-then-chroma_format_idc-ne1 : goal.returns-then-chroma_format_idc-ne1
unfolding sps_high
returns-then-chroma_format_idc-ne1 g c =
    (reads c.in_ok-chroma_format_idc.ensures
    (refused_at _ _ c.if-chroma_format_idc-ne1.true)).is

pub returns-in_err-bit_depth_luma_minus8 : goal.returns-in_err-bit_depth_luma_minus8
unfolding sps_high
returns-in_err-bit_depth_luma_minus8 g c =
    absent sps_says _ _ _ c.from_residual-in_err-bit_depth_luma_minus8.ensures.1 c.in_err-bit_depth_luma_minus8.ensures.0 refl
    (reads c.in_ok-chroma_format_idc.ensures
    (passes_at _ _ c.if-chroma_format_idc-ne1.false
    (ends c.in_err-bit_depth_luma_minus8.ensures.1)))

pub returns-then-bit_depth_luma_minus8-ne0 : goal.returns-then-bit_depth_luma_minus8-ne0
unfolding sps_high
returns-then-bit_depth_luma_minus8-ne0 g c =
    (reads c.in_ok-chroma_format_idc.ensures
    (passes_at _ _ c.if-chroma_format_idc-ne1.false
    (reads c.in_ok-bit_depth_luma_minus8.ensures
    (refused_at _ _ c.if-bit_depth_luma_minus8-ne0.true)))).is

pub returns-in_err-bit_depth_chroma_minus8 : goal.returns-in_err-bit_depth_chroma_minus8
unfolding sps_high
returns-in_err-bit_depth_chroma_minus8 g c =
    absent sps_says _ _ _ c.from_residual-in_err-bit_depth_chroma_minus8.ensures.1 c.in_err-bit_depth_chroma_minus8.ensures.0 refl
    (reads c.in_ok-chroma_format_idc.ensures
    (passes_at _ _ c.if-chroma_format_idc-ne1.false
    (reads c.in_ok-bit_depth_luma_minus8.ensures
    (passes_at _ _ c.if-bit_depth_luma_minus8-ne0.false
    (ends c.in_err-bit_depth_chroma_minus8.ensures.1)))))

pub returns-then-bit_depth_chroma_minus8-ne0 : goal.returns-then-bit_depth_chroma_minus8-ne0
unfolding sps_high
returns-then-bit_depth_chroma_minus8-ne0 g c =
    (reads c.in_ok-chroma_format_idc.ensures
    (passes_at _ _ c.if-chroma_format_idc-ne1.false
    (reads c.in_ok-bit_depth_luma_minus8.ensures
    (passes_at _ _ c.if-bit_depth_luma_minus8-ne0.false
    (reads c.in_ok-bit_depth_chroma_minus8.ensures
    (refused_at _ _ c.if-bit_depth_chroma_minus8-ne0.true)))))).is

pub returns-in_err-qpprime_y_zero_transform_bypass_flag : goal.returns-in_err-qpprime_y_zero_transform_bypass_flag
unfolding sps_high
returns-in_err-qpprime_y_zero_transform_bypass_flag g c =
    absent sps_says _ _ _ c.from_residual-in_err-qpprime_y_zero_transform_bypass_flag.ensures.1 c.in_err-qpprime_y_zero_transform_bypass_flag.ensures.0 refl
    (reads c.in_ok-chroma_format_idc.ensures
    (passes_at _ _ c.if-chroma_format_idc-ne1.false
    (reads c.in_ok-bit_depth_luma_minus8.ensures
    (passes_at _ _ c.if-bit_depth_luma_minus8-ne0.false
    (reads c.in_ok-bit_depth_chroma_minus8.ensures
    (passes_at _ _ c.if-bit_depth_chroma_minus8-ne0.false
    (ends c.in_err-qpprime_y_zero_transform_bypass_flag.ensures.1)))))))

pub returns-then-qpprime_y_zero_transform_bypass_flag : goal.returns-then-qpprime_y_zero_transform_bypass_flag
unfolding sps_high
returns-then-qpprime_y_zero_transform_bypass_flag g c =
    (reads c.in_ok-chroma_format_idc.ensures
    (passes_at _ _ c.if-chroma_format_idc-ne1.false
    (reads c.in_ok-bit_depth_luma_minus8.ensures
    (passes_at _ _ c.if-bit_depth_luma_minus8-ne0.false
    (reads c.in_ok-bit_depth_chroma_minus8.ensures
    (passes_at _ _ c.if-bit_depth_chroma_minus8-ne0.false
    (reads c.in_ok-qpprime_y_zero_transform_bypass_flag.ensures
    (refused _ _ c.if-qpprime_y_zero_transform_bypass_flag.true)))))))).is

pub returns-in_err-seq_scaling_matrix_present_flag : goal.returns-in_err-seq_scaling_matrix_present_flag
unfolding sps_high
returns-in_err-seq_scaling_matrix_present_flag g c =
    absent sps_says _ _ _ c.from_residual-in_err-seq_scaling_matrix_present_flag.ensures.1 c.in_err-seq_scaling_matrix_present_flag.ensures.0 refl
    (reads c.in_ok-chroma_format_idc.ensures
    (passes_at _ _ c.if-chroma_format_idc-ne1.false
    (reads c.in_ok-bit_depth_luma_minus8.ensures
    (passes_at _ _ c.if-bit_depth_luma_minus8-ne0.false
    (reads c.in_ok-bit_depth_chroma_minus8.ensures
    (passes_at _ _ c.if-bit_depth_chroma_minus8-ne0.false
    (reads c.in_ok-qpprime_y_zero_transform_bypass_flag.ensures
    (passes _ _ c.if-qpprime_y_zero_transform_bypass_flag.false
    (ends c.in_err-seq_scaling_matrix_present_flag.ensures.1)))))))))

pub returns-in_err-scaling_lists : goal.returns-in_err-scaling_lists
unfolding sps_high
returns-in_err-scaling_lists g c =
    part_fails _ _ _ _ _ _ _ c.from_residual-in_err-scaling_lists.ensures.1 c.in_err-scaling_lists.ensures
    (reads c.in_ok-chroma_format_idc.ensures
    (passes_at _ _ c.if-chroma_format_idc-ne1.false
    (reads c.in_ok-bit_depth_luma_minus8.ensures
    (passes_at _ _ c.if-bit_depth_luma_minus8-ne0.false
    (reads c.in_ok-bit_depth_chroma_minus8.ensures
    (passes_at _ _ c.if-bit_depth_chroma_minus8-ne0.false
    (reads c.in_ok-qpprime_y_zero_transform_bypass_flag.ensures
    (passes _ _ c.if-qpprime_y_zero_transform_bypass_flag.false
    (reads c.in_ok-seq_scaling_matrix_present_flag.ensures
    here)))))))))

pub returns : goal.returns
unfolding sps_high
returns g c =
    (reads c.in_ok-chroma_format_idc.ensures
    (passes_at _ _ c.if-chroma_format_idc-ne1.false
    (reads c.in_ok-bit_depth_luma_minus8.ensures
    (passes_at _ _ c.if-bit_depth_luma_minus8-ne0.false
    (reads c.in_ok-bit_depth_chroma_minus8.ensures
    (passes_at _ _ c.if-bit_depth_chroma_minus8-ne0.false
    (reads c.in_ok-qpprime_y_zero_transform_bypass_flag.ensures
    (passes _ _ c.if-qpprime_y_zero_transform_bypass_flag.false
    (reads c.in_ok-seq_scaling_matrix_present_flag.ensures
    (part_reads _ _ _ c.in_ok-scaling_lists.ensures
    done)))))))))).is
