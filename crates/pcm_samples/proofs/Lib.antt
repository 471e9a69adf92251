pub mod AlignmentLaws
pub mod SampleBytes
