pub mod Faults
pub mod RefPicListModification
pub mod PredWeightTable
