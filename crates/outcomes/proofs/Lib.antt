pub mod StopLaws
pub mod SortLaws
pub mod StepLaws
pub mod ConcludeLaws
pub mod LeadLaws
pub mod Paying
pub mod Indexing
