-- What the proofs of several functions use, and what callers cite.
pub mod BoolLaws
pub mod ItemLaws
pub mod ListedLaws
pub mod TableLaws
pub mod NameLaws
pub mod HeadLaws
pub mod KindLaws
pub mod TreeLaws
pub mod BlockLaws
pub mod WorldLaws
pub mod RefusalLaws
pub mod FaultLaws
pub mod Spelled
pub mod Forest
pub mod Accepted
pub mod Shapes
pub mod Roots
