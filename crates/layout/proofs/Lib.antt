pub mod NumberLaws
pub mod StoreLaws
pub mod FormatLaws
pub mod TextLaws
pub mod ArmLaws
