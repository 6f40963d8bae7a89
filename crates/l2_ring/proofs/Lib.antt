pub mod Sifted
pub mod Kept
pub mod Rows
pub mod PlanLaws
pub mod RangeLaws
