pub mod Queue
pub mod RangeLaws
pub mod Ranges
pub mod Ring
pub mod Stays
