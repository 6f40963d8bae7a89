pub mod Twins
pub mod TwinLaws
pub mod Histories
pub mod HistoryLaws
pub mod Made
pub mod Refusals
pub mod RefusalLaws
