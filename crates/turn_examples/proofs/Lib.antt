pub mod Both
pub mod Tries
pub mod Settled
pub mod Tallies
pub mod HistoryLaws
pub mod RefusalLaws
pub mod TwinLaws
