pub mod FoundLemmas
pub mod QueueLemmas
pub mod SlotLemmas
