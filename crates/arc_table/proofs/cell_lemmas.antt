pub mod CellGives
pub mod CellsInHand
pub mod CellsInReads
pub mod EntriesSeen
pub mod InsertEvents
