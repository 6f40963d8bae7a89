pub mod CallerLemmas
pub mod CellLemmas
pub mod Changes
pub mod FitLemmas
pub mod HandLemmas
pub mod HeldLemmas
pub mod HoldLemmas
pub mod IndexLemmas
pub mod NumberLemmas
pub mod OutlineLemmas
pub mod PackLemmas
pub mod PinLemmas
pub mod Places
pub mod RankLemmas
pub mod ReplayLemmas
pub mod StepLemmas
mod WorkedHistories
