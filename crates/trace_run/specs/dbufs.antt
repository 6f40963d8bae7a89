pub mod CellEnds
pub mod DbufTurns
pub mod Holders
pub mod ObjectAnswers
pub mod ObjectLines
pub mod ObjectReplies
pub mod Objects
