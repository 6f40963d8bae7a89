pub mod SyncFront
pub mod SyncInserts
pub mod SyncJoined
pub mod SyncOwned
pub mod SyncSteps
pub mod SyncTold
pub mod SyncTurned
pub mod SyncWrites
