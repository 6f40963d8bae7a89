pub mod Bytes
pub mod EntryBytes
pub mod HeaderBytes
pub mod LogBytes
pub mod Places
pub mod PointerBytes
pub mod Rules
pub mod Values
