pub mod Chains
pub mod Indexed
pub mod Indexes
pub mod Lends
pub mod PlainTable
