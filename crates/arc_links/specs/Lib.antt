pub mod Linked
pub mod Nodes
pub mod PlainLinks
