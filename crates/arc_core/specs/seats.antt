pub mod EntryRows
pub mod FewKeys
pub mod KeyRows
pub mod SeatLends
pub mod SeatRows
pub mod Seats
