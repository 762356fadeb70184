pub mod Kinds
pub mod Pairs
pub mod Tickets
