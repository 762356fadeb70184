pub mod Advancing
pub mod Texts
