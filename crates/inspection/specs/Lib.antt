pub mod Bytes
pub mod Choices
pub mod Lines
pub mod Reports
