pub mod FromWords
pub mod InWords
pub mod Model
pub mod Writing
