pub mod Printing
pub mod Readings
pub mod Standing
