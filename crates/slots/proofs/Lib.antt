pub mod Comparing
pub mod Options
pub mod Scans
pub mod Chains
pub mod Leasts
pub mod Walks
pub mod Counters
