pub mod Holding
pub mod Tokens
pub mod Filled
pub mod Receiving
pub mod Inserting
pub mod Sending
pub mod Asking
pub mod Rendering
