pub mod Calls
pub mod Deleting
pub mod Inserting
pub mod Keeping
pub mod Receiving
pub mod Rendering
pub mod Sending
pub mod Updating
