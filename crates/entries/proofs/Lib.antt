mod Apart
mod Calls
