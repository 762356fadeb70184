pub mod Sames
pub mod Shapes
