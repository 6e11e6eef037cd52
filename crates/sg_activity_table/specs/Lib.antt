pub mod Slots
pub mod Kinds
pub mod Pool
pub mod Cells
