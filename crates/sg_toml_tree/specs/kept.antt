-- The types of trees, what is left of one, and how the code keeps its names.
pub mod Data
pub mod Rows
pub mod NamesView
pub mod Parts
