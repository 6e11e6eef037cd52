-- How `Marks` keeps its members.
pub mod Sparse
