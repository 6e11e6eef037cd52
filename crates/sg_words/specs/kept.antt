-- How the definition of the command line is built, and how numbers are read off rows.
pub mod Building
pub mod Ranged
