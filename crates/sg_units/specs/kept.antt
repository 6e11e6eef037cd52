-- How the readers keep a number that they have read.
pub mod Scaled
pub mod Shown
