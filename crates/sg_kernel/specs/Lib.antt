pub mod Passes
pub mod Start
pub mod Failures
pub mod kept
