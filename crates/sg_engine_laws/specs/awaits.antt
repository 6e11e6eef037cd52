pub mod Reached
pub mod Awaits
pub mod Runs
pub mod InRuns
