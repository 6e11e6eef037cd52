pub mod actors
pub mod failures
