pub mod Actors
pub mod Records
pub mod Queue
pub mod States
pub mod kept
