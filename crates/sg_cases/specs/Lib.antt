pub mod Ends
pub mod OneEach
pub mod Pairs
