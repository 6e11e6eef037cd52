pub mod Pairs
pub mod OneEach
pub mod Alone
