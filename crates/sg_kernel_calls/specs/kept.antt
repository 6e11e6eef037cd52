-- How what is known is kept.
pub mod Constants
pub mod Sound
pub mod Waking
pub mod Whole
pub mod Acts
pub mod Asks
pub mod Killing
