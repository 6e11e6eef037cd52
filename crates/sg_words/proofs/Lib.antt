pub mod Accepted
pub mod Ends
pub mod Law
pub mod Level
pub mod Numbers
pub mod Refusals
pub mod Stops
pub mod TwoRules
