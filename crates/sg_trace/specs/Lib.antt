pub mod Call
pub mod Ending
pub mod Energy
pub mod Line
pub mod Names
pub mod kept
