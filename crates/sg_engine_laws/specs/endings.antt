pub mod Ending
pub mod Creating
pub mod Left
pub mod Anywhere
