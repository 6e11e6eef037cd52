pub mod Dead
pub mod Kills
pub mod Creates
