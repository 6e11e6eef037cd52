pub mod Kept
pub mod Others
pub mod Dead
pub mod Killed
pub mod Created
