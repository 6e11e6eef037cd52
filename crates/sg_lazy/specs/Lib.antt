pub mod RunningFlow
pub mod Touch
pub mod Work
pub mod Lazily
pub mod Laws
pub mod kept
