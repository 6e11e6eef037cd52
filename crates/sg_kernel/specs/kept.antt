-- How the kernel keeps what it knows, in time advances and at first.
pub mod Coming
pub mod Acts
pub mod Asks
pub mod First
