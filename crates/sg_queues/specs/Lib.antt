pub mod Rings
pub mod Queues
pub mod kept
pub mod Serials
