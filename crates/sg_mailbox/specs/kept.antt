pub mod Queues
pub mod Acts
