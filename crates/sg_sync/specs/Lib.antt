pub mod Queues
pub mod Objects
pub mod Sync
pub mod Laws
pub mod kept
pub mod Waits
