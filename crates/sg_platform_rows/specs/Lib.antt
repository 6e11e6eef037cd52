pub mod Ends
pub mod Network
pub mod Platform
pub mod Index
pub mod Deployment
pub mod OfRows
pub mod kept
