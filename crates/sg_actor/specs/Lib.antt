pub mod Churns
pub mod Roles
pub mod Seats
pub mod kept
