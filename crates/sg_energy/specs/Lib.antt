pub mod Meter
pub mod Laws
pub mod kept
