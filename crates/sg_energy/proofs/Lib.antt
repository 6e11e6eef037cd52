pub mod Metering
pub mod Amounts
pub mod Readings
