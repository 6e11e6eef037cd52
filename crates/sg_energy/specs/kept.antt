-- How a `Meter` keeps what contracts see of a host.
pub mod Reading
