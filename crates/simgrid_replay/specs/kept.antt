-- What the steps of a call do, and what the real parts show.
pub mod Reading
pub mod RealFiles
pub mod Setups
