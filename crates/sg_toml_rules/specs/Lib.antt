pub mod Arguments
pub mod Profiles
pub mod Power
pub mod Rules
pub mod Faults
pub mod Rising
pub mod PlatformKinds
pub mod Plain
