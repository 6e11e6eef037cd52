pub mod awaits
pub mod endings
pub mod changes
