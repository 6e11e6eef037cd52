pub mod Amount
pub mod Date
pub mod Number
pub mod NumberText
pub mod Units
pub mod kept
