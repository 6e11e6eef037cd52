pub mod Alike
pub mod Expanded
pub mod Laws
pub mod Written
