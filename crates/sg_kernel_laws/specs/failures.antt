pub mod Laws
pub mod Others
pub mod Cut
pub mod Given
pub mod Answers
