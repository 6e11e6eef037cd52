pub mod NumberedRows
pub mod Draws
pub mod GoodNames
pub mod GoodRows
pub mod GoodActors
pub mod NoZoneFault
