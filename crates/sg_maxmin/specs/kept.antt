-- How a `System` keeps its flows and their uses, and how it fills.
pub mod Cells
pub mod Uses
pub mod Counting
pub mod Numbers
pub mod Slots
pub mod Linked
