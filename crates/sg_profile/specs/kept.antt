-- How `Profiles` keeps its rows.
pub mod Slots
