-- How an `Agenda` keeps its keys.
pub mod Heap
