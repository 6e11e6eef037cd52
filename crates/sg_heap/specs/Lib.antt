pub mod Agenda
pub mod kept
