pub mod ExitLemmas
pub mod PartLemmas
pub mod TellingLemmas
pub mod TopLemmas
pub mod WordLemmas
pub mod ZoneLemmas
