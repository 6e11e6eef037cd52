pub mod Along
pub mod Bounds
pub mod Kept
pub mod NameSpaceLemmas
pub mod TreeLemmas
pub mod TakenRows
pub mod NameLemmas
pub mod NumbersBelow
