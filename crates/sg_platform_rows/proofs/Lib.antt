pub mod EndsBelow
pub mod MemberIds
pub mod Networks
pub mod RowsBelow
pub mod SlotLemmas
pub mod WayBack
