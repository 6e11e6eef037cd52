-- How a script keeps what was read, and the steps by which a fetch is answered.
pub mod Answers
pub mod Arguments
pub mod Asks
pub mod Front
pub mod Queues
pub mod Spending
pub mod Steps
pub mod Verbs
