-- How a router keeps its rows and the links of a route.
pub mod Found
pub mod Index
pub mod Kept
