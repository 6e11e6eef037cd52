-- How input streams and streams in memory are kept.
pub mod Parts
pub mod Streams
