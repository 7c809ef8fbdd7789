-- The small definitions that the leaves' promises cite, and over which `pala` states the rules of 01.
pub mod Scan
pub mod Bytes
pub mod Rows
