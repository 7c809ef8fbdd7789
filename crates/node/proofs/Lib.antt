-- The laws that the proofs of this crate cite.
pub mod Ways
pub mod ByKind
pub mod Facts
pub mod Grants
pub mod Stores
pub mod Settles
pub mod Calls
pub mod Sends
pub mod Numbers
pub mod Determined
