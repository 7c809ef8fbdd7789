-- What the proofs of this crate cite.
pub mod Sides
pub mod Readings
pub mod Safe
pub mod Determined
