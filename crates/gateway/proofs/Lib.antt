-- What the proofs of this crate cite.
pub mod Answered
pub mod Determined
