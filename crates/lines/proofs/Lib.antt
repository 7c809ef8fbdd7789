-- What the proofs of this crate cite.
pub mod Laws
pub mod Worded
pub mod Going
pub mod Recording
pub mod Records
pub mod Answered
pub mod Determined
