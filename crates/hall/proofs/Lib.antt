-- What the proofs of this crate cite.
-- a block by its name
pub mod Named
-- what a hall's shape tells, and one gateway's state moved
pub mod Seated
-- a head
pub mod Fresh
-- 21 and 22
pub mod Judged
-- whether the final lists agree
pub mod Agreeing
-- a piece of a recording
pub mod Telling
pub mod Answered
pub mod Determined
