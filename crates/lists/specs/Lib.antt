-- Where a tail lies, and what is never read of two honest lists. What the lists and their relation are is `pala`'s.
pub mod Tails
pub mod Safe
