-- What the proofs of this crate cite.
pub mod Cells
pub mod Downward
pub mod Searches
pub mod Tops
pub mod Agreed
pub mod Shown
pub mod Determined
