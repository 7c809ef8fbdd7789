-- What the promises of this crate cite besides `accord` and `pala`: a block found by its name, what is decided of a record, a piece played.
pub mod Named
pub mod Judged
pub mod Play
