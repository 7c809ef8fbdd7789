-- What the promises of this crate cite besides `pala`.
pub mod Text
pub mod Play
