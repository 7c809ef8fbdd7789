-- What deciding a record hands on.
pub mod Moves
