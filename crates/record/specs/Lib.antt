-- What the fields of a record are, by 01's definitions in `pala`.
pub mod Fields
pub mod Numbers
