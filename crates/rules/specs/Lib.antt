-- What the rules' promises cite beside the meaning, `pala`.
pub mod Columns
pub mod Standing
