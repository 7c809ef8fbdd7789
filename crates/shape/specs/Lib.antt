-- The in-between forms of the shape test: 01's clauses in the order in which the code comes by them.
pub mod Parts
