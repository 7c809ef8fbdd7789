-- Demand 3's premises, tested on a run; then a run that meets them, and one that misses them by one number.
pub mod Checked
pub mod Runs
