-- Demand 3: tables, reached states, runs, the theorem and its companions. It stands on the laws of the shape and of a call above.
-- tables: lines of ancestors, firmness, the freshest block and what may be kept, blocks in order
pub mod Quorums
pub mod Ancestors
pub mod Freshest
pub mod Sound
-- states: what every reached one keeps to beyond its shape, what a taken record can have changed
pub mod Healthy
pub mod Changes
-- chains over any names, a node's vote log, runs, the theorem
pub mod Chains
pub mod Log
pub mod Voting
pub mod Runs
pub mod Casts
pub mod Names
pub mod Honest
pub mod Safety
-- premises by event, own votes, never taken back, the candidate kept, the bytes written
pub mod Events
pub mod OwnVotes
pub mod Onward
pub mod Latest
pub mod Shown
