-- The laws of the meaning that code cites, the cases of 01, computed, and demand 3.
pub mod Counts
pub mod Clocks
pub mod Rows
pub mod Cases
pub mod Examples
-- states and records by hand for the cases below
pub mod States
-- each field at its bytes, the fields that each kind uses
pub mod RecordCases
-- each clause of the shape broken
pub mod ShapeCases
-- each row of the answers for each kind that it names, and starts
pub mod AnswerCases
-- the whole state and out buffer after a record of each kind
pub mod EffectCases
-- the rules behind the five steps
pub mod RuleCases
-- final lists, relations with index, code and tail, runs
pub mod ReadCases
-- numbers in digits, short inputs
pub mod LineCases
-- the shape and what keeps it
pub mod Tests
pub mod Falls
pub mod Grown
pub mod Shapes
pub mod Sized
pub mod Places
pub mod Moves
pub mod Keeps
pub mod Sent
pub mod Calls
-- a recording in pieces
pub mod Stretches
-- the names of a final list, and records played in a loop
pub mod Finals
pub mod Playing
-- demand 3
pub mod Demand
