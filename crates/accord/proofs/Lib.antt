-- What is proved of a hall: its text never says no with fewer than a third faulty, and yes means what it says.
-- heads, refusals, words and lines, computed
pub mod Cases
-- a good head, a taken record, one gateway's state moved
pub mod Halls
-- the taken records as a run of demand 3
pub mod Played
-- the entry of a block in a table
pub mod Blocks
-- searches below a bound
pub mod Scans
-- one name for one block
pub mod OneBlock
-- the premises of demand 3
pub mod Premises
-- yes, and never no
pub mod Agrees
pub mod NeverNo
-- a recording in pieces
pub mod Pieces
-- with a third faulty it can say no
pub mod Sharp
