-- Document 01, section by section: counts and names, the record, the answers, what a taken record does, reading it out.
pub mod Counts
pub mod Record
pub mod Rules
pub mod Shape
pub mod Answers
pub mod Effects
pub mod Steps
pub mod Step
pub mod Lists
pub mod Run
pub mod Lines
pub mod Cases
pub mod Safety
pub mod Events
pub mod Shown
