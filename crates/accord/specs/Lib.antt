-- Request M-101 of document 02, sentence by sentence: the head, the refusals, yes or no, the lines; then what is proved of them.
pub mod Head
pub mod Rulings
pub mod Words
pub mod Text
pub mod NeverNo
