-- Text in a lent buffer.
use Rattle.std.specs.Prelude.{◌≡◌, ℕ, ◌+◌, List, ◌++◌, ltb, leb, length, take, drop}
use Rattle.table.specs.Scan.{pick}
use Rattle.accord.specs.Text.{worded}

-- the buffer with some bytes written from an index on, the rest of it unchanged
unfoldable pub written : List ℕ → ℕ → List ℕ → List ℕ
written text from bytes = take from text ++ bytes ++ drop (from + length bytes) text

-- some bytes were put into a buffer from an index on: the index past them, and the buffer
pub record Put (text : List ℕ) (from : ℕ) (bytes : List ℕ) (past : ℕ) (after : List ℕ) : Type 0 where
  pub ends : past ≡ from + length bytes
  pub holds : after ≡ written text from bytes

-- the longest line: 20 digits of a record number, 2 of an answer, 10 of each epoch, 2 of a count of names, 5 bytes between and after them
abbrev pub line_most : ℕ
line_most = 49

-- the longest first or last line: 6 letters, 20 digits and a new line
abbrev pub end_most : ℕ
end_most = 27

-- a line at the start of a buffer, and its length; nothing where the longest would not fit
pub record Lined : Type 0 where
  pub length : ℕ
  pub text : List ℕ

unfoldable pub lined : List ℕ → List ℕ → Lined
unfolding pick written
lined line text =
    record {
      length = pick (ltb (length text) end_most) 0 (length line);
      text = pick (ltb (length text) end_most) text (written text 0 line);
    }

-- the most that two numbers take of it, with a space after each and the new line
abbrev pub numbers_most : ℕ
numbers_most = 43

-- the line from an index on, and the index past it; nothing where the longest of that word would not fit
unfoldable pub worded_at : ℕ → ℕ → List ℕ → ℕ → List ℕ → Lined
unfolding pick worded written
worded_at k answer word from text =
    record {
      length = pick (leb (from + numbers_most + length word) (length text)) (from + length (worded k answer word)) from;
      text = pick (leb (from + numbers_most + length word) (length text)) (written text from (worded k answer word)) text;
    }
