-- A piece of a hall's recording played: what is answered, the hall and the record number it leaves, the text of its lines.
use Rattle.std.specs.Prelude.{ℕ, ◌+◌, ◌*◌, ◌≤◌, ◌≡◌, true, not, List, [], ◌∷◌, ltb, length}
use Rattle.table.specs.declared.Answer.{Answer}
use Rattle.table.specs.Scan.{pick}
use Rattle.pala.specs.Answers.{taken, lowest_of}
use Rattle.pala.specs.Run.{cut}
use Rattle.lines.specs.Play.{last_number}
use Rattle.lines.specs.Text.{written}
use Rattle.accord.specs.declared.Hall.{Hall}
use Rattle.accord.specs.Head.{hall_shaped}
use Rattle.accord.specs.Text.{sent_bytes, hall_played, hall_lines}

-- the room asked for each line: 20 digits of a record number, 20 of an answer, 3 letters, 3 bytes between and after them
abbrev pub hall_line_most : ℕ
hall_line_most = 46

-- what a piece hands back
pub record HallPiece : Type 0 where
  pub answer : Answer
  pub hall : Hall
  pub before : ℕ
  pub length : ℕ
  pub text : List ℕ

-- 1 for a badly shaped hall, 3 for a text buffer that could be too short for so many lines, 14 where the record numbers run out
unfoldable pub hall_answer : Hall → ℕ → List ℕ → List ℕ → Answer
unfolding lowest_of hall_shaped cut
hall_answer h before input text =
    lowest_of
    ((not (hall_shaped h), Answer.State)
    ∷ (ltb (length text) (hall_line_most * length (cut sent_bytes input)), Answer.Length)
    ∷ (ltb last_number (before + length (cut sent_bytes input)), Answer.Full)
    ∷ [])

-- the lines of the piece's records at the start of the buffer, the rest of it unchanged; refused: the same hall, the same bytes
unfoldable pub hall_piece : Answer → Hall → ℕ → List ℕ → List ℕ → HallPiece
unfolding pick taken hall_played hall_lines cut written
hall_piece a h before input text =
    record {
      answer = a;
      hall = pick (taken a) (hall_played h (cut sent_bytes input)) h;
      before = pick (taken a) (before + length (cut sent_bytes input)) before;
      length = pick (taken a) (length (hall_lines h before (cut sent_bytes input))) 0;
      text = pick (taken a) (written text 0 (hall_lines h before (cut sent_bytes input))) text;
    }

unfoldable pub play_hall : Hall → ℕ → List ℕ → List ℕ → HallPiece
unfolding hall_piece hall_answer
play_hall h before input text = hall_piece (hall_answer h before input text) h before input text

-- a piece that none of the three refuses
pub record HallReady (h : Hall) (before : ℕ) (input text : List ℕ) : Type 0 where
  pub shaped : hall_shaped h ≡ true
  pub fits : hall_line_most * length (cut sent_bytes input) ≤ length text
  pub number : before + length (cut sent_bytes input) ≤ last_number
