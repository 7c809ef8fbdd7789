-- A piece of a recording played: what is answered, the state and the record number it leaves, the text of its lines.
use Rattle.std.specs.Prelude.{ℕ, ◌+◌, ◌*◌, ◌≤◌, ◌≡◌, true, not, List, [], ◌∷◌, ltb, length}
use Rattle.table.specs.declared.Answer.{Answer}
use Rattle.table.specs.declared.State.{State}
use Rattle.table.specs.Scan.{pick}
use Rattle.pala.specs.Answers.{taken, lowest_of}
use Rattle.pala.specs.Lines.{lines}
use Rattle.pala.specs.Run.{stretches, played}
use Rattle.pala.specs.Shape.{well_shaped}
use Rattle.lines.specs.Text.{written, line_most}

-- the last record number that can be printed
abbrev pub last_number : ℕ
last_number = 18446744073709551615

-- what a piece hands back
pub record Piece : Type 0 where
  pub answer : Answer
  pub state : State
  pub before : ℕ
  pub length : ℕ
  pub text : List ℕ

-- 1 for a badly shaped state, 3 for a text buffer that could be too short for so many lines, 14 where the record numbers run out
unfoldable pub piece_answer : State → ℕ → List ℕ → List ℕ → Answer
unfolding lowest_of well_shaped stretches
piece_answer s before input text =
    lowest_of
    ((not (well_shaped s), Answer.State)
    ∷ (ltb (length text) (line_most * length (stretches input)), Answer.Length)
    ∷ (ltb last_number (before + length (stretches input)), Answer.Full)
    ∷ [])

-- the lines of the piece's records at the start of the buffer, the rest of it unchanged; refused: the same state, the same bytes
unfoldable pub piece : Answer → State → ℕ → List ℕ → List ℕ → Piece
unfolding pick taken played lines stretches written
piece a s before input text =
    record {
      answer = a;
      state = pick (taken a) (played s (stretches input)) s;
      before = pick (taken a) (before + length (stretches input)) before;
      length = pick (taken a) (length (lines s before (stretches input))) 0;
      text = pick (taken a) (written text 0 (lines s before (stretches input))) text;
    }

unfoldable pub play_piece : State → ℕ → List ℕ → List ℕ → Piece
unfolding piece piece_answer
play_piece s before input text = piece (piece_answer s before input text) s before input text

-- a piece that none of the three refuses
pub record Ready (s : State) (before : ℕ) (input text : List ℕ) : Type 0 where
  pub shaped : well_shaped s ≡ true
  pub fits : line_most * length (stretches input) ≤ length text
  pub number : before + length (stretches input) ≤ last_number
