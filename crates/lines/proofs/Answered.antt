-- What a piece answers: the first of its three refusals that applies, or it is played. Assumes nothing.
use Prim.Native.Nat.{ℕ, ◌+◌, ◌*◌, ◌≤◌, ◌<◌}
use mathlib.Core.Bool.{true, false, not}
use mathlib.Core.List.{List}
use mathlib.Core.Path.{◌≡◌, ap, ◌∙◌}
use native.Mathlib.Omega.{arith}
use borrow.Author.Tests.{lt-ltb, le-ltb}
use lib.Dec.{ltb}
use lib.ListN.{length}
use Rattle.table.specs.declared.Answer.{Answer}
use Rattle.table.specs.declared.State.{State}
use Rattle.table.specs.Scan.{pick}
use Rattle.table.proofs.Laws.{pick_yes, pick_no}
use Rattle.pala.specs.Answers.{number, taken, lowest_of}
use Rattle.pala.specs.Record.{record_bytes}
use Rattle.pala.specs.Run.{stretches}
use Rattle.pala.specs.Shape.{well_shaped}
use Rattle.pala.proofs.Stretches.{stretches-count}
use Rattle.std.specs.Int.{div_ceil}
use Rattle.lines.specs.Play.{Piece, Ready, piece_answer, piece, play_piece, last_number}
use Rattle.lines.specs.Text.{line_most}

-- `div_ceil` counts the stretches
pub stretches-number : (input : List ℕ) {count : ℕ} → count ≡ div_ceil (length input) record_bytes → count ≡ length (stretches input)
stretches-number input e = omega (arith, e, stretches-count input)

module _ (s : State) (before : ℕ) (input text : List ℕ) where
  -- a refusal hands everything back
  abbrev pub handed_back : Answer → Piece
  handed_back a = record { answer = a; state = s; before = before; length = 0; text = text }

  pub piece_unshaped : well_shaped s ≡ false → play_piece s before input text ≡ handed_back Answer.State
  unfolding play_piece piece_answer lowest_of piece pick taken number
  piece_unshaped h = ap (λ (a : Answer). piece a s before input text) (pick_yes (not (well_shaped s)) Answer.State _ (ap not h))

  module _ (h : well_shaped s ≡ true) where
    pub piece_short : length text < line_most * length (stretches input) → play_piece s before input text ≡ handed_back Answer.Length
    unfolding play_piece piece_answer lowest_of piece pick taken number
    piece_short l =
        ap (λ (a : Answer). piece a s before input text)
        (pick_no (not (well_shaped s)) Answer.State _ (ap not h)
        ∙ pick_yes (ltb (length text) (line_most * length (stretches input))) Answer.Length _ (lt-ltb _ _ l))

    module _ (fits : line_most * length (stretches input) ≤ length text) where
      pub piece_over : last_number < before + length (stretches input) → play_piece s before input text ≡ handed_back Answer.Full
      unfolding play_piece piece_answer lowest_of piece pick taken number
      piece_over l =
          ap (λ (a : Answer). piece a s before input text)
          (pick_no (not (well_shaped s)) Answer.State _ (ap not h)
          ∙ pick_no (ltb (length text) (line_most * length (stretches input))) Answer.Length _ (le-ltb _ _ fits)
          ∙ pick_yes (ltb last_number (before + length (stretches input))) Answer.Full _ (lt-ltb _ _ l))

  pub piece_ready : Ready s before input text → play_piece s before input text ≡ piece Answer.Taken s before input text
  unfolding play_piece piece_answer lowest_of
  piece_ready r =
      ap (λ (a : Answer). piece a s before input text)
      (pick_no (not (well_shaped s)) Answer.State _ (ap not r.shaped)
      ∙ pick_no (ltb (length text) (line_most * length (stretches input))) Answer.Length _ (le-ltb _ _ r.fits)
      ∙ pick_no (ltb last_number (before + length (stretches input))) Answer.Full _ (le-ltb _ _ r.number))
