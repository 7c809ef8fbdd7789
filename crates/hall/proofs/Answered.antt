-- What a piece of a hall's recording answers: the first of its three refusals that applies, or it is played. Assumes nothing.
use Prim.Native.Nat.{ℕ, ◌+◌, ◌*◌, ◌≤◌, ◌<◌}
use mathlib.Core.Bool.{true, false, not}
use mathlib.Core.List.{List}
use mathlib.Core.Path.{◌≡◌, ap, ◌∙◌}
use native.Mathlib.Omega.{arith}
use borrow.Author.Tests.{lt-ltb, le-ltb}
use lib.Dec.{ltb}
use lib.ListN.{length}
use Rattle.table.specs.declared.Answer.{Answer}
use Rattle.table.specs.Scan.{pick}
use Rattle.table.proofs.Laws.{pick_yes, pick_no}
use Rattle.pala.specs.Answers.{number, taken, lowest_of}
use Rattle.pala.specs.Run.{cut}
use Rattle.pala.proofs.Stretches.{cut-count}
use Rattle.std.specs.Int.{div_ceil}
use Rattle.lines.specs.Play.{last_number}
use Rattle.accord.specs.declared.Hall.{Hall}
use Rattle.accord.specs.Head.{hall_shaped}
use Rattle.accord.specs.Text.{sent_bytes}
use Rattle.hall.specs.Play.{HallPiece, HallReady, hall_answer, hall_piece, play_hall, hall_line_most}

-- `div_ceil` counts the records, one for each stretch begun
pub sent-number : (input : List ℕ) {count : ℕ} → count ≡ div_ceil (length input) sent_bytes → count ≡ length (cut sent_bytes input)
sent-number input e = let counted = cut-count sent_bytes (omega arith) input in omega (arith, e, counted.0, counted.1)

module _ (h : Hall) (before : ℕ) (input text : List ℕ) where
  -- a refusal hands everything back
  abbrev pub handed_back : Answer → HallPiece
  handed_back a = record { answer = a; hall = h; before = before; length = 0; text = text }

  pub piece_unshaped : hall_shaped h ≡ false → play_hall h before input text ≡ handed_back Answer.State
  unfolding play_hall hall_answer lowest_of hall_piece pick taken number
  piece_unshaped e = ap (λ (a : Answer). hall_piece a h before input text) (pick_yes (not (hall_shaped h)) Answer.State _ (ap not e))

  module _ (e : hall_shaped h ≡ true) where
    pub piece_short : length text < hall_line_most * length (cut sent_bytes input) → play_hall h before input text ≡ handed_back Answer.Length
    unfolding play_hall hall_answer lowest_of hall_piece pick taken number
    piece_short l =
        ap (λ (a : Answer). hall_piece a h before input text)
        (pick_no (not (hall_shaped h)) Answer.State _ (ap not e)
        ∙ pick_yes (ltb (length text) (hall_line_most * length (cut sent_bytes input))) Answer.Length _ (lt-ltb _ _ l))

    module _ (fits : hall_line_most * length (cut sent_bytes input) ≤ length text) where
      pub piece_over : last_number < before + length (cut sent_bytes input) → play_hall h before input text ≡ handed_back Answer.Full
      unfolding play_hall hall_answer lowest_of hall_piece pick taken number
      piece_over l =
          ap (λ (a : Answer). hall_piece a h before input text)
          (pick_no (not (hall_shaped h)) Answer.State _ (ap not e)
          ∙ pick_no (ltb (length text) (hall_line_most * length (cut sent_bytes input))) Answer.Length _ (le-ltb _ _ fits)
          ∙ pick_yes (ltb last_number (before + length (cut sent_bytes input))) Answer.Full _ (lt-ltb _ _ l))

      pub piece_played : before + length (cut sent_bytes input) ≤ last_number → play_hall h before input text ≡ hall_piece Answer.Taken h before input text
      unfolding play_hall hall_answer lowest_of
      piece_played l =
          ap (λ (a : Answer). hall_piece a h before input text)
          (pick_no (not (hall_shaped h)) Answer.State _ (ap not e)
          ∙ pick_no (ltb (length text) (hall_line_most * length (cut sent_bytes input))) Answer.Length _ (le-ltb _ _ fits)
          ∙ pick_no (ltb last_number (before + length (cut sent_bytes input))) Answer.Full _ (le-ltb _ _ l))

  pub piece_ready : HallReady h before input text → play_hall h before input text ≡ hall_piece Answer.Taken h before input text
  piece_ready r = piece_played r.shaped r.fits r.number
