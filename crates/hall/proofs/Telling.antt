-- A hall's recording: the line of each record, and a piece from its start to its end. Assumes nothing.
use Prim.Native.Nat.{ℕ, suc, ◌+◌, ◌^◌, ◌≤◌, ◌<◌}
use mathlib.Core.Bool.{Bool, true, false}
use mathlib.Core.List.{List, [], ◌∷◌, ◌++◌}
use mathlib.Core.Path.{◌≡◌, refl, ap, ◌∙◌}
use native.Mathlib.Omega.{arith}
use lib.Dec.{lit<}
use lib.ListN.{length}
use Rattle.table.specs.declared.Answer.{Answer}
use Rattle.table.specs.Scan.{pick}
use Rattle.pala.specs.Answers.{number, taken}
use Rattle.lines.specs.Text.{Lined, worded_at}
use Rattle.lines.proofs.Going.{Tale, Gone, Recorded}
use Rattle.lines.proofs.Laws.{put_as}
use Rattle.lines.proofs.Records.{number-few}
use Rattle.lines.proofs.Worded.{Spacious, worded-is, worded-most}
use Rattle.accord.specs.declared.Hall.{Hall}
use Rattle.accord.specs.declared.Verdict.{Verdict}
use Rattle.accord.specs.Rulings.{verdict, verdict_number, hall_after}
use Rattle.accord.specs.Text.{sent_bytes, receiver_of, record_of, yes_word, no_word, worded, hall_line, hall_played, lines_with, hall_lines}
use Rattle.accord.specs.Words.{agree}
use Rattle.accord.proofs.Played.{hall_next}
use Rattle.hall.specs.Play.{HallPiece, hall_piece, hall_line_most}

-- ---- the recording

-- a record's line
abbrev pub next_line : Hall → ℕ → List ℕ → List ℕ
next_line h k x = hall_line k (verdict h (receiver_of x) (record_of x)) (agree (hall_next h x))

module _ (h : Hall) where
  pub played_none : hall_played h [] ≡ h
  unfolding hall_played
  played_none = refl

  pub played_more : (x : List ℕ) (more : List (List ℕ)) → hall_played h (x ∷ more) ≡ hall_played (hall_next h x) more
  unfolding hall_played
  played_more x more = refl

  pub lines_none : (k : ℕ) → hall_lines h k [] ≡ []
  unfolding hall_lines lines_with
  lines_none k = refl

  pub lines_more : (k : ℕ) (x : List ℕ) (more : List (List ℕ)) → hall_lines h k (x ∷ more) ≡ next_line h (suc k) x ++ hall_lines (hall_next h x) (suc k) more
  unfolding hall_lines lines_with
  lines_more k x more = refl

abbrev pub hall_tale : Tale Hall
hall_tale =
    record {
      size = sent_bytes;
      most = hall_line_most;
      some = omega arith;
      after = hall_next;
      line = next_line;
      last = hall_played;
      text = hall_lines;
      last_none = played_none;
      last_more = played_more;
      text_none = lines_none;
      text_more = lines_more;
    }

pub hall_end :
    {h u : Hall} {before k end : ℕ} {input text₀ text : List ℕ} → Gone hall_tale h before input text₀ u k end text
    → ◌≡◌ {A = HallPiece} (record { answer = Answer.Taken; hall = u; before = k; length = end; text = text }) (hall_piece Answer.Taken h before input text₀)
unfolding hall_piece pick taken number
hall_end g = λ i. record { answer = Answer.Taken; hall = g.state i; before = g.number i; length = g.ends i; text = g.holds i }

-- ---- one record

-- every verdict's number is below 23
verdict-few : (v : Verdict) → verdict_number v < 23
unfolding verdict_number
verdict-few Verdict.Receiver = lit< tt
verdict-few Verdict.Forged = lit< tt
verdict-few Verdict.Clash = lit< tt
verdict-few (Verdict.Answered a) = omega (arith, number-few a)

-- "yes" and "no" have at most three letters
word_few : (word : Bool) → length (pick word yes_word no_word) ≤ 3
unfolding pick
word_few true = omega arith
word_few false = omega arith

-- the record is played, and its line put
pub hall_recorded :
    {h u : Hall} {x text later : List ℕ} {k told end past : ℕ} {word : Bool} (to : ℕ) (r : List ℕ) (v : Verdict) → to ≡ receiver_of x → r ≡ record_of x
    → v ≡ verdict h to r → told ≡ verdict_number v → u ≡ hall_after h to r → word ≡ agree u → end + hall_line_most ≤ length text → k < 2 ^ 64
    → ◌≡◌ {A = Lined} (record { length = past; text = later }) (worded_at k told (pick word yes_word no_word) end text)
    → Recorded hall_tale h k x text end u past later
unfolding hall_line
hall_recorded {h} {u} {x} {text} {k = k} {told = told} {end = end} {word = word} to r v e f says numbered after named room low l =
    let s : Spacious text end k told (pick word yes_word no_word) =
    record { room = omega (arith, word_few word); first = low; second = omega (arith, numbered, verdict-few v) } in
    let put = worded-is s l in
    let state : u ≡ hall_next h x = after ∙ (λ i. hall_after h (e i) (f i)) in
    let answer : told ≡ verdict_number (verdict h (receiver_of x) (record_of x)) = numbered ∙ ap verdict_number says ∙ (λ i. verdict_number (verdict h (e i) (f i))) in
    let word_is : word ≡ agree (hall_next h x) = named ∙ ap agree state in
    record {
      state = state;
      line = put_as (λ i. worded k (answer i) (pick (word_is i) yes_word no_word)) put;
      short = omega (arith, put.ends, worded-most s, word_few word);
    }
