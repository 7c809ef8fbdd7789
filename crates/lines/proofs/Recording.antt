-- A recording played on a node's state, and a piece of it from its start to its end. Assumes nothing.
use Prim.Native.Nat.{ℕ, suc, ◌*◌, ◌≤◌}
use mathlib.Core.List.{List, [], ◌∷◌, ◌++◌}
use mathlib.Core.Path.{◌≡◌, refl, ◌∙◌}
use native.Mathlib.Omega.{arith}
use lib.ListN.{length}
use Rattle.table.specs.declared.Answer.{Answer}
use Rattle.table.specs.declared.State.{State}
use Rattle.table.specs.Scan.{pick}
use Rattle.pala.specs.Answers.{number, taken}
use Rattle.pala.specs.Lines.{line_of, lines}
use Rattle.pala.specs.Record.{record_bytes}
use Rattle.pala.specs.Run.{stretches, played, lent}
use Rattle.pala.specs.Step.{step}
use Rattle.lines.specs.Play.{Piece, piece}
use Rattle.lines.specs.Text.{line_most}
use Rattle.lines.proofs.Going.{Tale, Going, Gone, going_start}

-- a record's line
abbrev pub record_line : State → ℕ → List ℕ → List ℕ
record_line s k r = line_of k (step s r lent).answer (step s r lent).state

module _ (s : State) where
  pub played_none : played s [] ≡ s
  unfolding played
  played_none = refl

  pub played_more : (r : List ℕ) (more : List (List ℕ)) → played s (r ∷ more) ≡ played (step s r lent).state more
  unfolding played
  played_more r more = refl

  pub lines_none : (k : ℕ) → lines s k [] ≡ []
  unfolding lines
  lines_none k = refl

  pub lines_more : (k : ℕ) (r : List ℕ) (more : List (List ℕ)) → lines s k (r ∷ more) ≡ record_line s (suc k) r ++ lines (step s r lent).state (suc k) more
  unfolding lines
  lines_more k r more = refl

abbrev pub recording : Tale State
recording =
    record {
      size = record_bytes;
      most = line_most;
      some = omega arith;
      after = λ s r. (step s r lent).state;
      line = record_line;
      last = played;
      text = lines;
      last_none = played_none;
      last_more = played_more;
      text_none = lines_none;
      text_more = lines_more;
    }

module _ {s : State} {before : ℕ} {input text₀ : List ℕ} where
  pub recording_start : line_most * length (stretches input) ≤ length text₀ → Going recording s before input text₀ s before input 0 text₀
  unfolding stretches
  recording_start room = going_start recording room

  pub recording_end :
      {t : State} {k end : ℕ} {text later : List ℕ} → Gone recording s before input text₀ t k end text → later ≡ text
      → ◌≡◌ {A = Piece} (record { answer = Answer.Taken; state = t; before = k; length = end; text = later }) (piece Answer.Taken s before input text₀)
  unfolding piece pick taken number stretches
  recording_end g same = λ i. record { answer = Answer.Taken; state = g.state i; before = g.number i; length = g.ends i; text = (same ∙ g.holds) i }
