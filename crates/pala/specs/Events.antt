-- Demand 3's premises in the form "at each record that an honest gateway takes ..": what a program that holds all the states can check as it goes.
use Rattle.std.specs.Prelude.{ℕ, ◌≤◌, ◌<◌, ◌≡◌, ◌⊎◌, Bool, length}
use Rattle.table.specs.Rows.{most_nodes, rows}
use Rattle.pala.specs.Answers.{number}
use Rattle.pala.specs.Record.{kind_of, sender_of, name_of, proposal_heard, vote_heard, propose_now}
use Rattle.pala.specs.Safety.{Run, event_at, outcome_at, Honest, Cast, Book, Fits, FewFaulty, Premises}

-- what is asked of event k, a record that an honest gateway took: a vote heard under an honest number had been cast by then, and a
-- block added, which then stands at the last place, is the book's
pub record Taken (n : ℕ) (honest : ℕ → Bool) (run : Run) (book : Book) (k : ℕ) : Type 0 where
  pub vote : kind_of (event_at run k).bytes ≡ vote_heard → Honest n honest (sender_of (event_at run k).bytes)
      → Cast n run k (sender_of (event_at run k).bytes) (name_of (event_at run k).bytes)
  pub block : (kind_of (event_at run k).bytes ≡ proposal_heard) ⊎ (kind_of (event_at run k).bytes ≡ propose_now)
      → Fits book (rows (outcome_at n run k).state) (outcome_at n run k).state.count

-- of every record that an honest gateway takes
abbrev pub EachTaken : ℕ → (ℕ → Bool) → Run → Book → Type 0
EachTaken n honest run book =
    (k : ℕ) → k < length run → Honest n honest (event_at run k).to → number (outcome_at n run k).answer ≡ 0 → Taken n honest run book k

pub record EventPremises (n : ℕ) (honest : ℕ → Bool) (run : Run) : Type 0 where
  pub some : 1 ≤ n
  pub most : n ≤ most_nodes
  pub few_faulty : FewFaulty n honest
  pub book : Book
  pub each : EachTaken n honest run book

-- they give the premises at every moment
abbrev pub EventForm : Type 0
EventForm = (n : ℕ) (honest : ℕ → Bool) (run : Run) → EventPremises n honest run → Premises n honest run
