-- Demand 3, clause by clause. It speaks of `start`, `step` and the final list alone: the definitions that the code's promises cite.
use Rattle.std.specs.Prelude.{ℕ, ◌*◌, ◌≤◌, ◌<◌, ◌≡◌, ◌⊎◌, Bool, true, false, not, List, [], ◌∷◌, ◌++◌, eqb, length, get_or, take}
use Rattle.table.specs.declared.Block.{Block}
use Rattle.table.specs.declared.State.{State}
use Rattle.table.specs.Scan.{pick, count}
use Rattle.table.specs.Rows.{most_nodes, rows, size, at, has_voter}
use Rattle.pala.specs.Answers.{number}
use Rattle.pala.specs.Record.{kind_of, sender_of, name_of, vote_heard, cast_now}
use Rattle.pala.specs.Rules.{epoch_at, parent_of}
use Rattle.pala.specs.Lists.{joined, final_names}
use Rattle.pala.specs.Step.{Outcome, step, start}

-- an event: the number of the gateway that is called, the record's bytes and the out buffer's bytes
pub record Event : Type 0 where
  pub to : ℕ
  pub bytes : List ℕ
  pub buffer : List ℕ

-- "Take any run, in any order": a list of events, whatever they are. A moment m is the time after the first m of them.
abbrev pub Run : Type 0
Run = List Event

-- event k, counted from 0
abbrev pub event_at : Run → ℕ → Event
event_at run k = get_or run k (record { to = 0; bytes = []; buffer = [] })

-- what an event makes of the state of gateway i: nothing, if another gateway is called
unfoldable pub after : ℕ → State → Event → State
unfolding pick step
after i s e = pick (eqb e.to i) (step s e.bytes e.buffer).state s

-- "Let the host of each honest one hand back each time the newest state, never an older one, as it got it."
unfoldable pub follow : ℕ → State → Run → State
unfolding after
follow i s [] = s
follow i s (e ∷ more) = follow i (after i s e) more

-- ".. of gateways started fresh with the same number of nodes, each under a number no other has": gateway i's state at a moment
unfoldable pub state_at : ℕ → Run → ℕ → ℕ → State
unfolding follow start
state_at n run m i = follow i (start n i).state (take m run)

-- the table of gateway i at a moment
unfoldable pub table_at : ℕ → Run → ℕ → ℕ → List Block
unfolding rows state_at
table_at n run m i = rows (state_at n run m i)

-- what event k handed back
unfoldable pub outcome_at : ℕ → Run → ℕ → Outcome
unfolding step state_at
outcome_at n run k = step (state_at n run k (event_at run k).to) (event_at run k).bytes (event_at run k).buffer

-- an honest number; of the other numbers below n, faulty or unused, nothing is asked
abbrev pub Honest : ℕ → (ℕ → Bool) → ℕ → Type 0
Honest n honest i = (i < n) × (honest i ≡ true)

-- gateway i had cast a vote for a name by a moment: an event of its own by then was of kind 5 and answered 0, and after it the out
-- buffer held kind 2, its own number and that name
pub record Cast (n : ℕ) (run : Run) (m i : ℕ) (name : List ℕ) : Type 0 where
  pub event : ℕ
  pub before : event < m
  pub happened : event < length run
  pub its : (event_at run event).to ≡ i
  pub kind : kind_of (event_at run event).bytes ≡ cast_now
  pub answered : number (outcome_at n run event).answer ≡ 0
  pub sent_kind : kind_of (outcome_at n run event).out ≡ vote_heard
  pub sent_number : sender_of (outcome_at n run event).out ≡ i
  pub sent_name : name_of (outcome_at n run event).out ≡ name

-- a place that holds a block, the genesis aside
abbrev pub Held : List Block → ℕ → Type 0
Held t p = (1 ≤ p) × (p < size t)

-- what an honest table shows under an honest number had been cast by then
abbrev pub NoForgedVote : ℕ → (ℕ → Bool) → Run → Type 0
NoForgedVote n honest run =
    (m i p j : ℕ) → Honest n honest i → Honest n honest j → Held (table_at n run m i) p
    → has_voter (at (table_at n run m i) p) j ≡ true → Cast n run m j (at (table_at n run m i) p).name

-- what a name stands for: an epoch and the parent's name. Not the payload: the premise is weaker so, and the theorem stronger
abbrev pub Book : Type 0
Book = List ℕ → record { epoch : ℕ; parent : List ℕ }

-- a block is the one that the book has under its name
pub record Fits (book : Book) (t : List Block) (p : ℕ) : Type 0 where
  pub epoch : epoch_at t p ≡ (book (at t p).name).epoch
  pub parent : (at t (parent_of t p)).name ≡ (book (at t p).name).parent

-- every block in every honest table, at every moment, is the book's
abbrev pub OneBlockOneName : ℕ → (ℕ → Bool) → Run → Book → Type 0
OneBlockOneName n honest run book =
    (m i p : ℕ) → Honest n honest i → Held (table_at n run m i) p → Fits book (table_at n run m i) p

-- the numbers below n that aren't honest are fewer than a third
abbrev pub FewFaulty : ℕ → (ℕ → Bool) → Type 0
FewFaulty n honest = 3 * count n (λ i. not (honest i)) < n

-- what a run has to meet
pub record Premises (n : ℕ) (honest : ℕ → Bool) (run : Run) : Type 0 where
  -- n is what `start` accepts: 1 to 32
  pub some : 1 ≤ n
  pub most : n ≤ most_nodes
  -- "Let the faulty numbers, which send what they like, and the unused ones, which count as faulty, be together fewer than a third."
  pub few_faulty : FewFaulty n honest
  -- "Let no vote be counted under an honest gateway's number that it had not cast, .."
  pub cast : NoForgedVote n honest run
  -- ".. and let one block name stand for one block everywhere."
  pub book : Book
  pub fits : OneBlockOneName n honest run book

-- the final chain that gateway i shows at a moment: what the final-list function writes, name after name
unfoldable pub shown_at : ℕ → Run → ℕ → ℕ → List ℕ
unfolding joined final_names state_at
shown_at n run m i = joined (final_names (state_at n run m i))

-- one list begins the other
abbrev pub Begins : List ℕ → List ℕ → Type 0
Begins a b = (rest : List ℕ) × (a ++ rest ≡ b)

abbrev pub OneBegins : List ℕ → List ℕ → Type 0
OneBegins a b = Begins a b ⊎ Begins b a

-- "Then of any two final chains that honest gateways ever show, at the same or different moments, one begins the other."
abbrev pub Safe : Type 0
Safe =
    (n : ℕ) (honest : ℕ → Bool) (run : Run) → Premises n honest run
    → (i j a b : ℕ) → Honest n honest i → Honest n honest j → OneBegins (shown_at n run a i) (shown_at n run b j)

-- under the same premises no honest gateway is ever torn
abbrev pub NeverTorn : Type 0
NeverTorn =
    (n : ℕ) (honest : ℕ → Bool) (run : Run) → Premises n honest run
    → (m i : ℕ) → Honest n honest i → (state_at n run m i).torn ≡ false
