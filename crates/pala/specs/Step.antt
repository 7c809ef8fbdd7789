-- One call: what a node answers, the state and the out buffer it hands back.
use Rattle.std.specs.Prelude.{ℕ, Bool, List, ltb}
use Rattle.table.specs.declared.Answer.{Answer}
use Rattle.table.specs.declared.State.{State}
use Rattle.table.specs.Scan.{pick}
use Rattle.table.specs.Rows.{capacity, fresh, all_zero}
use Rattle.pala.specs.Counts.{nodes}
use Rattle.pala.specs.Answers.{taken, lowest_of, shaped_rows, all_rows}
use Rattle.pala.specs.Effects.{effect, sent}
use Rattle.pala.specs.Steps.{settled}

-- what a call hands back
pub record Outcome : Type 0 where
  pub answer : Answer
  pub state : State
  pub out : List ℕ

-- taken: the direct effect, then the five steps; refused: "state and out buffer come back the same"
unfoldable pub outcome : Answer → State → List ℕ → List ℕ → Outcome
unfolding pick taken settled effect sent
outcome a s r out =
    record {
      answer = a;
      state = pick (taken a) (settled (effect s r)) s;
      out = pick (taken a) (sent s r out) out;
    }

-- "64 blocks held" is full: room for one more while fewer are held
unfoldable pub room : ℕ → Bool
room held = ltb held capacity

-- a call on a well-shaped state, at any room
unfoldable pub step_shaped : (ℕ → Bool) → State → List ℕ → List ℕ → Outcome
unfolding outcome lowest_of shaped_rows
step_shaped space s r out = outcome (lowest_of (shaped_rows space s r out)) s r out

-- a call
unfoldable pub step : State → List ℕ → List ℕ → Outcome
unfolding outcome lowest_of all_rows room
step s r out = outcome (lowest_of (all_rows room s r out)) s r out

-- what a start hands back
pub record Started : Type 0 where
  pub answer : Answer
  pub state : State

-- "Starting with n of 0 or above 32, or own number not below n, answers 15 and an all-zero state"
unfoldable pub start : ℕ → ℕ → Started
unfolding pick nodes fresh all_zero
start n own =
    record {
      answer = pick (nodes n own) Answer.Taken Answer.Setup;
      state = pick (nodes n own) (fresh n own) all_zero;
    }
