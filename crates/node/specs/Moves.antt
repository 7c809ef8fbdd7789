-- What is decided of a record: its refusal or, where it is taken, the place that its direct effect needs.
use Rattle.std.specs.Prelude.{ℕ, ◌≡◌, Bool, true, List, [], Result, drop}
use Rattle.table.specs.declared.Answer.{Answer}
use Rattle.table.specs.declared.Place.{Place}
use Rattle.table.specs.declared.State.{State}
use Rattle.table.specs.Scan.{pick}
use Rattle.table.specs.Rows.{rows, find}
use Rattle.pala.specs.Record.{is, name_of, parent_name_of, proposal_heard, vote_heard, propose_now, cast_now}
use Rattle.pala.specs.Rules.{freshest}
use Rattle.pala.specs.Answers.{taken, answered, lowest_of, shaped_rows}
use Rattle.pala.specs.Effects.{picked}
use Rattle.pala.specs.Step.{room}
use Rattle.record.specs.declared.Fields.{Fields}
use Rattle.pala.specs.Run.{lent}
use Rattle.record.specs.Fields.{fields_of, fields_in}
use Rattle.node.specs.declared.Decision.{Decision}

-- kind 1: the parent's place; kind 2: the block's; kind 4: "the freshest block"; kind 5: "the lowest place that may be voted for"
unfoldable pub place_for : State → List ℕ → ℕ
unfolding pick find rows parent_name_of name_of freshest picked
place_for s r =
    pick (is proposal_heard r) (find (rows s) (parent_name_of r))
    (pick (is vote_heard r) (find (rows s) (name_of r))
    (pick (is propose_now r) (freshest s.n (rows s))
    (pick (is cast_now r) (picked s) 0)))

-- what some rows answer: the place where it is "taken", else the refusal
unfoldable pub move_by : List (Bool × Answer) → ℕ → Result Place Answer
unfolding answered lowest_of
move_by tests place = answered (lowest_of tests) (record { 0 = place })

-- rows 4 to 14; they don't look at the out buffer
unfoldable pub decided : State → List ℕ → Result Place Answer
unfolding move_by shaped_rows room place_for
decided s r = move_by (drop 2 (shaped_rows room s r [])) (place_for s r)

-- rows 7 to 14
unfoldable pub judged : State → List ℕ → Result Place Answer
unfolding move_by shaped_rows room place_for
judged s r = move_by (drop 5 (shaped_rows room s r [])) (place_for s r)

-- what is decided of a record of any length, with an out buffer of 96 bytes lent
unfoldable pub decision : State → List ℕ → Decision
unfolding fields_in move_by shaped_rows room place_for lent
decision s r = record { fields = fields_in r; verdict = move_by (shaped_rows room s r lent) (place_for s r) }

-- the fields are the record's, the rows take it beside some out buffer, and its direct effect needs this place
pub record Granted (s : State) (f : Fields) (place : Place) (r : List ℕ) : Type 0 where
  pub out : List ℕ
  pub fields : f ≡ fields_of r
  pub takes : taken (lowest_of (shaped_rows room s r out)) ≡ true
  pub there : place.0 ≡ place_for s r
