-- A cast as an event of a run: what it sent, that a taken kind 5 is one, and which voters of a table had cast. Assumes nothing.
use Prim.Native.Nat.{ℕ, suc, ◌<◌}
use mathlib.Core.Bool.{true}
use mathlib.Core.List.{List}
use mathlib.Core.Logic.{◌≢◌}
use mathlib.Core.Path.{◌≡◌, sym, ap, subst, subst₂, ◌∙◌}
use native.Mathlib.Omega.{arith}
use lib.ListN.{length, get_or}
use borrow.Author.Tests.{eqb-true, eq-eqb}
use Rattle.table.specs.declared.State.{State}
use Rattle.table.specs.Rows.{rows, size, at, has_voter}
use Rattle.pala.specs.Answers.{number, taken}
use Rattle.pala.specs.Counts.{no_name, no_payload}
use Rattle.pala.specs.Effects.{picked}
use Rattle.pala.specs.Record.{kind_of, sender_of, name_of, is, message, vote_heard, cast_now}
use Rattle.pala.specs.Step.{Outcome}
use Rattle.pala.specs.Safety.{Run, event_at, state_at, outcome_at, Cast}
use Rattle.pala.proofs.Grown.{Grown}
use Rattle.pala.proofs.Keeps.{Proper}
use Rattle.pala.proofs.Sent.{at-sized, name-sent, cast-out}
use Rattle.pala.proofs.Demand.Healthy.{did_grown}
use Rattle.pala.proofs.Demand.Changes.{Voter, old, heard_of, its_own, new_voter}
use Rattle.pala.proofs.Demand.Runs.{call_at, effect_at, outcome-is, Moved}

-- a vote that was cast before a moment, had been cast by any later one
pub cast_later : {n : ℕ} {run : Run} {i : ℕ} {x : List ℕ} (m k : ℕ) (c : Cast n run m i x) → c.event < k → Cast n run k i x
cast_later m k c h =
    record {
      event = c.event;
      before = h;
      happened = c.happened;
      its = c.its;
      kind = c.kind;
      answered = c.answered;
      sent_kind = c.sent_kind;
      sent_number = c.sent_number;
      sent_name = c.sent_name;
    }

pub cast_next : {n : ℕ} {run : Run} {i : ℕ} {x : List ℕ} (m : ℕ) → Cast n run m i x → Cast n run (suc m) i x
cast_next m c = cast_later m (suc m) c (omega (arith, c.before))

-- a cast at event m, seen from there
module _ {n : ℕ} {run : Run} {m i : ℕ} {x : List ℕ} (c : Cast n run (suc m) i x) (e : c.event ≡ m) where
  pub kind_at : is cast_now (event_at run m).bytes ≡ true
  kind_at = eq-eqb (get_or (event_at run m).bytes 0 0) cast_now (sym (ap (λ k. get_or (event_at run k).bytes 0 0) e) ∙ c.kind)

  pub happened-at : m < length run
  happened-at = subst (λ k. k < length run) e c.happened

  pub its-at : (event_at run m).to ≡ i
  its-at = sym (ap (λ k. (event_at run k).to) e) ∙ c.its

  outcome-at : outcome_at n run c.event ≡ call_at n run m i
  outcome-at = ap (outcome_at n run) e ∙ outcome-is n run m i its-at

  pub taken_at : taken (call_at n run m i).answer ≡ true
  unfolding taken
  taken_at =
      eq-eqb (number (call_at n run m i).answer) 0
      (sym (ap (λ (o : Outcome). number o.answer) outcome-at) ∙ c.answered)

  -- it was for the block that the gateway picked
  pub name-at : Proper (state_at n run m i) → (at (rows (state_at n run m i)) (picked (state_at n run m i))).name ≡ x
  name-at k =
      sym (name-sent vote_heard s.own.0 0 (at (rows s) (picked s)).name (at-sized s k (picked s)).name)
      ∙ ap name_of (sym (cast-out s (event_at run m).bytes (event_at run m).buffer taken_at kind_at))
      ∙ ap (λ (o : Outcome). name_of o.out) (sym outcome-at)
      ∙ c.sent_name
    where
      s : State
      s = state_at n run m i

-- a record taken at event m
module _ {n : ℕ} {run : Run} {m i : ℕ} (k : Proper (state_at n run m i)) (self : (state_at n run m i).own.0 ≡ i) (w : Moved n run m i) where
  -- of kind 5 it is a cast of the block picked
  own-cast : is cast_now (event_at run m).bytes ≡ true → Cast n run (suc m) i (at (rows (state_at n run m i)) (picked (state_at n run m i))).name
  unfolding message taken
  own-cast kind =
      record {
        event = m;
        before = omega arith;
        happened = w.happened;
        its = w.its;
        kind = eqb-true (get_or (event_at run m).bytes 0 0) cast_now kind;
        answered = ap (λ (o : Outcome). number o.answer) same ∙ eqb-true (number (call_at n run m i).answer) 0 w.answered;
        sent_kind = ap kind_of sent;
        sent_number = ap sender_of sent ∙ self;
        sent_name = ap name_of sent ∙ name-sent vote_heard s.own.0 0 (at (rows s) (picked s)).name (at-sized s k (picked s)).name;
      }
    where
      s : State
      s = state_at n run m i

      same : outcome_at n run m ≡ call_at n run m i
      same = outcome-is n run m i w.its

      sent : (outcome_at n run m).out ≡ message vote_heard s.own.0 0 (at (rows s) (picked s)).name no_name no_payload
      sent = ap (λ (o : Outcome). o.out) same ∙ cast-out s (event_at run m).bytes (event_at run m).buffer w.answered kind

  -- a voter that the table shows after it had cast its vote, where those shown before, and the one heard of, had
  pub voter_cast : (p j : ℕ)
      → (p < size (rows (state_at n run m i)) → has_voter (at (rows (state_at n run m i)) p) j ≡ true → Cast n run m j (at (rows (state_at n run m i)) p).name)
      → (is vote_heard (event_at run m).bytes ≡ true → j ≡ sender_of (event_at run m).bytes → j ≢ i → Cast n run m j (name_of (event_at run m).bytes))
      → p < size (rows (effect_at n run m i)) → has_voter (at (rows (effect_at n run m i)) p) j ≡ true
      → Cast n run (suc m) j (at (rows (effect_at n run m i)) p).name
  voter_cast p j before heard within v = go (new_voter k w.did p j within v)
    where
      s : State
      s = state_at n run m i

      grown : Grown (rows s) (rows (effect_at n run m i))
      grown = did_grown k w.did

      go : Voter s (event_at run m).bytes p j → Cast n run (suc m) j (at (rows (effect_at n run m i)) p).name
      go (old l x) = subst (Cast n run (suc m) j) (sym (grown.name p l)) (cast_next m (before l x))
      go (heard_of kind e other l name) =
          subst (Cast n run (suc m) j) (sym (grown.name p l ∙ name)) (cast_next m (heard kind e (λ d. other (sym e ∙ d ∙ sym self))))
      go (its_own kind e z l) =
          subst₂ (Cast n run (suc m)) (sym (e ∙ self)) (sym (grown.name p l ∙ ap (λ q. (at (rows s) q).name) z)) (own-cast kind)
