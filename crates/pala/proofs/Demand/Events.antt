-- The premises event by event give the premises at every moment. Assumes nothing.
use Prim.Native.Nat.{ℕ, suc, ◌≤◌, ◌<◌}
use mathlib.Core.Bool.{Bool, true}
use mathlib.Core.List.{List}
use mathlib.Core.Logic.{◌≢◌, ◌⊎◌, inl, inr}
use mathlib.Core.Path.{◌≡◌, sym, ap, subst, ◌∙◌}
use native.Mathlib.Omega.{arith}
use lib.ListN.{get_or}
use borrow.Author.Tests.{eqb-true}
use Rattle.table.specs.declared.Block.{Block}
use Rattle.table.specs.declared.State.{State}
use Rattle.table.specs.Rows.{most_nodes, rows, size, at, has_voter}
use Rattle.pala.specs.Answers.{number, taken}
use Rattle.pala.specs.Record.{sender_of, name_of, is, proposal_heard, vote_heard, propose_now}
use Rattle.pala.specs.Rules.{parent_of}
use Rattle.pala.specs.Step.{Outcome}
use Rattle.pala.specs.Steps.{settled}
use Rattle.pala.specs.Safety.{Run, event_at, state_at, table_at, outcome_at, Honest, Cast, Held, Book, Fits, NoForgedVote, OneBlockOneName}
use Rattle.pala.specs.Events.{Taken, EachTaken, EventForm}
use Rattle.pala.proofs.Grown.{Grown, grown_parent, grown_epoch}
use Rattle.pala.proofs.Places.{parent_below}
use Rattle.pala.proofs.Keeps.{Proper}
use Rattle.pala.proofs.Demand.Healthy.{did_grown}
use Rattle.pala.proofs.Demand.Runs.{call_at, effect_at, outcome-is, fresh_none, Moved, reached, at_moments, reached-same}
use Rattle.pala.proofs.Demand.Changes.{new_place}
use Rattle.pala.proofs.Demand.Casts.{cast_next, voter_cast}

-- a grown table's old blocks are the book's if they were
grown_fits : {book : Book} {t u : List Block} (p : ℕ) → Grown t u → 1 ≤ p → p < size t → Fits book t p → Fits book u p
grown_fits {book} {t} {u} p g pos h f =
    record {
      epoch = grown_epoch g p h ∙ f.epoch ∙ ap (λ x. (book x).epoch) (sym (g.name p h));
      parent =
          ap (λ q. (at u q).name) (grown_parent g p h)
          ∙ g.name (parent_of t p) (omega (arith, parent_below t p pos))
          ∙ f.parent
          ∙ ap (λ x. (book x).parent) (sym (g.name p h));
    }

module _ (n : ℕ) (honest : ℕ → Bool) (run : Run) (some : 1 ≤ n) (most : n ≤ most_nodes) (book : Book) (each : EachTaken n honest run book) where
  -- what is to be shown of the table t of an honest gateway at a moment
  record Good (m : ℕ) (t : List Block) : Type 0 where
    cast : (p j : ℕ) → Honest n honest j → Held t p → has_voter (at t p) j ≡ true → Cast n run m j (at t p).name
    fits : (p : ℕ) → Held t p → Fits book t p

  good_later : (m : ℕ) (t : List Block) → Good m t → Good (suc m) t
  good_later m t g = record { cast = λ p j hj h v. cast_next m (g.cast p j hj h v); fits = g.fits }

  -- after a record taken at event m
  good_took : (i : ℕ) → Honest n honest i → (m : ℕ) → Moved n run m i → Good m (rows (state_at n run m i)) → Good (suc m) (rows (effect_at n run m i))
  unfolding taken settled rows
  good_took i hi m w g =
      record {
        cast = λ p j hj h. voter_cast proper (reached-same n i some most hi.0 run m).1 w p j (λ l v. g.cast p j hj (h.0, l) v) (heard j hj) h.1;
        fits = λ p h. block p h (new_place proper w.did p h.1);
      }
    where
      s : State
      s = state_at n run m i

      r : List ℕ
      r = (event_at run m).bytes

      u : State
      u = effect_at n run m i

      proper : Proper s
      proper = (reached n i some most hi.0 run m).proper

      grown : Grown (rows s) (rows u)
      grown = did_grown proper w.did

      same : outcome_at n run m ≡ call_at n run m i
      same = outcome-is n run m i w.its

      told : Taken n honest run book m
      told =
          each m w.happened (subst (Honest n honest) (sym w.its) hi)
          (ap (λ (o : Outcome). number o.answer) same ∙ eqb-true (number (call_at n run m i).answer) 0 w.answered)

      heard : (j : ℕ) → Honest n honest j → is vote_heard r ≡ true → j ≡ sender_of r → j ≢ i → Cast n run m j (name_of r)
      heard j hj kind e _ =
          subst (λ x. Cast n run m x (name_of r)) (sym e) (told.vote (eqb-true (get_or r 0 0) vote_heard kind) (subst (Honest n honest) e hj))

      kinds : (is proposal_heard r ≡ true) ⊎ (is propose_now r ≡ true) → (get_or r 0 0 ≡ proposal_heard) ⊎ (get_or r 0 0 ≡ propose_now)
      kinds (inl x) = inl (eqb-true (get_or r 0 0) proposal_heard x)
      kinds (inr x) = inr (eqb-true (get_or r 0 0) propose_now x)

      block : (p : ℕ) → Held (rows u) p → (p < size (rows s)) ⊎ (((is proposal_heard r ≡ true) ⊎ (is propose_now r ≡ true)) × (p ≡ u.count))
          → Fits book (rows u) p
      block p h (inl l) = grown_fits p grown h.0 l (g.fits p (h.0, l))
      block p h (inr (kind, e)) =
          subst (Fits book (rows u)) (sym e)
          (subst (λ (x : State). Fits book (rows x) x.count) (ap (λ (o : Outcome). o.state) same ∙ w.settles) (told.block (kinds kind)))

  good : (m i : ℕ) → Honest n honest i → Good m (table_at n run m i)
  good m i hi =
      at_moments n i some most hi.0 run Good
      (record { cast = λ p j hj h v. absurd (fresh_none n i p h); fits = λ p h. absurd (fresh_none n i p h) })
      good_later (good_took i hi) m

  -- no vote is counted that wasn't cast, and one name stands for one block
  pub cast_by_event : NoForgedVote n honest run
  cast_by_event m i p j hi hj h v = (good m i hi).cast p j hj h v

  pub fits_by_event : OneBlockOneName n honest run book
  fits_by_event m i p hi h = (good m i hi).fits p h

-- the event form gives the moment form
pub by_event : EventForm
by_event n honest run ep =
    record {
      some = ep.some;
      most = ep.most;
      few_faulty = ep.few_faulty;
      cast = cast_by_event n honest run ep.some ep.most ep.book ep.each;
      book = ep.book;
      fits = fits_by_event n honest run ep.some ep.most ep.book ep.each;
    }
