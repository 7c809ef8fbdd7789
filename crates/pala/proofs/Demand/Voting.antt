-- A call against the gateway's own vote log: it adds a vote exactly where it casts one. Assumes nothing.
use Prim.Native.Nat.{ℕ, ◌≤◌, ◌<◌}
use mathlib.Core.Bool.{true, false}
use mathlib.Core.List.{List, ◌∷◌}
use mathlib.Core.Path.{◌≡◌, refl, sym, subst}
use native.Mathlib.Omega.{arith}
use Rattle.table.specs.declared.Block.{Block}
use Rattle.table.specs.declared.State.{State}
use Rattle.table.specs.Rows.{rows, size, at, find}
use Rattle.pala.specs.Effects.{with_block, with_vote, with_clock, picked}
use Rattle.pala.specs.Record.{sender_of, name_of, is, vote_heard, cast_now}
use Rattle.pala.specs.Rules.{epoch_at, parent_of, freshest, votable}
use Rattle.pala.specs.Step.{room}
use Rattle.pala.specs.Steps.{fresh_epoch, new_local, new_bar, settled}
use Rattle.pala.proofs.Grown.{Grown}
use Rattle.pala.proofs.Places.{parent-lower, Votable, votable_parts}
use Rattle.pala.proofs.Moves.{Did, added, counted, cast, clocked, other_kind, block_no_cast}
use Rattle.pala.proofs.Keeps.{Proper, some-rows}
use Rattle.pala.proofs.Demand.Freshest.{freshest_best, freshest_grows}
use Rattle.pala.proofs.Demand.Healthy.{did_grown}
use Rattle.pala.proofs.Demand.Log.{Vote, Sane, sane_settled, sane_cast}

-- a log of names fits a state's numbers
abbrev pub Logged : List (Vote (List ℕ)) → State → Type 0
Logged log s = Sane 0 log s.local.0 s.bar.0 s.voted.0 (fresh_epoch s)

-- the vote for the block at a place
unfoldable pub vote_at : List Block → ℕ → Vote (List ℕ)
vote_at t p = record { name = (at t p).name; epoch = epoch_at t p; parent_epoch = epoch_at t (parent_of t p) }

-- the local epoch never falls
local_rises : (u : State) → u.local.0 ≤ new_local u
unfolding new_local
local_rises u = omega arith

-- the five steps, of a state whose numbers are those of a log but for a freshest epoch no lower
settled_logged : {log : List (Vote (List ℕ))} (u : State) (fresh : ℕ) → fresh ≤ fresh_epoch u
    → Sane 0 log u.local.0 u.bar.0 u.voted.0 fresh → Logged log (settled u)
unfolding settled new_bar fresh_epoch rows
settled_logged u fresh l h = sane_settled h (local_rises u) l

-- what a taken record does to the log
pub data Spoke (log : List (Vote (List ℕ))) (s : State) (r : List ℕ) (u : State) : Type 0 where
  silent : is cast_now r ≡ false → Logged log (settled u) → Spoke log s r u
  spoke : is cast_now r ≡ true → 0 < picked s → picked s < size (rows s)
      → Logged (vote_at (rows s) (picked s) ∷ log) (settled u) → Spoke log s r u

module _ {s : State} (p : Proper s) {log : List (Vote (List ℕ))} (l : Logged log s) where
  -- a table that grew has no lower a freshest epoch
  fresher : (u : State) → u.n ≡ s.n → Grown (rows s) (rows u) → fresh_epoch s ≤ fresh_epoch u
  unfolding fresh_epoch
  fresher u e g =
      subst (λ n. fresh_epoch s ≤ epoch_at (rows u) (freshest n (rows u))) (sym e) (freshest_grows g s.n (some-rows p))

  cast_logged : votable s.n (rows s) s.local.0 s.bar.0 s.voted.0 (picked s) ≡ true → picked s < size (rows s)
      → Sane 0 (vote_at (rows s) (picked s) ∷ log) s.local.0 s.bar.0 s.local.0 (fresh_epoch s)
  unfolding vote_at fresh_epoch
  cast_logged v within =
      sane_cast l (vote_at (rows s) (picked s)) w.now w.new w.fresher
      (freshest_best s.n (rows s) (parent_of (rows s) (picked s)) (omega (arith, parent-lower (rows s) (picked s))) w.firmly)
    where
      w : Votable s.n (rows s) s.local.0 s.bar.0 s.voted.0 (picked s)
      w = votable_parts s.n (rows s) s.local.0 s.bar.0 s.voted.0 (picked s) v

  -- the direct effect v, then the five steps
  then_settled : {log' : List (Vote (List ℕ))} {u : State} (v : State) → u ≡ v → v.n ≡ s.n → Grown (rows s) (rows u)
      → Sane 0 log' v.local.0 v.bar.0 v.voted.0 (fresh_epoch s) → Logged log' (settled u)
  then_settled {log'} v e same g k =
      subst (λ x. Logged log' (settled x)) (sym e)
      (settled_logged v (fresh_epoch s) (fresher v same (subst (λ x. Grown (rows s) (rows x)) e g)) k)

  pub did_spoke : {r : List ℕ} {u : State} → Did room s r u → Spoke log s r u
  unfolding with_block with_vote with_clock
  did_spoke {r} (added b proposed k w free e) =
      silent (block_no_cast r k) (then_settled (with_block s b proposed) e refl (did_grown p {r = r} (added b proposed k w free e)) l)
  did_spoke {r} (counted k pos within below other e) =
      silent (other_kind r vote_heard cast_now k refl)
      (then_settled (with_vote s (find (rows s) (name_of r)) (sender_of r) s.voted.0) e refl
      (did_grown p {r = r} (counted k pos within below other e)) l)
  did_spoke {r} (cast k within v e) =
      spoke k (votable_parts s.n (rows s) s.local.0 s.bar.0 s.voted.0 (picked s) v).above within
      (then_settled (with_vote s (picked s) s.own.0 s.local.0) e refl
      (did_grown p {r = r} (cast k within v e)) (cast_logged v within))
  did_spoke {r} (clocked i c k2 k5 below e) =
      silent k5 (then_settled (with_clock s i c) e refl (did_grown p {r = r} (clocked i c k2 k5 below e)) l)
