-- What every state that a gateway reaches keeps to beyond its shape, and that a call keeps it. Assumes nothing.
use Prim.Native.Nat.{ℕ, ◌<◌}
use mathlib.Core.Bool.{true}
use mathlib.Core.List.{List, [], ◌∷◌, ◌++◌}
use mathlib.Core.Path.{◌≡◌, sym, ap, subst, subst₂, ◌∙◌}
use lib.ListN.{set}
use Rattle.table.specs.declared.Block.{Block}
use Rattle.table.specs.declared.State.{State}
use Rattle.table.specs.Rows.{rows, size, at, with_voter}
use Rattle.pala.specs.Effects.{with_block, with_vote, with_clock, effect}
use Rattle.pala.specs.Rules.{candidate}
use Rattle.pala.specs.Step.{step, room}
use Rattle.pala.specs.Steps.{new_kept, forward, settled}
use Rattle.table.proofs.Laws.{pick-case}
use Rattle.pala.proofs.Grown.{Grown}
use Rattle.pala.proofs.Moves.{Did, added, counted, cast, clocked, Stepped, refused, took}
use Rattle.pala.proofs.Keeps.{Proper, rows_added, rows_voted, not_full, did_grows}
use Rattle.pala.proofs.Calls.{call_did, call_keeps}
use Rattle.pala.proofs.Demand.Freshest.{Kept, grown_kept, candidate-kept}

-- the kept block is the genesis, or the parent of a firm normal block
abbrev pub KeptBy : State → Type 0
KeptBy s = Kept s.n (rows s) s.kept.0

pub record Healthy (s : State) : Type 0 where
  pub proper : Proper s
  pub kept : KeptBy s

-- the direct effect leaves n, the own number, the tear and the kept place alone
same-fields : {u v : State} → u ≡ v → (u.n ≡ v.n) × (u.own.0 ≡ v.own.0) × (u.torn ≡ v.torn) × (u.kept.0 ≡ v.kept.0)
same-fields e = (ap (λ (x : State). x.n) e, ap (λ (x : State). x.own.0) e, ap (λ (x : State). x.torn) e, ap (λ (x : State). x.kept.0) e)

pub did_same : {s : State} {r : List ℕ} {u : State} → Did room s r u → (u.n ≡ s.n) × (u.own.0 ≡ s.own.0) × (u.torn ≡ s.torn) × (u.kept.0 ≡ s.kept.0)
unfolding with_block with_vote with_clock
did_same (added b proposed k w l e) = same-fields e
did_same (counted k pos l below other e) = same-fields e
did_same (cast k l v e) = same-fields e
did_same (clocked i c k2 k5 below e) = same-fields e

module _ {s : State} (k : Proper s) where
  -- the table after a block, after a vote
  pub after_block : {u : State} (b : Block) (proposed : ℕ) → room s.count ≡ true → u ≡ with_block s b proposed → rows u ≡ rows s ++ (b ∷ [])
  after_block b proposed l e = ap rows e ∙ rows_added s k.sized.blocks k.shaped b proposed (not_full s.count l)

  pub after-vote : {u : State} (p i voted : ℕ) → p < size (rows s) → u ≡ with_vote s p i voted → rows u ≡ set (rows s) p (with_voter (at (rows s) p) i)
  after-vote p i voted l e = ap rows e ∙ rows_voted s k.sized.blocks k.shaped p i voted l

  -- it only grows
  pub did_grown : {r : List ℕ} {u : State} → Did room s r u → Grown (rows s) (rows u)
  did_grown = did_grows s k.sized.blocks k.shaped

-- so what is kept may still be kept
pub did_kept : {s : State} → Healthy s → {r : List ℕ} {u : State} → Did room s r u → KeptBy u
did_kept h {u = u} d =
    subst₂ (λ n c. Kept n (rows u) c) (sym (did_same d).0) (sym (did_same d).3) (grown_kept (did_grown h.proper d) h.kept)

-- "it is kept instead": the candidate may be kept
settled-kept : (u : State) → KeptBy u → KeptBy (settled u)
unfolding settled rows new_kept
settled-kept u k =
    pick-case (Kept u.n (rows u)) (forward u) (candidate u.n (rows u)) u.kept.0
    (λ _. candidate-kept u.n (rows u)) (λ _. k)

pub step_healthy : (s : State) (r out : List ℕ) → Healthy s → Healthy (step s r out).state
step_healthy s r out h = record { proper = call_keeps s r out h.proper; kept = go (call_did s r out h.proper) }
  where
    go : Stepped room s r out (step s r out) → KeptBy (step s r out).state
    go (refused k e) = subst KeptBy (sym e) h.kept
    go (took k p d e) = subst KeptBy (sym e) (settled-kept (effect s r) (did_kept h d))
