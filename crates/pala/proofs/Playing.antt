-- Records played one after the other: what a loop keeps of its state, and the final names while the kept place stays. Assumes nothing.
use Prim.Native.Nat.{ℕ, suc, ◌≤◌, ◌<◌}
use mathlib.Core.Bool.{true}
use mathlib.Core.List.{List}
use mathlib.Core.Path.{◌≡◌, sym, ap, subst, ◌∙◌}
use native.Mathlib.Omega.{arith}
use lib.ListN.{length}
use Rattle.table.specs.declared.State.{State}
use Rattle.table.specs.Rows.{capacity, rows, size}
use Rattle.pala.specs.Effects.{effect}
use Rattle.pala.specs.Lists.{final_names}
use Rattle.pala.specs.Shape.{well_shaped}
use Rattle.pala.specs.Step.{Outcome, step, room}
use Rattle.pala.proofs.Grown.{Grown, grown_same, rows_settled}
use Rattle.pala.proofs.Shapes.{shaped-kept, shaped-count}
use Rattle.pala.proofs.Moves.{Stepped, refused, took}
use Rattle.pala.proofs.Keeps.{size-shaped, did_grows, step-shaped, step-places}
use Rattle.pala.proofs.Calls.{step_is, step_stepped}
use Rattle.pala.proofs.Finals.{names_to, names_le, finals_are}
use Rattle.pala.proofs.Demand.Onward.{grown_names}

-- a well-shaped state has no more final names than the table has places
pub names_few : (s : State) → well_shaped s ≡ true → length (final_names s) ≤ capacity
names_few s h = omega (arith, ap length (finals_are s), names_le (rows s) s.kept.0, shaped-kept s h, shaped-count s h)

-- a state to go on from: its 65 rows and its shape
pub record Playable (s : State) : Type 0 where
  pub places : length s.blocks ≡ suc capacity
  pub shaped : well_shaped s ≡ true

module _ (s : State) (r out : List ℕ) (k : Playable s) where
  -- the next state is one to go on from
  pub step_playable : Playable (step s r out).state
  step_playable =
      subst (λ (o : Outcome). Playable o.state) (sym (step_is s r out k.shaped))
      (record { places = step-places s r out k.places k.shaped; shaped = step-shaped s r out k.places k.shaped })

  -- the table only grows
  step_grows : Grown (rows s) (rows (step s r out).state)
  step_grows = go (step_stepped s r out k.places k.shaped)
    where
      go : Stepped room s r out (step s r out) → Grown (rows s) (rows (step s r out).state)
      go (refused a e) = subst (λ (x : State). Grown (rows s) (rows x)) (sym e) (grown_same (rows s))
      go (took a p d e) = subst (Grown (rows s)) (sym (ap rows e ∙ rows_settled (effect s r))) (did_grows s k.places k.shaped d)

  -- while the kept place stays, so do the final names
  pub names_stay : (step s r out).state.kept.0 ≡ s.kept.0 → final_names (step s r out).state ≡ final_names s
  names_stay e =
      let inside : s.kept.0 < size (rows s) = omega (arith, shaped-kept s k.shaped, size-shaped s k.places k.shaped) in
      finals_are (step s r out).state
      ∙ ap (names_to (rows (step s r out).state)) e
      ∙ grown_names step_grows s.kept.0 inside
      ∙ sym (finals_are s)
