-- One row stored in a state makes the state that 01's effects name. Assumes nothing.
use Prim.Native.Nat.{ℕ, suc, ◌+◌, ◌<◌}
use mathlib.Core.List.{List}
use mathlib.Core.Path.{◌≡◌, sym, ap, ◌∙◌}
use native.Mathlib.Numerals.{add-one}
use native.Mathlib.Omega.{arith}
use lib.ListN.{length, get_or, set}
use Rattle.table.specs.declared.Block.{Block}
use Rattle.table.specs.declared.State.{State}
use Rattle.table.specs.Rows.{capacity, rows, size, at, with_voter}
use Rattle.table.proofs.Laws.{at_rows, size-rows}
use Rattle.pala.specs.Effects.{put, with_block, with_vote}
use Rattle.pala.proofs.Grown.{laid-set}

module _ (s : State) where
  pub block_stored : length s.blocks ≡ suc capacity → (b : Block) (proposed : ℕ) → s.count < capacity → put s (set s.blocks (s.count + 1) b) (s.count + 1) s.clocks s.voted.0 proposed ≡ with_block s b proposed
  unfolding with_block
  block_stored l b proposed h =
      ap (λ (k : ℕ). put s (set s.blocks k b) k s.clocks s.voted.0 proposed) (add-one s.count)
      ∙ ap (λ (x : List Block). put s x (suc s.count) s.clocks s.voted.0 proposed) (sym (laid-set s.blocks (suc s.count) b (omega arith)))

  pub vote_stored : (p i voted : ℕ) (b d : Block) → p < size (rows s) → b ≡ with_voter (get_or s.blocks p d) i → put s (set s.blocks p b) s.count s.clocks voted s.proposed.0 ≡ with_vote s p i voted
  unfolding with_vote
  vote_stored p i voted b d h e =
      let held = at_rows s p d (omega (arith, size-rows s)) (omega (arith, size-rows s)) in
      ap (λ (x : Block). put s (set s.blocks p x) s.count s.clocks voted s.proposed.0) (e ∙ ap (λ (x : Block). with_voter x i) (sym held))
      ∙ ap (λ (x : List Block). put s x s.count s.clocks voted s.proposed.0) (sym (laid-set s.blocks p (with_voter (at (rows s) p) i) (omega (arith, size-rows s))))
