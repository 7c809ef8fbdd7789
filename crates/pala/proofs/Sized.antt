-- The lengths that every state of the code has, and what keeps them. Assumes nothing.
use Prim.Native.Nat.{ℕ, suc, ◌≤◌, ◌<◌}
use mathlib.Core.Bool.{true, false}
use mathlib.Core.List.{List}
use mathlib.Core.Path.{◌≡◌, sym, subst, ◌∙◌}
use native.Mathlib.Decide.{ℕ_discrete}
use native.Mathlib.Omega.{arith}
use lib.ListN.{length, get_or, length-set, length-replicate, get_or-replicate}
use Rattle.table.specs.declared.Block.{Block}
use Rattle.table.specs.declared.Epoch.{Epoch}
use Rattle.table.specs.declared.State.{State}
use Rattle.table.specs.Rows.{capacity, most_nodes, name_bytes, payload_bytes, blank, rows, at, with_voter, plain}
use Rattle.table.proofs.Laws.{at_rows}
use Rattle.pala.specs.Effects.{laid, with_block, with_vote, with_clock}
use Rattle.pala.specs.Steps.{settled}
use Rattle.pala.proofs.Grown.{laid_same, laid_other, length-block, length-vote}

-- "32-byte name", "24 opaque payload bytes", a mark for each of the 32 nodes
pub record RowSized (b : Block) : Type 0 where
  pub name : length b.name ≡ name_bytes
  pub payload : length b.payload ≡ payload_bytes
  pub voters : length b.voters ≡ most_nodes

-- 65 rows, the genesis's and 64 further ones, and 32 clocks
pub record Sized (s : State) : Type 0 where
  pub blocks : length s.blocks ≡ suc capacity
  pub clocks : length s.clocks ≡ most_nodes
  pub row : (p : ℕ) → p ≤ capacity → RowSized (get_or s.blocks p blank)

-- ---- the states that a start hands back

blank-sized : RowSized blank
unfolding blank
blank-sized =
    record {
      name = length-replicate {A = ℕ} name_bytes 0;
      payload = length-replicate {A = ℕ} payload_bytes 0;
      voters = length-replicate most_nodes false;
    }

pub plain-sized : (n own local : ℕ) → Sized (plain n own local)
unfolding plain
plain-sized n own local =
    record {
      blocks = length-replicate (suc capacity) blank;
      clocks = length-replicate {A = Epoch} most_nodes (record { 0 = 0 });
      row = λ p l. subst RowSized (sym (get_or-replicate (suc capacity) p blank blank (omega arith))) blank-sized;
    }

-- ---- what a taken record does

-- a row laid at a place
rows-laid :
    (l : List Block) (p : ℕ) (b : Block) → p < length l → RowSized b → ((q : ℕ) → q ≤ capacity → RowSized (get_or l q blank)) →
    (q : ℕ) → q ≤ capacity → RowSized (get_or (laid l p b) q blank)
rows-laid l p b h new old q m =
    elim (ℕ_discrete q p) [
      | yes d ↦ subst (λ (x : ℕ). RowSized (get_or (laid l p b) x blank)) (sym d) (subst RowSized (sym (laid_same l p b blank h)) new)
      | no d ↦ subst RowSized (sym (laid_other l p q b blank h d)) (old q m)
    ]

voter_sized : (b : Block) (i : ℕ) → RowSized b → RowSized (with_voter b i)
unfolding with_voter
voter_sized b i h =
    record { name = h.name; payload = h.payload; voters = length-set b.voters i true ∙ h.voters }

module _ (s : State) (h : Sized s) where
  pub sized-block : (b : Block) (proposed : ℕ) → RowSized b → s.count < capacity → Sized (with_block s b proposed)
  unfolding with_block
  sized-block b proposed new l =
      let inside : suc s.count < length s.blocks = omega (arith, h.blocks) in
      record {
        blocks = length-block s b proposed inside ∙ h.blocks;
        clocks = h.clocks;
        row = rows-laid s.blocks (suc s.count) b inside new h.row;
      }

  pub sized-vote : (p i voted : ℕ) → p ≤ s.count → s.count ≤ capacity → Sized (with_vote s p i voted)
  unfolding with_vote
  sized-vote p i voted a b =
      let inside : p < length s.blocks = omega (arith, h.blocks) in
      let row : RowSized (at (rows s) p) = subst RowSized (sym (at_rows s p blank a inside)) (h.row p (omega arith)) in
      record {
        blocks = length-vote s p i voted inside ∙ h.blocks;
        clocks = h.clocks;
        row = rows-laid s.blocks p (with_voter (at (rows s) p) i) inside (voter_sized (at (rows s) p) i row) h.row;
      }

  pub sized-clock : (i c : ℕ) → Sized (with_clock s i c)
  unfolding with_clock
  sized-clock i c =
      record { blocks = h.blocks; clocks = length-set s.clocks i (record { 0 = c }) ∙ h.clocks; row = h.row }

  pub sized-settled : Sized (settled s)
  unfolding settled
  sized-settled = record { blocks = h.blocks; clocks = h.clocks; row = h.row }
