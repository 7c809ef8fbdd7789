-- The table of a well-shaped state as demand 3 reads it: blocks in order above the genesis. Assumes nothing.
use Prim.Native.Nat.{ℕ, ◌<◌}
use mathlib.Core.Bool.{true}
use mathlib.Core.List.{List}
use mathlib.Core.Logic.{◌≢◌}
use mathlib.Core.Path.{◌≡◌, sym, ap, subst, ◌∙◌}
use native.Mathlib.Decide.{dec_lt}
use native.Mathlib.Omega.{arith}
use Rattle.table.specs.declared.Block.{Block}
use Rattle.table.specs.declared.State.{State}
use Rattle.table.specs.Bytes.{same, zeros}
use Rattle.table.specs.Rows.{name_bytes, blank, rows, size, at}
use Rattle.pala.specs.Counts.{no_name}
use Rattle.pala.specs.Rules.{epoch_at, parent_of}
use Rattle.pala.specs.Shape.{block_ok}
use Rattle.table.proofs.Laws.{not_both, same_refl, zeros-replicate}
use Rattle.pala.proofs.Shapes.{block-name, block_apart, block-parent, block-parent-epoch, blank-is, shaped-block, shaped_root}
use Rattle.pala.proofs.Sized.{RowSized}
use Rattle.pala.proofs.Places.{parent_is}
use Rattle.pala.proofs.Keeps.{Proper, size_proper, some-rows}
use Rattle.pala.proofs.Sent.{at-sized}

pub record Sound (n : ℕ) (t : List Block) : Type 0 where
  pub some : 0 < size t
  pub root_name : (at t 0).name ≡ no_name
  pub root_epoch : epoch_at t 0 ≡ 0
  pub block : (p : ℕ) → 0 < p → p < size t → block_ok n t p ≡ true

pub shaped_sound : (s : State) → Proper s → Sound s.n (rows s)
unfolding blank epoch_at
shaped_sound s k =
    record {
      some = some-rows k;
      root_name = ap (λ (b : Block). b.name) root;
      root_epoch = ap (λ (b : Block). b.epoch.0) root;
      block = λ p pos h. shaped-block s k.shaped p pos (omega (arith, size_proper k));
    }
  where
    zeroth : RowSized (at (rows s) 0)
    zeroth = at-sized s k 0

    root : at (rows s) 0 ≡ blank
    root = blank-is (at (rows s) 0) (shaped_root s k.shaped) zeroth.name zeroth.payload zeroth.voters

module _ {n : ℕ} {t : List Block} (s : Sound n t) where
  -- the parent's epoch is smaller
  pub parent_earlier : (p : ℕ) → 0 < p → p < size t → epoch_at t (parent_of t p) < epoch_at t p
  parent_earlier p pos h =
      subst (λ q. epoch_at t q < epoch_at t p) (sym (parent_is t p (block-parent n t p (s.block p pos h))))
      (block-parent-epoch n t p (s.block p pos h))

  -- no two names alike
  apart : (p q : ℕ) → p < q → q < size t → (at t p).name ≢ (at t q).name
  apart p q l h e =
      not_both (ap (λ x. same x (at t q).name) e ∙ same_refl (at t q).name) (block_apart n t q (s.block q (omega arith) h) p l)

  -- a name has one place
  pub one_place : (p q : ℕ) → p < size t → q < size t → (at t p).name ≡ (at t q).name → p ≡ q
  one_place p q a b e =
      elim (dec_lt p q) [
        | yes l ↦ absurd (apart p q l b e)
        | no l ↦ elim (dec_lt q p) [ yes m ↦ absurd (apart q p m a (sym e)) | no m ↦ omega arith ]
      ]

  -- only the root has the name of zeros
  pub not_root : (p : ℕ) → 0 < p → p < size t → (at t p).name ≢ no_name
  not_root p pos h e = not_both (ap zeros e ∙ zeros-replicate name_bytes) (block-name n t p (s.block p pos h))
