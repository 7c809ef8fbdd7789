-- The places that the rules go by: a name's, a parent's, the freshest block's, the candidate's, and what a block that may be voted for
-- has. Assumes nothing.
use Prim.Native.Nat.{ℕ, ◌≤◌, ◌<◌}
use mathlib.Core.Bool.{true, false, not}
use mathlib.Core.List.{List}
use mathlib.Core.Logic.{◌≢◌}
use mathlib.Core.Path.{◌≡◌, ap, ◌∙◌}
use native.Mathlib.Omega.{arith}
use lib.Dec.{eqb, ltb, leb}
use borrow.Author.Tests.{ltb-true, leb-true, eqb-true, eqb-false, not-true}
use Rattle.table.specs.declared.Block.{Block}
use Rattle.table.specs.Bytes.{same}
use Rattle.table.specs.Rows.{size, at, find}
use Rattle.table.proofs.Laws.{not_both, lowest_hit, lowest_below, highest_in, same_refl, same_true}
use Rattle.pala.specs.Rules.{epoch_at, parent_of, firm, freshest, votable, freshest_normal, candidate}
use Rattle.pala.proofs.Tests.{and_l, and_r}
use Rattle.pala.proofs.Falls.{lower-is, lower-zero, lower_below, lower-le}

-- ---- a name's place

pub find-named : (t : List Block) (name : List ℕ) → find t name < size t → (at t (find t name)).name ≡ name
unfolding find
find-named t name h =
    same_true (at t (find t name)).name name (lowest_hit (size t) (λ p. same (at t p).name name) h)

-- a name with no place in the table is no row's
pub find_misses : (t : List Block) (name : List ℕ) → size t ≤ find t name → (p : ℕ) → p < size t → (at t p).name ≢ name
unfolding find
find_misses t name h p l e =
    let other : same (at t p).name name ≡ false = lowest_below (size t) (λ q. same (at t q).name name) p (omega arith) in
    not_both (ap (λ (x : List ℕ). same x name) e ∙ same_refl name) other

-- ---- a parent's place: "places fall"

module _ (t : List Block) where
  pub parent_below : (p : ℕ) → 0 < p → parent_of t p < p
  unfolding parent_of
  parent_below = lower_below (λ a. (at t a).parent.0)

  -- the genesis is its own
  pub parent-zero : parent_of t 0 ≡ 0
  unfolding parent_of
  parent-zero = lower-zero (λ a. (at t a).parent.0)

  pub parent-lower : (p : ℕ) → parent_of t p ≤ p
  unfolding parent_of
  parent-lower = lower-le (λ a. (at t a).parent.0)

  -- the parent as the row has it, where it is lower
  pub parent_is : (p : ℕ) → (at t p).parent.0 < p → parent_of t p ≡ (at t p).parent.0
  unfolding parent_of
  parent_is = lower-is (λ a. (at t a).parent.0)

-- ---- the freshest block and the candidate are rows

pub freshest_in : (n : ℕ) (t : List Block) → 0 < size t → freshest n t < size t
unfolding freshest
freshest_in n t = highest_in (size t) _ _

normal_in : (n : ℕ) (t : List Block) → 0 < size t → freshest_normal n t < size t
unfolding freshest_normal
normal_in n t = highest_in (size t) _ _

pub candidate_in : (n : ℕ) (t : List Block) → 0 < size t → candidate n t < size t
unfolding candidate
candidate_in n t h = omega (arith, normal_in n t h, parent-lower t (freshest_normal n t))

-- ---- "A block may be voted for when ..", part by part

pub record Votable (n : ℕ) (t : List Block) (local bar voted p : ℕ) : Type 0 where
  pub above : 0 < p
  pub now : epoch_at t p ≡ local
  pub firmly : firm n t (parent_of t p) ≡ true
  pub fresher : bar ≤ epoch_at t (parent_of t p)
  pub new : voted ≢ local

pub votable_parts : (n : ℕ) (t : List Block) (local bar voted p : ℕ) → votable n t local bar voted p ≡ true → Votable n t local bar voted p
unfolding votable
votable_parts n t local bar voted p h =
    let a : ltb 0 p ≡ true = search (and_l, and_r) in
    let b : eqb (epoch_at t p) local ≡ true = search (and_l, and_r) in
    let c : firm n t (parent_of t p) ≡ true = search (and_l, and_r) in
    let d : leb bar (epoch_at t (parent_of t p)) ≡ true = search (and_l, and_r) in
    let e : not (eqb voted local) ≡ true = search (and_l, and_r) in
    record {
      above = ltb-true 0 p a;
      now = eqb-true (epoch_at t p) local b;
      firmly = c;
      fresher = leb-true bar (epoch_at t (parent_of t p)) d;
      new = eqb-false voted local (not-true (eqb voted local) e);
    }
