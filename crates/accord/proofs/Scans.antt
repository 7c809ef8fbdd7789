-- Searches over the numbers below a bound. Assumes nothing.
use Prim.Native.Nat.{ℕ, zero, suc, ◌<◌}
use mathlib.Core.Bool.{Bool, true, false}
use mathlib.Core.Logic.{◌⊎◌, inl, inr}
use mathlib.Core.Path.{◌≡◌, refl}
use native.Mathlib.Decide.{dec_lt}
use native.Mathlib.Omega.{arith}
use borrow.Author.Count.{below_more}
use Rattle.table.specs.Scan.{lowest}
use Rattle.table.proofs.Laws.{not_both, lowest_below}
use Rattle.pala.proofs.Tests.{nor_l, nor_r, or_cases}
use Rattle.accord.specs.Rulings.{any_below}

-- where none passes, each fails
pub any_none : (k : ℕ) (ok : ℕ → Bool) → any_below k ok ≡ false → (i : ℕ) → i < k → ok i ≡ false
unfolding any_below
any_none zero ok h i l = absurd (omega arith)
any_none (suc k) ok h i l =
    below_more (λ j. ok j ≡ false) k (any_none k ok (nor_l (any_below k ok) (ok k) h)) (nor_r (any_below k ok) (ok k) h) i (omega arith)

-- where one passes, here it is
pub any_hit : (k : ℕ) (ok : ℕ → Bool) → any_below k ok ≡ true → (i : ℕ) × (i < k) × (ok i ≡ true)
unfolding any_below
any_hit zero ok h = absurd (not_both h refl)
any_hit (suc k) ok h = go (any_hit k ok) (or_cases (any_below k ok) (ok k) h)
  where
    go : (any_below k ok ≡ true → (i : ℕ) × (i < k) × (ok i ≡ true)) → (any_below k ok ≡ true) ⊎ (ok k ≡ true) → (i : ℕ) × (i < suc k) × (ok i ≡ true)
    go ih (inl e) = let (i, l, y) = ih e in (i, omega arith, y)
    go ih (inr e) = (k, omega arith, e)

-- where one passes, the lowest is found
pub lowest_within : (k : ℕ) (ok : ℕ → Bool) (i : ℕ) → i < k → ok i ≡ true → lowest k ok < k
lowest_within k ok i l h =
    elim (dec_lt (lowest k ok) k) [ yes m ↦ m | no m ↦ absurd (not_both h (lowest_below k ok i (omega arith))) ]
