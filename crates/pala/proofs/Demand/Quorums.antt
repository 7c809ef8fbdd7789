-- Two sets of at least q of n share an honest number, where fewer than a third are faulty. Assumes nothing.
use Prim.Native.Nat.{ℕ, zero, suc, ◌+◌, ◌*◌, ◌≤◌, ◌<◌}
use mathlib.Core.Bool.{Bool, true, false, not, ◌&&◌}
use mathlib.Core.Path.{◌≡◌}
use native.Mathlib.Omega.{arith}
use Rattle.table.specs.Scan.{pick, count}
use Rattle.table.proofs.Laws.{count-some}
use Rattle.pala.specs.Counts.{quorum}
use Rattle.pala.proofs.Counts.{quorum_enough}
use Rattle.pala.proofs.Tests.{and_l, and_r}

-- a number counts at most one
one : (a : Bool) → pick a 1 0 ≤ 1
unfolding pick
one true = omega arith
one false = omega arith

-- a number that two sets both count is honest, and in both, or faulty
shared : (n : ℕ) (f g h : ℕ → Bool) → count n f + count n g ≤ n + count n (λ i. f i && g i && h i) + count n (λ i. not (h i))
unfolding count
shared zero f g h = omega arith
shared (suc k) f g h = omega (arith, shared k f g h, step (f k) (g k) (h k))
  where
    step : (a b c : Bool) → pick a 1 0 + pick b 1 0 ≤ 1 + pick (a && b && c) 1 0 + pick (not c) 1 0
    step true true true = omega arith
    step true true false = omega arith
    step true false c = omega arith
    step false b c = omega (arith, one b)

-- two sets of a quorum each share an honest number
pub overlap : (n : ℕ) (f g h : ℕ → Bool)
    → quorum n ≤ count n f → quorum n ≤ count n g → 3 * count n (λ i. not (h i)) < n
    → (i : ℕ) × (i < n) × (f i ≡ true) × (g i ≡ true) × (h i ≡ true)
overlap n f g h qf qg few =
    let (i, below, e) = count-some n (λ i. f i && g i && h i) (omega (arith, shared n f g h, quorum_enough n)) in
    let both = and_l (f i && g i) (h i) e in
    (i, below, and_l (f i) (g i) both, and_r (f i) (g i) both, and_r (f i && g i) (h i) e)
