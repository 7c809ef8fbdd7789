-- Choices, and scans over the numbers below a bound: every search, count and choice of 01 is stated by these.
use Rattle.std.specs.Prelude.{ℕ, zero, suc, ◌+◌, max, Bool, true, false, ◌&&◌, ltb}

-- the first where the test holds, else the second
unfoldable pub pick {ℓ} : {A : Type ℓ} → Bool → A → A → A
pick true x y = x
pick false x y = y

-- does every number below k pass
unfoldable pub all_below : ℕ → (ℕ → Bool) → Bool
all_below zero ok = true
all_below (suc k) ok = all_below k ok && ok k

-- how many numbers below k pass
unfoldable pub count : ℕ → (ℕ → Bool) → ℕ
unfolding pick
count zero ok = 0
count (suc k) ok = count k ok + pick (ok k) 1 0

-- the lowest number below k that passes; k where none does
unfoldable pub lowest : ℕ → (ℕ → Bool) → ℕ
unfolding pick
lowest zero ok = 0
lowest (suc k) ok = let i = lowest k ok in pick (ltb i k) i (pick (ok k) k (suc k))

-- of the numbers below k that pass, the one of highest rank, of equals the lowest; 0 where none that passes ranks above 0 itself
unfoldable pub highest : ℕ → (ℕ → Bool) → (ℕ → ℕ) → ℕ
unfolding pick
highest zero ok rank = 0
highest (suc k) ok rank = let b = highest k ok rank in pick (ok k && ltb (rank b) (rank k)) k b

-- the greatest value that a number below k which passes has; 0 where none passes
unfoldable pub greatest : ℕ → (ℕ → Bool) → (ℕ → ℕ) → ℕ
unfolding pick
greatest zero ok value = 0
greatest (suc k) ok value = max (greatest k ok value) (pick (ok k) (value k) 0)
