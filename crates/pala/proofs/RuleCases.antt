-- "Then, always in this order": the freshest block, the agreed clock, the candidate, what descends and what is kept, on small tables. Assumes nothing.
use Prim.Native.Nat.{ℕ}
use mathlib.Core.Bool.{true, false}
use mathlib.Core.List.{List, [], ◌∷◌, map}
use mathlib.Core.Path.{◌≡◌, refl}
use Rattle.table.specs.declared.Block.{Block}
use Rattle.table.specs.declared.State.{State}
use Rattle.table.specs.Rows.{blank}
use Rattle.pala.specs.Cases.{letter}
use Rattle.pala.specs.Rules.{line, freshest, agreed, ballot, candidate, descends}
use Rattle.pala.specs.Steps.{new_kept, new_torn}
use Rattle.pala.proofs.States.{block, table, clocks_from, state_of}

-- a block of an epoch on a parent's place with all its votes, and one with a vote too few
abbrev voted : ℕ → ℕ → Block
voted epoch parent = block (letter epoch) epoch parent 3

abbrev short : ℕ → ℕ → Block
short epoch parent = block (letter epoch) epoch parent 2

-- "Freshest: the firm block of highest epoch; of equals the lowest place"
freshest-is :
    (freshest 4 (blank ∷ voted 5 0 ∷ voted 7 1 ∷ voted 6 0 ∷ voted 7 0 ∷ short 9 0 ∷ voted 9 5 ∷ []) ≡ 2)
    × (freshest 4 (blank ∷ short 1 0 ∷ []) ≡ 0)
unfolding freshest blank
freshest-is = (refl, refl)

-- the places down from a block to the genesis, and the ones that a block is or descends from
abbrev branches : List Block
branches = blank ∷ voted 1 0 ∷ voted 2 1 ∷ voted 3 1 ∷ voted 4 3 ∷ []

descent :
    (line branches 4 ≡ 4 ∷ 3 ∷ 1 ∷ 0 ∷ [])
    × (map (descends branches 4) (0 ∷ 1 ∷ 2 ∷ 3 ∷ 4 ∷ []) ≡ true ∷ true ∷ false ∷ true ∷ true ∷ [])
    × (map (descends branches 1) (0 ∷ 1 ∷ 2 ∷ 3 ∷ 4 ∷ []) ≡ true ∷ true ∷ false ∷ false ∷ false ∷ [])
unfolding line descends blank
descent = (refl, refl, refl)

-- "the greatest c such that at least q nodes have a kept clock of c or more": of the clocks of four nodes the third highest
abbrev agree : ℕ → ℕ → ℕ → ℕ → ℕ
agree a b c d = agreed 4 (clocks_from (record { 0 = a } ∷ record { 0 = b } ∷ record { 0 = c } ∷ record { 0 = d } ∷ []))

clocks_agree :
    (agree 5 5 5 0 ∷ agree 9 5 5 5 ∷ agree 5 5 5 5 ∷ [] ≡ 5 ∷ 5 ∷ 5 ∷ [])
    × (agree 0 8 9 8 ∷ agree 5 5 6 6 ∷ agree 8 5 7 6 ∷ agree 0 5 5 6 ∷ [] ≡ 8 ∷ 5 ∷ 6 ∷ 5 ∷ [])
    × (agree 0 0 0 9 ∷ agree 9 0 9 0 ∷ [] ≡ 0 ∷ 0 ∷ [])
unfolding agreed
clocks_agree = (refl, refl, refl)

-- "the lowest place that may be voted for": of epoch 3, on a firm block of at least the bar; none
ballot-is :
    (ballot 4 (blank ∷ voted 1 0 ∷ short 2 1 ∷ short 3 0 ∷ short 3 2 ∷ short 3 1 ∷ short 3 1 ∷ []) 3 1 2 ≡ 5)
    × (ballot 4 (blank ∷ voted 1 0 ∷ short 3 0 ∷ []) 3 1 2 ≡ 3)
unfolding ballot blank
ballot-is = (refl, refl)

-- 02, M-104: "the parent of the firm normal block of highest epoch ..; genesis if none"
candidate-is :
    (candidate 4 (blank ∷ voted 1 0 ∷ voted 2 1 ∷ voted 4 2 ∷ voted 5 3 ∷ voted 6 3 ∷ []) ≡ 3)
    × (candidate 4 (blank ∷ voted 1 0 ∷ voted 2 1 ∷ voted 4 2 ∷ voted 5 3 ∷ voted 7 4 ∷ []) ≡ 3)
    × (candidate 4 (blank ∷ voted 2 0 ∷ voted 4 1 ∷ []) ≡ 0)
unfolding candidate blank
candidate-is = (refl, refl, refl)

-- ".. lowest place among equals"; a normal block that lacks votes, or whose parent does, is not firm
candidate-among :
    (candidate 4 (blank ∷ voted 1 0 ∷ voted 1 0 ∷ voted 2 2 ∷ voted 2 1 ∷ []) ≡ 2)
    × (candidate 4 (blank ∷ voted 1 0 ∷ voted 2 1 ∷ short 3 2 ∷ voted 4 3 ∷ []) ≡ 1)
unfolding candidate blank
candidate-among = (refl, refl)

-- "If the candidate is the kept final block or descends from it, it is kept instead. If the kept one descends from the candidate, it
-- stays. Otherwise it stays and the state is torn": A is the candidate; kept are the genesis, A, B on it, and a block beside it
abbrev keeping : ℕ → State
keeping place = state_of 4 0 3 3 place [] (blank ∷ voted 1 0 ∷ voted 2 1 ∷ short 3 0 ∷ []) false

kept-is :
    (map (λ p. new_kept (keeping p)) (0 ∷ 1 ∷ 2 ∷ 3 ∷ []) ≡ 1 ∷ 1 ∷ 2 ∷ 3 ∷ [])
    × (map (λ p. new_torn (keeping p)) (0 ∷ 1 ∷ 2 ∷ 3 ∷ []) ≡ false ∷ false ∷ false ∷ true ∷ [])
unfolding new_kept new_torn table blank
kept-is = (refl, refl)
