-- "A state is well shaped when ..": states in order, and each clause broken alone. Assumes nothing.
use Prim.Native.Nat.{ℕ}
use mathlib.Core.Bool.{Bool, true, false}
use mathlib.Core.List.{List, [], ◌∷◌, ◌++◌, map}
use mathlib.Core.Path.{◌≡◌, refl}
use lib.ListN.{replicate, set}
use Rattle.table.specs.declared.Block.{Block}
use Rattle.table.specs.declared.Epoch.{Epoch}
use Rattle.table.specs.declared.State.{State}
use Rattle.table.specs.Rows.{most_nodes, blank}
use Rattle.pala.specs.Cases.{A, B, C, genesis_name, one_payload}
use Rattle.pala.specs.Counts.{no_name, no_payload, top_epoch}
use Rattle.pala.specs.Shape.{well_shaped}
use Rattle.pala.proofs.States.{block, table, state_of, filled}

-- A (epoch 1, on genesis) and B (epoch 2, on A), each with the votes of 0 to 3
abbrev a : Block
a = block A 1 0 4

abbrev b : Block
b = block B 2 1 4

abbrev two : List Block
two = blank ∷ a ∷ b ∷ []

-- the clocks of four nodes
abbrev four : List Epoch
four = replicate 4 (record { 0 = 9 })

-- with a third block, and with a row where the third block would stand that isn't counted
abbrev third : Block → State
third c = state_of 4 0 3 3 0 [] (two ++ (c ∷ [])) false

abbrev unused : Block → State
unused c = state_of 4 0 3 2 0 [] (two ++ (c ∷ [])) false

-- a row that is blank but for one field
abbrev stray_row : List ℕ → List ℕ → List Bool → ℕ → ℕ → Block
stray_row name payload voters epoch parent =
    record { name = name; payload = payload; voters = voters; epoch = record { 0 = epoch }; parent = record { 0 = parent } }

abbrev no_voter : List Bool
no_voter = replicate most_nodes false

in_order : List State
in_order =
    -- n, own number, local epoch, kept place, the last clock and voter below n at their bounds
    state_of 1 0 1 0 0 [] [] false
    ∷ state_of 32 31 1 0 0 (replicate 32 (record { 0 = 9 })) [] false
    ∷ state_of 4 3 3 2 2 four two false
    -- "A torn state can be read"
    ∷ state_of 4 3 3 2 2 four two true
    -- "at most 64 blocks"
    ∷ filled 64 64
    -- "Block epochs run from 1 to 4,294,967,294"
    ∷ third (block C 4294967294 2 4)
    ∷ []

out_of_order : List State
out_of_order =
    -- "n is 1 to 32, own number below n"
    state_of 0 0 1 0 0 [] [] false
    ∷ state_of 33 0 1 0 0 [] [] false
    ∷ state_of 4 4 1 0 0 [] [] false
    -- "at most 64 blocks"
    ∷ filled 64 65
    -- "no block name all zero and no two alike"
    ∷ third (block genesis_name 3 2 4)
    ∷ third (block A 3 2 4)
    -- "each block's parent at a lower place and of a smaller epoch"
    ∷ state_of 4 0 3 2 0 [] (blank ∷ block A 2 2 4 ∷ block B 1 0 4 ∷ []) false
    ∷ third (block C 3 3 4)
    ∷ third (block C 2 2 4)
    -- "each block epoch in range"
    ∷ third (block C top_epoch 2 4)
    ∷ third (block C 0 0 4)
    -- "voters only below n"
    ∷ third (block C 3 2 5)
    ∷ third (stray_row C no_payload (set no_voter 31 true) 3 2)
    -- "the kept final place no higher than the number of blocks"
    ∷ state_of 4 0 3 2 3 [] two false
    -- "local epoch at least 1"
    ∷ state_of 4 0 0 2 0 [] two false
    -- "unused table places .. all zero"
    ∷ unused (block C 3 2 4)
    ∷ unused (stray_row C no_payload no_voter 0 0)
    ∷ unused (stray_row no_name one_payload no_voter 0 0)
    ∷ unused (stray_row no_name no_payload (set no_voter 3 true) 0 0)
    ∷ unused (stray_row no_name no_payload no_voter 3 0)
    ∷ unused (stray_row no_name no_payload no_voter 0 1)
    -- the last place, and the genesis's
    ∷ filled 64 63
    ∷ state_of 4 0 3 0 0 [] (stray_row no_name one_payload no_voter 0 0 ∷ []) false
    -- "the clocks of numbers at or above n all zero"
    ∷ state_of 4 0 3 2 0 (replicate 5 (record { 0 = 9 })) two false
    ∷ state_of 4 0 3 2 0 (set (replicate 32 (record { 0 = 0 })) 31 (record { 0 = 9 })) two false
    ∷ []

-- the first are well shaped and the others not
shapes_hold :
    (map well_shaped in_order ≡ replicate 6 true) × (map well_shaped out_of_order ≡ replicate 25 false)
unfolding well_shaped in_order out_of_order table blank filled
shapes_hold = (refl, refl)
