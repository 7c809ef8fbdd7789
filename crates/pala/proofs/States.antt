-- States and records written by hand, for the computed cases. Assumes nothing.
use Prim.Native.Nat.{ℕ, zero, suc}
use mathlib.Core.Bool.{Bool, true, false}
use mathlib.Core.List.{List, [], ◌∷◌, ◌++◌}
use lib.ListN.{take, replicate}
use Rattle.table.specs.declared.Block.{Block}
use Rattle.table.specs.declared.Epoch.{Epoch}
use Rattle.table.specs.declared.State.{State}
use Rattle.table.specs.Rows.{capacity, most_nodes, blank}
use Rattle.pala.specs.Cases.{letter}
use Rattle.pala.specs.Counts.{no_name, no_payload}
use Rattle.pala.specs.Record.{message, propose_now, cast_now, minute_up}

-- propose now, cast a vote now and the minute is up, with the sender's number
abbrev pub propose : ℕ → List ℕ → List ℕ
propose sender name = message propose_now sender 0 name no_name no_payload

abbrev pub cast_by : ℕ → List ℕ
cast_by sender = message cast_now sender 0 no_name no_name no_payload

abbrev pub minute : ℕ → List ℕ
minute sender = message minute_up sender 0 no_name no_name no_payload

-- voters 0 to k - 1
abbrev pub first_voters : ℕ → List Bool
first_voters k = take most_nodes (replicate k true ++ replicate most_nodes false)

-- a block: its name, epoch, the place of its parent, and how many of the first numbers voted for it
abbrev pub block : List ℕ → ℕ → ℕ → ℕ → Block
block name epoch parent voters =
    record {
      name = name;
      payload = no_payload;
      voters = first_voters voters;
      epoch = record { 0 = epoch };
      parent = record { 0 = parent };
    }

-- all 65 rows of a table from the first of them on
unfoldable pub table : List Block → List Block
unfolding blank
table first = take (suc capacity) (first ++ replicate (suc capacity) blank)

-- the clocks kept from the first numbers, the others zero
abbrev pub clocks_from : List Epoch → List Epoch
clocks_from first = take most_nodes (first ++ replicate most_nodes (record { 0 = 0 }))

-- a state that hasn't voted or proposed, its bar 0
abbrev pub state_of : ℕ → ℕ → ℕ → ℕ → ℕ → List Epoch → List Block → Bool → State
state_of n own local held kept clocks first torn =
    record {
      blocks = table first;
      clocks = clocks_from clocks;
      n = n;
      own = record { 0 = own };
      local = record { 0 = local };
      bar = record { 0 = 0 };
      voted = record { 0 = 0 };
      proposed = record { 0 = 0 };
      count = held;
      kept = record { 0 = kept };
      torn = torn;
    }

-- the state with the last epochs voted and proposed in
abbrev pub noted : State → ℕ → ℕ → State
noted s voted proposed =
    record {
      blocks = s.blocks;
      clocks = s.clocks;
      n = s.n;
      own = s.own;
      local = s.local;
      bar = s.bar;
      voted = record { 0 = voted };
      proposed = record { 0 = proposed };
      count = s.count;
      kept = s.kept;
      torn = s.torn;
    }

-- k blocks on the genesis, with epochs 1 to k and the letters 1 to k, no voters
unfoldable pub blocks_to : ℕ → List Block
blocks_to zero = []
blocks_to (suc k) = blocks_to k ++ (block (letter (suc k)) (suc k) 0 0 ∷ [])

-- node 0 of 4 in epoch 4, which is its turn, with k blocks at places 1 to 64 and `held` as their number
unfoldable pub filled : ℕ → ℕ → State
unfolding blocks_to table blank
filled k held = state_of 4 0 4 held 0 [] (blank ∷ blocks_to k) false
