-- 01: "A state is well shaped when .."
use Rattle.std.specs.Prelude.{ℕ, suc, Bool, true, not, ◌&&◌, ◌||◌, List, [], ◌∷◌, eqb, ltb, leb, get_or}
use Rattle.table.specs.declared.Block.{Block}
use Rattle.table.specs.declared.Epoch.{Epoch}
use Rattle.table.specs.declared.State.{State}
use Rattle.table.specs.Scan.{pick, all_below}
use Rattle.table.specs.Bytes.{same, zeros}
use Rattle.table.specs.Rows.{capacity, most_nodes, blank, rows, at, has_voter}
use Rattle.pala.specs.Counts.{block_epoch, clock_of, nodes}
use Rattle.pala.specs.Rules.{epoch_at}

-- "no block name all zero and no two alike": none below it has its name
unfoldable pub name_ok : List Block → ℕ → Bool
unfolding all_below same zeros at
name_ok t p = not (zeros (at t p).name) && all_below p (λ q. not (same (at t q).name (at t p).name))

-- "each block's parent at a lower place and of a smaller epoch"
unfoldable pub parent_ok : List Block → ℕ → Bool
unfolding at epoch_at
parent_ok t p = ltb (at t p).parent.0 p && ltb (epoch_at t (at t p).parent.0) (epoch_at t p)

-- "voters only below n"
unfoldable pub voters_ok : ℕ → Block → Bool
unfolding all_below has_voter
voters_ok n b = all_below most_nodes (λ i. ltb i n || not (has_voter b i))

-- a block in order; "each block epoch in range"
unfoldable pub block_ok : ℕ → List Block → ℕ → Bool
unfolding name_ok parent_ok block_epoch voters_ok at epoch_at
block_ok n t p = name_ok t p && parent_ok t p && block_epoch (epoch_at t p) && voters_ok n (at t p)

-- no voter at all
unfoldable pub no_voters : List Bool → Bool
no_voters [] = true
no_voters (v ∷ l) = not v && no_voters l

-- a row of zeros
unfoldable pub is_blank : Block → Bool
unfolding zeros no_voters
is_blank b = zeros b.name && zeros b.payload && no_voters b.voters && eqb b.epoch.0 0 && eqb b.parent.0 0

-- places 1 to the number of blocks hold blocks in order, "unused table places" and the genesis's are "all zero"
unfoldable pub place_ok : ℕ → ℕ → List Block → List Block → ℕ → Bool
unfolding pick block_ok is_blank blank
place_ok n held t blocks p = pick (ltb 0 p && leb p held) (block_ok n t p) (is_blank (get_or blocks p blank))

unfoldable pub table_ok : State → Bool
unfolding all_below place_ok rows
table_ok s = all_below (suc capacity) (λ p. place_ok s.n s.count (rows s) s.blocks p)

-- "the clocks of numbers at or above n all zero"
unfoldable pub clocks_ok : ℕ → List Epoch → Bool
unfolding all_below clock_of
clocks_ok n clocks = all_below most_nodes (λ i. ltb i n || eqb (clock_of clocks i) 0)

-- "n is 1 to 32, own number below n, at most 64 blocks, .. the kept final place no higher than the number of blocks, local epoch at least 1"
unfoldable pub well_shaped : State → Bool
unfolding nodes table_ok clocks_ok
well_shaped s =
    nodes s.n s.own.0
    && leb s.count capacity
    && leb s.kept.0 s.count
    && ltb 0 s.local.0
    && clocks_ok s.n s.clocks
    && table_ok s
