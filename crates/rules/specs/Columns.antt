-- A table as columns, and the rules of 01 over what columns tell: of a place its parent (`up`), its epoch and whether its votes reach
-- the quorum (`mark`). The rules of `pala` are these, of the rows themselves.
use Rattle.std.specs.Prelude.{ℕ, suc, ◌+◌, Bool, false, not, ◌&&◌, ◌||◌, List, map, eqb, ltb, leb, get_or}
use Rattle.std.specs.List.{range_with_len}
use Rattle.table.specs.declared.Block.{Block}
use Rattle.table.specs.declared.State.{State}
use Rattle.table.specs.Scan.{highest}
use Rattle.table.specs.Rows.{capacity, row_of, rows, size, at, votes}
use Rattle.pala.specs.Counts.{quorum}
use Rattle.pala.specs.Rules.{lower, fall, every}
use Rattle.rules.specs.declared.columns.Columns.{Columns}
use Rattle.rules.specs.declared.columns.Row.{Row}

-- "place 0" and "places 1 to 64"
abbrev pub places : ℕ
places = suc capacity

-- the row at a place; past the columns, the root's
unfoldable pub cell : List Row → ℕ → Row
unfolding row_of
cell t p = get_or t (row_of p) (record { parent = record { 0 = 0 }; epoch = record { 0 = 0 }; enough = false })

-- of a place its parent and its epoch, and whether its votes reach the quorum
abbrev pub up_in : Columns → ℕ → ℕ
up_in c p = (cell c.rows p).parent.0

abbrev pub epoch_in : Columns → ℕ → ℕ
epoch_in c p = (cell c.rows p).epoch.0

abbrev pub mark_in : Columns → ℕ → Bool
mark_in c p = (cell c.rows p).enough

-- what the columns show of a block
unfoldable pub row_by : ℕ → Block → Row
unfolding quorum votes
row_by n b =
    record {
      parent = b.parent;
      epoch = b.epoch;
      enough = leb (quorum n) (votes b);
    }

-- the columns of a state
unfoldable pub columns : State → Columns
unfolding row_by at rows
columns s =
    record {
      rows = map (λ p. row_by s.n (at (rows s) p)) (range_with_len 0 places);
      size = size (rows s);
    }

-- "firm when it and every ancestor up to genesis is notarized"; the genesis is "notarized by decree"
unfoldable pub firm_by : (ℕ → ℕ) → (ℕ → Bool) → ℕ → Bool
unfolding every fall
firm_by up mark p = every (λ a. eqb a 0 || mark a) (fall up p)

-- "the firm block of highest epoch; of equals the lowest place"
unfoldable pub freshest_by : ℕ → (ℕ → ℕ) → (ℕ → ℕ) → (ℕ → Bool) → ℕ
unfolding highest firm_by
freshest_by k up epoch mark = highest k (λ p. firm_by up mark p) epoch

-- "A block is normal when its epoch is its parent's plus 1"
unfoldable pub normal_by : (ℕ → ℕ) → (ℕ → ℕ) → ℕ → Bool
unfolding lower
normal_by up epoch p = eqb (epoch p) (epoch (lower up p) + 1)

-- 02, M-104: "the firm normal block of highest epoch, lowest place among equals"
unfoldable pub freshest_normal_by : ℕ → (ℕ → ℕ) → (ℕ → ℕ) → (ℕ → Bool) → ℕ
unfolding highest firm_by normal_by
freshest_normal_by k up epoch mark = highest k (λ p. firm_by up mark p && normal_by up epoch p) epoch

-- "its epoch is the local epoch, its parent is firm, the parent's epoch is at least the bar, and the last epoch voted in isn't the
-- local one"
unfoldable pub votable_by : (ℕ → ℕ) → (ℕ → ℕ) → (ℕ → Bool) → ℕ → ℕ → ℕ → ℕ → Bool
unfolding firm_by lower
votable_by up epoch mark local bar voted p =
    ltb 0 p && eqb (epoch p) local && firm_by up mark (lower up p) && leb bar (epoch (lower up p)) && not (eqb voted local)
