-- "A state is well shaped when ..", taken apart as the code tests it: what a row tells by itself and with its parent's epoch,
-- what an unused place tells, and the names, each against those below it.
use Rattle.std.specs.Prelude.{ℕ, suc, ◌+◌, ◌*◌, Bool, not, ◌&&◌, ◌||◌, List, eqb, ltb, leb, get_or}
use Rattle.table.specs.declared.Block.{Block}
use Rattle.table.specs.declared.State.{State}
use Rattle.table.specs.Scan.{all_below}
use Rattle.table.specs.Bytes.{same, zeros}
use Rattle.table.specs.Rows.{capacity, blank, rows, at}
use Rattle.pala.specs.Counts.{block_epoch}
use Rattle.pala.specs.Rules.{epoch_at}
use Rattle.pala.specs.Shape.{voters_ok, is_blank}

-- a block by itself, but for its name's likes and its parent's place: `up` is the parent's epoch
unfoldable pub in_order : ℕ → ℕ → Block → Bool
unfolding zeros block_epoch voters_ok
in_order n up b = not (zeros b.name) && ltb up b.epoch.0 && block_epoch b.epoch.0 && voters_ok n b

-- the block at a place, but for its name's likes
unfoldable pub row_ok : ℕ → List Block → ℕ → Bool
unfolding at in_order epoch_at
row_ok n t p = ltb (at t p).parent.0 p && in_order n (epoch_at t (at t p).parent.0) (at t p)

-- places 1 to the number of blocks
unfoldable pub held_ok : State → Bool
unfolding all_below row_ok rows
held_ok s = all_below (suc s.count) (λ p. eqb p 0 || row_ok s.n (rows s) p)

-- the genesis's place and those above the number of blocks
unfoldable pub unused_ok : State → Bool
unfolding all_below is_blank blank
unused_ok s = all_below (suc capacity) (λ p. ltb 0 p && leb p s.count || is_blank (get_or s.blocks p blank))

-- "no two alike": no row's name is that of one below it
unfoldable pub apart : List Block → ℕ → Bool
unfolding all_below same at
apart t p = all_below p (λ q. not (same (at t q).name (at t p).name))

unfoldable pub names_apart : State → Bool
unfolding all_below apart rows
names_apart s = all_below (suc s.count) (λ p. apart (rows s) p)

-- a name's first two bytes and its last two, in one number: names whose keys differ are not alike
unfoldable pub key : List ℕ → ℕ
key name = get_or name 0 0 + 256 * get_or name 1 0 + 65536 * get_or name 30 0 + 16777216 * get_or name 31 0
