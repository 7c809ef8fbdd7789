-- Where a table has a block of a name.
use Rattle.std.specs.Prelude.{ℕ, ◌&&◌, List, Option, Some, None, ltb}
use Rattle.table.specs.declared.Block.{Block}
use Rattle.table.specs.declared.Place.{Place}
use Rattle.table.specs.Scan.{pick}
use Rattle.table.specs.Rows.{find, size}

-- the place of the name; none where no row but the genesis has it
unfoldable pub block_named : List Block → List ℕ → Option Place
unfolding pick find
block_named t name = pick (ltb 0 (find t name) && ltb (find t name) (size t)) (Some (record { 0 = find t name })) None
