-- The block at a place: past the last row, and past the capacity, the root. Assumes nothing.
use Rattle.std.proofs.Common.{rules, arith, ◌≡◌, suc, length, sym}
use Rattle.table.proofs.Laws.{at-past, at_rows, size-rows}
use Rattle.table.specs.Rows.{capacity}
use Rattle.table.proofs.rows.at.Goals as goal
use Rattle.table.proofs.rows.at.Goals.{Start}

held : (c : Start) → length c.args.s.now.blocks ≡ suc capacity
held c = search rules

pub returns-then-p-size_of : goal.returns-then-p-size_of
returns-then-p-size_of c =
    let l = held (goal.at.returns-then-p-size_of c).Start in
    sym (at_rows _ _ _ (omega arith) (omega arith))

pub returns : goal.returns
returns c =
    let l = held (goal.at.returns c).Start in
    sym (at-past _ _ _ (omega arith) (omega (arith, size-rows c.args.s.now)))
