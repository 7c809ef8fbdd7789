-- The names of a final list, the last first: those after the place that is left are written. Assumes nothing.
use Prim.Native.Nat.{◌*◌, ◌-◌}
use Rattle.lists.proofs.Readings.{next_place, written_none, written_step}
use Rattle.table.specs.Rows.{name_bytes, rows}
use Rattle.table.specs.declared.Block.{Block}
use mathlib.Core.Path.{◌∙◌, ap}
use native.Mathlib.Omega.{arith}
use Rattle.lists.proofs.finals.write_names.Goals as goal

pub loop-k-init : goal.loop-k-init
loop-k-init c = written_none _ _ _ c.requires.0

pub loop-k-preserved : goal.loop-k-preserved
loop-k-preserved c =
    let t = rows c.args.s.now in
    let p = c.loop-k.p.0 in
    written_step t _ _ p _ _ c.loop-k.invariant _ (name_bytes * (c.loop-k.k - 1)) _ _ (omega arith) (omega arith) (omega arith)
    (next_place t p _ c.at-b.ensures _ c.lower-p.ensures)
    (c.copy_from_slice.ensures.after ∙ ap (λ (b : Block). b.name) c.at-b.ensures)
