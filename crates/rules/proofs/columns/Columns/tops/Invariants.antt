-- What has won among the places passed. Assumes nothing.
use Rattle.std.proofs.Common.{min}
use Rattle.rules.proofs.Tops.{Scanned}
use Rattle.rules.specs.Columns.{epoch_in, mark_in, places, up_in}
use Rattle.rules.proofs.columns.Columns.tops.Given as goal

abbrev pub invariant-loop-k : goal.invariant-loop-k
invariant-loop-k l =
    Scanned (up_in l.fn.self) (epoch_in l.fn.self) (mark_in l.fn.self) (min l.fn.self.size places) l.k l.fresh l.normal
