-- The parent where it is lower, else the genesis. Assumes nothing.
use Rattle.pala.specs.Rules.{lower}
use Rattle.rules.specs.declared.columns.Row.{Row}
use Rattle.table.specs.Scan.{pick}
use lib.Dec.{ltb}
use mathlib.Core.Path.{ap, ◌∙◌}
use Rattle.rules.proofs.columns.Columns.parent.Goals as goal

pub returns : goal.returns
unfolding lower
returns c =
    c.lower.ensures ∙ ap (λ (r : Row). record { 0 = pick (ltb r.parent.0 c.args.p.0) r.parent.0 0 }) c.row.ensures
