-- Two names are the same: std's `==` on arrays compares element by element. Assumes nothing.
use Rattle.std.proofs.Common.{◌∙◌}
use Rattle.table.proofs.Laws.{pointwise-same}
use Rattle.table.proofs.names.same_name.Goals as goal

pub returns : goal.returns
returns c = c.eq.ensures ∙ pointwise-same _ _
