-- The place is the measure. Assumes nothing.
use Rattle.rules.proofs.columns.Columns.+descends.Given as goal

abbrev pub decreases-descends : goal.decreases-descends
decreases-descends l = l.p.0
