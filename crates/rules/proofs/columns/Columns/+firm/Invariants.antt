-- The place is the measure. Assumes nothing.
use Rattle.rules.proofs.columns.Columns.+firm.Given as goal

abbrev pub decreases-firm : goal.decreases-firm
decreases-firm l = l.p.0
