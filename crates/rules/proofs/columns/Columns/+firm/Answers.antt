-- Firm by its own votes and its parent; the place is the measure. Assumes nothing.
use Rattle.rules.proofs.Downward.{firm_step, next_below}
use Rattle.std.proofs.Common.{arith}
use Rattle.std.proofs.lemmas.Bool.Decides.{nat_tests}
use Rattle.rules.proofs.columns.Columns.+firm.Goals as goal

pub returns-then-p-eq0 : goal.returns-then-p-eq0
returns-then-p-eq0 t c = rw firm_step (grind (arith, nat_tests))

pub firm-requires : goal.firm-requires
firm-requires t c = (next_below _ _ t _ c.decreases c.if-p-eq0.false c.parent.ensures, tt)

pub returns-then-not-row : goal.returns-then-not-row
returns-then-not-row t c = rw firm_step (grind (arith, nat_tests))

pub returns : goal.returns
returns t c = rw firm_step (grind (arith, nat_tests))
