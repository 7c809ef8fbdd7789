-- All that the steps need, of the columns. Assumes nothing.
use Rattle.rules.specs.Standing.{standing_by}
use Rattle.rules.proofs.steps.standing.Goals as goal

pub returns : goal.returns
unfolding standing_by
returns c = rw (c.descends.ensures, c.descends-2.ensures, c.clock_of.ensures, c.parent-candidate.ensures, c.tops-tops.ensures)
