-- The freshest of the columns, and its epoch there. Assumes nothing.
use Rattle.rules.proofs.Shown.{top_shown}
use Rattle.rules.proofs.steps.freshest.Goals as goal

pub returns : goal.returns
returns c = top_shown _ _ c.columns_of.ensures.shown c.columns_of.ensures.fits _ c.tops.ensures
