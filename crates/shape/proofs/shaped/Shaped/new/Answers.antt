-- The test's answer: the state, or none. Assumes nothing.
use Rattle.table.proofs.Laws.{pick_yes, pick_no}
use mathlib.Core.Path.{sym, ◌∙◌}
use Rattle.shape.proofs.shaped.Shaped.new.Goals as goal

pub returns-then-well_shaped : goal.returns-then-well_shaped
returns-then-well_shaped c = sym (pick_yes _ _ _ (sym c.well_shaped.ensures ∙ c.if-well_shaped.true))

pub returns-else-well_shaped : goal.returns-else-well_shaped
returns-else-well_shaped c = sym (pick_no _ _ _ (sym c.well_shaped.ensures ∙ c.if-well_shaped.false))
