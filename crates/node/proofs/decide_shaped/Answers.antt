-- Rows 2 and 3, and then what is decided of the fields. Assumes nothing.
use Rattle.node.proofs.Calls.{decided_torn, decided_short, decided_whole}
use Rattle.table.specs.declared.State.{State}
use mathlib.Core.Path.{sym, ap, ◌∙◌}
use Rattle.node.proofs.decide_shaped.Goals as goal

pub returns-then-s : goal.returns-then-s
returns-then-s c = rw (← c.s.view_is) (decided_torn _ _ c.fields_at-fields.ensures c.if-s.true)

pub returns-in-Some : goal.returns-in-Some
returns-in-Some c =
    decided_whole _ _ c.fields_at-fields.ensures (ap (λ (s : State). s.torn) (sym c.s.view_is) ∙ c.if-s.false) c.in-Some.is (c.decide.ensures _)

pub returns-in_default : goal.returns-in_default
returns-in_default c = rw (← c.s.view_is) (decided_short _ _ c.fields_at-fields.ensures c.if-s.false c.in_default.is)
