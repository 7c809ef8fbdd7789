-- The final list: a badly shaped state is refused, any other read. Assumes nothing.
use Rattle.lists.proofs.Readings.{Told, list_badly_shaped}
use Rattle.shape.proofs.Laws.{shaped_none, shaped_some}
use Rattle.table.specs.declared.State.{State}
use mathlib.Core.Path.{◌∙◌, subst, sym}
use Rattle.lists.proofs.finals.final_list.Goals as goal

pub returns-in_default : goal.returns-in_default
returns-in_default c =
    let told = list_badly_shaped _ c.args.list.now (shaped_none _ (sym c.in_default.is ∙ c.new.ensures)) in
    record { answer = told.0; list = told.1 }

pub returns : goal.returns
returns c =
    let read = c.final_list_shaped in
    let told = subst (λ (s : State). Told s c.args.list.now read.result read.new.list) (shaped_some _ _ (sym c.in-Some.is ∙ c.new.ensures)).1
    (read.ensures.answer, read.ensures.list) in
    record { answer = told.0; list = told.1 }
