-- Its table is asked where the number is honest. Assumes nothing.
use Rattle.std.proofs.Common.{◌∙◌, ◌&&◌, Bool, sym, ap}
use Rattle.accord.specs.Head.{gateway, honest_in}
use Rattle.accord.specs.Rulings.{Content, otherwise, table_of}
use Rattle.table.specs.Rows.{rows}
use Rattle.table.specs.declared.State.{State}
use Rattle.hall.proofs.Named.{pick_none, pick_some}
use Rattle.hall.proofs.judging.honest_otherwise.Goals as goal

pub returns-in_default : goal.returns-in_default
returns-in_default c =
    let a = c.args in
    let it : Content = record { epoch = a.c.now.epoch.0; parent = a.c.now.parent.now; payload = a.c.now.payload.now } in
    let off = pick_none (honest_in a.h.now a.who) (gateway a.h.now a.who) (sym c.in_default.is ∙ c.honest.ensures.told) in
    sym (ap (λ (b : Bool). b && otherwise (table_of a.h.now a.who) a.name.now it) off)

pub returns : goal.returns
unfolding table_of
returns c =
    let a = c.args in
    let it : Content = record { epoch = a.c.now.epoch.0; parent = a.c.now.parent.now; payload = a.c.now.payload.now } in
    let own = pick_some (honest_in a.h.now a.who) (gateway a.h.now a.who) c.in-Some.ensures.told in
    c.otherwise.ensures
    ∙ ap (λ (s : State). otherwise (rows s) a.name.now it) own.1
    ∙ sym (ap (λ (b : Bool). b && otherwise (table_of a.h.now a.who) a.name.now it) own.0)
