-- The final list of a well-shaped state: too little room, or every name written. Assumes nothing.
use Rattle.std.proofs.Common.{Ok, Err}
use Rattle.lists.proofs.Readings.{Told, list_read, list_too_short}
use Rattle.table.specs.declared.Answer.{Answer}
use Rattle.table.specs.declared.State.{State}
use mathlib.Core.Path.{subst}
use native.Mathlib.Omega.{arith}
use Rattle.lists.proofs.finals.final_list_shaped.Goals as goal

pub returns-then-list-count : goal.returns-then-list-count
returns-then-list-count c =
    let list = c.args.list.now in
    let told = subst (λ (s : State). Told s list (Err Answer.Length) list) c.s.view_is (list_too_short _ list c.s.invariant (omega arith)) in
    record { answer = told.0; list = told.1 }

pub returns : goal.returns
returns c =
    let list = c.args.list.now in
    let told = subst (λ (s : State). Told s list (Ok c.final_count-count.result) c.write_names.new.list) c.s.view_is
    (list_read _ list c.s.invariant _ _ (omega arith) c.final_count-count.ensures c.write_names.ensures) in
    record { answer = told.0; list = told.1 }
