-- A vote whose honest sender's table doesn't show it. Assumes nothing.
use Rattle.accord.specs.Head.{gateway, honest_in}
use Rattle.accord.specs.Rulings.{shows, table_of}
use Rattle.hall.proofs.Judged.{forged_other, forged_vote}
use Rattle.hall.proofs.Named.{some_and}
use Rattle.std.proofs.Common.{rules, tests, ◌∙◌, not}
use Rattle.table.specs.Rows.{rows}
use Rattle.table.specs.declared.State.{State}
use borrow.Author.Tests.{ne_eqb}
use Rattle.hall.proofs.judging.forged.Goals as goal

pub returns-then-f : goal.returns-then-f
unfolding table_of
returns-then-f c r e =
    let h = c.args.h.now in
    let f = c.args.f.now in
    some_and (honest_in h f.sender.0) (gateway h f.sender.0) (λ (s : State). not (shows (rows s) f.sender.0 f.name)) _ c.honest.ensures.told c.is_some_and.ensures (λ s q. search (rules, tests))
    ∙ forged_vote c.args.f.now r e h c.if-f.true

pub returns-else-f : goal.returns-else-f
returns-else-f c r e = ne_eqb _ _ c.if-f.false ∙ forged_other c.args.f.now r e c.args.h.now c.if-f.false
