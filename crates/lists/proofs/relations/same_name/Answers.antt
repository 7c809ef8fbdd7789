-- Two names are the same: those bytes passed are, where the flag still stands, and those left are. Assumes nothing.
use Rattle.std.proofs.Common.{arith, ap, length, sym, true, ◌∙◌}
use Rattle.std.proofs.Math.Bool.{and_assoc, and_comm}
use Rattle.std.proofs.lemmas.Iterator.{empty_from_Zip}
use Rattle.table.specs.Bytes.{same}
use Rattle.lists.proofs.relations.same_name.Goals as goal

pub loop-x-preserved : goal.loop-x-preserved
unfolding same
loop-x-preserved c =
    let (first, second) = c.in-Some.ensures.steps in
    let (long, left) = c.loop-x.invariant in
    (omega (arith, ap length first, ap length second), (rw (first, second) at left) ∙ sym (and_assoc c.loop-x.alike _ _))

pub returns : goal.returns
unfolding same
returns c =
    let (first, second) = empty_from_Zip c.loop-x.x-iterator c.next.new.self _ c.in-None.is c.next.ensures.steps c.loop-x.invariant.0 in
    sym ((rw (first, second) at c.loop-x.invariant.1) ∙ and_comm c.loop-x.alike true)
