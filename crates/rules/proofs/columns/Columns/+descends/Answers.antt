-- The place itself, or the parent's way down; the place is the measure. Assumes nothing.
use Rattle.rules.proofs.Downward.{among_step, next_below}
use Rattle.std.proofs.Common.{◌<◌, arith}
use Rattle.std.proofs.lemmas.Bool.Decides.{nat_tests}
use Rattle.rules.proofs.columns.Columns.+descends.Goals as goal

pub descends-requires : goal.descends-requires
descends-requires t c =
    let l : c.args.a.0 < c.args.p.0 = grind (arith, nat_tests) in
    (next_below _ c.args.p.0 t _ c.decreases (λ e. omega arith) c.parent.ensures, tt)

pub returns-then-eq : goal.returns-then-eq
returns-then-eq t c = rw among_step (grind (arith, nat_tests))

pub returns-then-lt : goal.returns-then-lt
returns-then-lt t c = rw among_step (grind (arith, nat_tests))

pub returns : goal.returns
returns t c = rw among_step (grind (arith, nat_tests))
