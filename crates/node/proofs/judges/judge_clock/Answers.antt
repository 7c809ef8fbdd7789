-- Rows 7 to 14 of a clock: each test is a row, passed or refused by. Assumes nothing.
use Rattle.node.proofs.ByKind.{clock_judged}
use Rattle.node.proofs.Facts.{le_test}
use Rattle.node.proofs.Ways.Through.{refuses, passes, takes}
use Rattle.pala.specs.Answers.{taken}
use mathlib.Core.Path.{refl, sym}
use Rattle.node.proofs.judges.judge_clock.Goals as goal

pub returns-then-eq : goal.returns-then-eq
unfolding taken
returns-then-eq c = clock_judged _ _ _ c.requires (refuses (sym c.if-eq.ensures) refl)

pub returns-then-le : goal.returns-then-le
unfolding taken
returns-then-le c =
    clock_judged _ _ _ c.requires
    (passes (sym c.if-eq.ensures)
    (refuses (le_test _ c.clock_from.ensures c.if-le.ensures) refl))

pub returns : goal.returns
returns c =
    clock_judged _ _ _ c.requires
    (passes (sym c.if-eq.ensures)
    (passes (le_test _ c.clock_from.ensures c.if-le.ensures)
    takes))
