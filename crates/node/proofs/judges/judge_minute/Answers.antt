-- Rows 7 to 14 of the minute: each test is a row, passed or refused by. Assumes nothing.
use Rattle.node.proofs.ByKind.{minute_judged}
use Rattle.node.proofs.Facts.{lt_test, le_test}
use Rattle.node.proofs.Ways.Through.{refuses, passes, takes}
use Rattle.pala.specs.Answers.{taken}
use mathlib.Core.Path.{refl}
use Rattle.node.proofs.judges.judge_minute.Goals as goal

pub returns-then-le : goal.returns-then-le
unfolding taken
returns-then-le c = minute_judged _ _ (refuses (le_test _ refl c.if-le.ensures) refl)

pub returns-then-lt : goal.returns-then-lt
unfolding taken
returns-then-lt c =
    minute_judged _ _
    (passes (le_test _ refl c.if-le.ensures)
    (refuses (lt_test _ c.clock_from.ensures c.if-lt.ensures) refl))

pub returns : goal.returns
returns c =
    minute_judged _ _
    (passes (le_test _ refl c.if-le.ensures)
    (passes (lt_test _ c.clock_from.ensures c.if-lt.ensures)
    takes))
