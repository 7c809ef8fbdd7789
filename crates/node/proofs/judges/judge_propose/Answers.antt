-- Rows 7 to 14 of a proposal of its own: each test is a row, passed or refused by. Assumes nothing.
use Rattle.std.proofs.lemmas.Bool.{not_from_false, not_from_true}
use Rattle.node.proofs.ByKind.{propose_judged}
use Rattle.node.proofs.Facts.{le_test, ne_test, top_there}
use Rattle.node.proofs.Ways.Through.{refuses, passes, takes}
use Rattle.pala.specs.Answers.{taken}
use Rattle.pala.specs.Step.{room}
use Rattle.rules.specs.declared.Top.{Top}
use Rattle.std.specs.Prelude.{Ok}
use borrow.Author.Tests.{lt-ltb, le-ltb}
use mathlib.Core.Path.{refl, sym, ap, ◌∙◌}
use Rattle.node.proofs.judges.judge_propose.Goals as goal

pub returns-then-le : goal.returns-then-le
unfolding taken
returns-then-le c =
    propose_judged _ _ _ c.requires.kind
    (refuses (le_test _ refl c.if-le.ensures) refl)

pub returns-then-bad_name : goal.returns-then-bad_name
unfolding taken
returns-then-bad_name c =
    propose_judged _ _ _ c.requires.kind
    (passes (le_test _ refl c.if-le.ensures)
    (refuses (sym c.if-bad_name.ensures) refl))

pub returns-then-le-2 : goal.returns-then-le-2
unfolding taken
returns-then-le-2 c =
    propose_judged _ _ _ c.requires.kind
    (passes (le_test _ refl c.if-le.ensures)
    (passes (sym c.if-bad_name.ensures)
    (refuses (le_test _ (top_there _ c.freshest-parent.ensures) c.if-le-2.ensures) refl)))

pub returns-then-ne : goal.returns-then-ne
unfolding taken
returns-then-ne c =
    propose_judged _ _ _ c.requires.kind
    (passes (le_test _ refl c.if-le.ensures)
    (passes (sym c.if-bad_name.ensures)
    (passes (le_test _ (top_there _ c.freshest-parent.ensures) c.if-le-2.ensures)
    (refuses (ne_test _ c.proposer.ensures c.if-ne.ensures) refl))))

pub returns-then-eq : goal.returns-then-eq
unfolding taken
returns-then-eq c =
    propose_judged _ _ _ c.requires.kind
    (passes (le_test _ refl c.if-le.ensures)
    (passes (sym c.if-bad_name.ensures)
    (passes (le_test _ (top_there _ c.freshest-parent.ensures) c.if-le-2.ensures)
    (passes (ne_test _ c.proposer.ensures c.if-ne.ensures)
    (refuses (sym c.if-eq.ensures) refl)))))

pub returns-then-s-ge-CAPACITY : goal.returns-then-s-ge-CAPACITY
unfolding taken room
returns-then-s-ge-CAPACITY c =
    propose_judged _ _ _ c.requires.kind
    (passes (le_test _ refl c.if-le.ensures)
    (passes (sym c.if-bad_name.ensures)
    (passes (le_test _ (top_there _ c.freshest-parent.ensures) c.if-le-2.ensures)
    (passes (ne_test _ c.proposer.ensures c.if-ne.ensures)
    (passes (sym c.if-eq.ensures)
    (refuses (not_from_false _ (le-ltb _ _ c.if-s-ge-CAPACITY.true)) refl))))))

pub returns : goal.returns
unfolding room
returns c r e =
    ap (λ (x : Top). Ok x.place) c.freshest-parent.ensures
    ∙ propose_judged _ _ _ c.requires.kind
    (passes (le_test _ refl c.if-le.ensures)
    (passes (sym c.if-bad_name.ensures)
    (passes (le_test _ (top_there _ c.freshest-parent.ensures) c.if-le-2.ensures)
    (passes (ne_test _ c.proposer.ensures c.if-ne.ensures)
    (passes (sym c.if-eq.ensures)
    (passes (not_from_true _ (lt-ltb _ _ c.if-s-ge-CAPACITY.false))
    takes)))))) r e
