-- Rows 7 to 14 of a proposal: each test is a row, passed or refused by. Assumes nothing.
use Rattle.std.proofs.lemmas.Bool.{or_from, not_from_false, not_from_true}
use Rattle.node.proofs.ByKind.{proposal_judged}
use Rattle.node.proofs.Facts.{le_test, ne_test, misses, hits, epoch_there, lost}
use Rattle.node.proofs.Ways.Through.{refuses, passes, takes}
use Rattle.pala.proofs.Tests.{or_l, or_r}
use Rattle.pala.specs.Answers.{taken}
use Rattle.pala.specs.Step.{room}
use Rattle.std.proofs.lemmas.Result.{err_from_is_err_and}
use Rattle.std.specs.Prelude.{Ok}
use borrow.Author.Tests.{lt-ltb, le-ltb}
use Rattle.pala.specs.Counts.{top_epoch}
use lib.Dec.{eqb, leb}
use mathlib.Core.Bool.{true, ◌||◌}
use mathlib.Core.Path.{◌≡◌, refl, sym, ap, ◌∙◌}
use Rattle.node.proofs.judges.judge_proposal.Goals as goal
use Rattle.node.proofs.judges.judge_proposal.Goals.{then-eq-via-then-eq, then-eq-via-else-eq+then-le}

pub returns-then-eq : goal.returns-then-eq
unfolding taken
returns-then-eq c =
    let e = c.args.f.now.epoch.0 in
    let bad : (eqb e 0 || leb top_epoch e) ≡ true =
    elim c.then-eq.branch
    [ then-eq-via-then-eq w ↦ or_l (eqb e 0) (leb top_epoch e) (sym w.if-eq.ensures) | then-eq-via-else-eq+then-le w ↦ or_r (eqb e 0) (leb top_epoch e) (le_test top_epoch {k = e} refl w.if-le.ensures) ] in
    proposal_judged _ _ _ c.requires.kind (refuses bad refl)

pub returns-then-bad_name : goal.returns-then-bad_name
unfolding taken
returns-then-bad_name c =
    proposal_judged _ _ _ c.requires.kind
    (passes (or_from _ _ (sym c.if-eq.ensures) (le_test _ refl c.if-le.ensures))
    (refuses (sym c.if-bad_name.ensures) refl))

pub returns-in_err-parent : goal.returns-in_err-parent
unfolding taken
returns-in_err-parent c r e =
    let p = err_from_is_err_and c.from_residual.result c.from_residual.ensures.1 in
    rw (p.1, p.2)
    (lost c.in_err-parent.ensures.value c.in_err-parent.ensures.ok_part
    ∙ proposal_judged _ _ _ c.requires.kind
    (passes (or_from _ _ (sym c.if-eq.ensures) (le_test _ refl c.if-le.ensures))
    (passes (sym c.if-bad_name.ensures)
    (refuses (misses _ _ (sym c.find.ensures ∙ c.in_err-parent.ensures.ok_part)) refl))) r e)

pub returns-then-le-2 : goal.returns-then-le-2
unfolding taken
returns-then-le-2 c =
    let there = hits _ _ _ (sym c.find.ensures ∙ c.in_ok-parent.ensures.ok_part) in
    proposal_judged _ _ _ c.requires.kind
    (passes (or_from _ _ (sym c.if-eq.ensures) (le_test _ refl c.if-le.ensures))
    (passes (sym c.if-bad_name.ensures)
    (passes there.1
    (refuses (le_test _ (epoch_there _ there.0 c.at.ensures) c.if-le-2.ensures) refl))))

pub returns-then-ne : goal.returns-then-ne
unfolding taken
returns-then-ne c =
    let there = hits _ _ _ (sym c.find.ensures ∙ c.in_ok-parent.ensures.ok_part) in
    proposal_judged _ _ _ c.requires.kind
    (passes (or_from _ _ (sym c.if-eq.ensures) (le_test _ refl c.if-le.ensures))
    (passes (sym c.if-bad_name.ensures)
    (passes there.1
    (passes (le_test _ (epoch_there _ there.0 c.at.ensures) c.if-le-2.ensures)
    (refuses (ne_test _ c.proposer.ensures c.if-ne.ensures) refl)))))

pub returns-then-s-ge-CAPACITY : goal.returns-then-s-ge-CAPACITY
unfolding taken room
returns-then-s-ge-CAPACITY c =
    let there = hits _ _ _ (sym c.find.ensures ∙ c.in_ok-parent.ensures.ok_part) in
    proposal_judged _ _ _ c.requires.kind
    (passes (or_from _ _ (sym c.if-eq.ensures) (le_test _ refl c.if-le.ensures))
    (passes (sym c.if-bad_name.ensures)
    (passes there.1
    (passes (le_test _ (epoch_there _ there.0 c.at.ensures) c.if-le-2.ensures)
    (passes (ne_test _ c.proposer.ensures c.if-ne.ensures)
    (refuses (not_from_false _ (le-ltb _ _ c.if-s-ge-CAPACITY.true)) refl))))))

pub returns : goal.returns
unfolding room
returns c r e =
    let there = hits _ _ _ (sym c.find.ensures ∙ c.in_ok-parent.ensures.ok_part) in
    ap (λ k. Ok (record { 0 = k })) there.0
    ∙ proposal_judged _ _ _ c.requires.kind
    (passes (or_from _ _ (sym c.if-eq.ensures) (le_test _ refl c.if-le.ensures))
    (passes (sym c.if-bad_name.ensures)
    (passes there.1
    (passes (le_test _ (epoch_there _ there.0 c.at.ensures) c.if-le-2.ensures)
    (passes (ne_test _ c.proposer.ensures c.if-ne.ensures)
    (passes (not_from_true _ (lt-ltb _ _ c.if-s-ge-CAPACITY.false))
    takes)))))) r e
