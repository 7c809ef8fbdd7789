-- 21, 22, and then the receiver's own answer. Assumes nothing.
use Rattle.accord.specs.Rulings.{verdict}
use Rattle.accord.specs.declared.Verdict.{Verdict}
use Rattle.hall.proofs.Judged.{part_answers, told_clash, told_forged, told_refused, told_taken, whole_answers}
use Rattle.pala.specs.Run.{lent}
use Rattle.pala.specs.Step.{step}
use Rattle.std.proofs.Common.{◌≡◌, ◌∙◌, sym}
use Rattle.hall.proofs.judging.judge.Goals as goal
use Rattle.hall.proofs.judging.judge.Goals.{in-Some+else-forged+else-clash, in_default}

pub returns-then-forged : goal.returns-then-forged
returns-then-forged c to r w = told_forged _ _ _ _ _ w c.in-Some.is (λ e. sym c.if-forged.true ∙ c.forged.ensures r e)

pub returns-then-clash : goal.returns-then-clash
returns-then-clash c to r w =
    told_clash _ _ _ _ _ w c.in-Some.is (λ e. sym c.if-forged.false ∙ c.forged.ensures r e) (λ e. sym c.if-clash.true ∙ c.clash.ensures r e)

pub returns-in-Ok : goal.returns-in-Ok
returns-in-Ok c to r w =
    let answers : Verdict.Answered (step c.args.s.now r lent).answer ≡ verdict c.args.h.now to r =
    elim c.match-d.branch [
      | in-Some+else-forged+else-clash v ↦
          whole_answers _ _ _ _ _ w v.in-Some.is (λ e. sym v.if-forged.false ∙ v.forged.ensures r e) (λ e. sym v.if-clash.false ∙ v.clash.ensures r e)
      | in_default v ↦ part_answers _ _ _ _ _ w v.in_default.is
    ] in
    told_taken _ _ _ _ _ w answers c.in-Ok.is

pub returns-in-Err : goal.returns-in-Err
returns-in-Err c to r w =
    let answers : Verdict.Answered (step c.args.s.now r lent).answer ≡ verdict c.args.h.now to r =
    elim c.match-d.branch [
      | in-Some+else-forged+else-clash v ↦
          whole_answers _ _ _ _ _ w v.in-Some.is (λ e. sym v.if-forged.false ∙ v.forged.ensures r e) (λ e. sym v.if-clash.false ∙ v.clash.ensures r e)
      | in_default v ↦ part_answers _ _ _ _ _ w v.in_default.is
    ] in
    told_refused _ _ _ _ _ w answers c.in-Err.is
