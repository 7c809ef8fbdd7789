-- The five steps, from where the state stands. Assumes nothing.
use Rattle.node.proofs.Facts.{lt_test}
use Rattle.node.proofs.Settles.{settles}
use Rattle.pala.specs.Steps.{fresh_epoch}
use Rattle.rules.proofs.Shown.{standing, standing_shown}
use Rattle.rules.specs.declared.Standing.{Standing}
use Rattle.table.proofs.Laws.{pick_yes, pick_no}
use Rattle.table.specs.Scan.{pick}
use lib.Dec.{ltb}
use mathlib.Core.Path.{◌≡◌, refl, sym, ap, ◌∙◌}
use native.Mathlib.Omega.{arith}
use Rattle.node.proofs.settling.settle.Goals as goal
use Rattle.node.proofs.settling.settle.Goals.{After-standing-stand, then-lt, else-lt, then-stand, else-stand}

stood : (c : After-standing-stand) → c.standing-stand.result ≡ standing c.args.s.now
stood c = c.standing-stand.ensures ∙ standing_shown _ _ c.columns_of.ensures.shown c.columns_of.ensures.fits

pub overflow_add-stand : goal.overflow_add-stand
unfolding standing
overflow_add-stand c =
    let fresh : c.standing-stand.result.fresh.0 ≡ fresh_epoch c.args.s.now = ap (λ (x : Standing). x.fresh.0) (stood (goal.at.overflow_add-stand c).After-standing-stand) in
    omega arith

pub returns : goal.returns
returns c =
    let s = c.args.s.now in
    let stand = c.standing-stand.result in
    let bar : c.if-lt.bar ≡ pick (ltb s.local.0 c.max.result) stand.fresh s.bar =
    elim c.if-lt.branch [
      | then-lt w ↦ w.bar-is ∙ sym (pick_yes _ _ _ (lt_test _ refl w.if-lt.ensures))
      | else-lt w ↦ w.bar-is ∙ sym (pick_no _ _ _ (lt_test _ refl w.if-lt.ensures))
    ] in
    let kept : c.if-stand.kept ≡ pick stand.forward stand.candidate s.kept =
    elim c.if-stand.branch [
      | then-stand w ↦ w.kept-is ∙ sym (pick_yes _ _ _ w.if-stand.true)
      | else-stand w ↦ w.kept-is ∙ sym (pick_no _ _ _ w.if-stand.false)
    ] in
    settles s _ _ (stood (goal.at.returns c).After-standing-stand) c.max.ensures bar kept
