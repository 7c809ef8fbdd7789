-- A call on any state: the rows, and then what a taken record does. Assumes nothing.
use Rattle.shape.proofs.Laws.{shaped_some}
use Rattle.node.proofs.Calls.{call_unshaped, call_short, call_torn, call_err, call_ok, not_torn}
use Rattle.node.specs.Moves.{decision}
use Rattle.table.proofs.Laws.{not_both}
use Rattle.table.specs.declared.State.{State}
use mathlib.Core.Path.{◌≡◌, ap, ◌∙◌}
use Rattle.node.proofs.step.Goals as goal
use Rattle.node.proofs.step.Goals.{After-decide_shaped-d, else-out-ne-RECORD_BYTES-via-then-out-ne-RECORD_BYTES+else-not-s, else-out-ne-RECORD_BYTES-via-else-out-ne-RECORD_BYTES}

decides : (c : After-decide_shaped-d) → c.decide_shaped-d.result ≡ decision c.args.s.now c.args.rec.now
decides c = c.decide_shaped-d.ensures ∙ ap (λ (x : State). decision x c.args.rec.now) (shaped_some _ _ c.in-Some.ensures).1

pub returns-in-None : goal.returns-in-None
returns-in-None c = call_unshaped _ _ _ c.in-None.ensures

pub returns-then-not-s : goal.returns-then-not-s
returns-then-not-s c = call_short _ _ _ (shaped_some _ _ c.in-Some.ensures).0 c.if-out-ne-RECORD_BYTES.true c.if-not-s.true

pub returns-in-Err : goal.returns-in-Err
returns-in-Err c =
    let shaped = (shaped_some _ _ c.in-Some.ensures).0 in
    let d = decides (goal.at.returns-in-Err c).After-decide_shaped-d in
    elim c.else-out-ne-RECORD_BYTES.branch [
      | else-out-ne-RECORD_BYTES-via-then-out-ne-RECORD_BYTES+else-not-s w ↦ call_torn _ _ _ shaped d c.in-Err.is w.if-not-s.false
      | else-out-ne-RECORD_BYTES-via-else-out-ne-RECORD_BYTES w ↦ call_err _ _ _ shaped d w.if-out-ne-RECORD_BYTES.false c.in-Err.is
    ]

pub send-requires : goal.send-requires
send-requires c = record { shaped = (shaped_some _ _ c.in-Some.ensures).0; decided = (_, decides (goal.at.send-requires c).After-decide_shaped-d) }

pub take_shaped-requires : goal.take_shaped-requires
take_shaped-requires c = ((shaped_some _ _ c.in-Some.ensures).0, (_, decides (goal.at.take_shaped-requires c).After-decide_shaped-d))

pub returns : goal.returns
returns c =
    let shaped = (shaped_some _ _ c.in-Some.ensures).0 in
    let d = decides (goal.at.returns c).After-decide_shaped-d in
    elim c.else-out-ne-RECORD_BYTES.branch [
      | else-out-ne-RECORD_BYTES-via-then-out-ne-RECORD_BYTES+else-not-s w ↦ absurd (not_both w.if-not-s.false (not_torn _ _ d c.in_default.is))
      | else-out-ne-RECORD_BYTES-via-else-out-ne-RECORD_BYTES w ↦ call_ok _ _ _ shaped d w.if-out-ne-RECORD_BYTES.false c.in_default.is (c.take_shaped.ensures.step _ d) (c.send.ensures _ d w.if-out-ne-RECORD_BYTES.false)
    ]
