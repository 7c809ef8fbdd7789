-- By its kind, a record's own content or the block that its receiver would add. Assumes nothing.
use Rattle.accord.specs.Rulings.{Content, content_of}
use Rattle.hall.proofs.Judged.{adds_heard, adds_none, adds_own}
use Rattle.pala.specs.Record.{epoch_of, parent_name_of, payload_of}
use Rattle.pala.specs.Rules.{freshest}
use Rattle.record.specs.Fields.{fields_of}
use Rattle.record.specs.declared.kinds.Kind.{Kind}
use Rattle.rules.specs.declared.Top.{Top}
use Rattle.std.proofs.Common.{◌≡◌, ◌∙◌, sym, ap, Ok}
use Rattle.table.proofs.Laws.{pick_no, pick_yes}
use Rattle.table.specs.Rows.{at, rows}
use Rattle.table.specs.declared.State.{State}
use Rattle.hall.proofs.judging.content_of.Goals as goal

pub returns-in_default : goal.returns-in_default
returns-in_default c r e =
    adds_none c.args.f.now r e (λ k. c.in_default.not-Ok Kind.ProposalHeard (c.try_from.ensures ∙ k)) (λ k. c.in_default.not-Ok Kind.ProposeNow (c.try_from.ensures ∙ k))

pub returns-in-ProposalHeard : goal.returns-in-ProposalHeard
unfolding content_of fields_of
returns-in-ProposalHeard c r e =
    let k : Ok Kind.ProposalHeard ≡ c.try_from.result = cc in
    let heard = adds_heard c.args.f.now r e (k ∙ c.try_from.ensures) in
    let own : ◌≡◌ {A = Content} (record { epoch = c.args.f.now.epoch.0; parent = c.args.f.now.parent; payload = c.args.f.now.payload }) (record { epoch = epoch_of r; parent = parent_name_of r; payload = payload_of r }) =
    λ i. record { epoch = (e i).epoch.0; parent = (e i).parent; payload = (e i).payload } in
    (heard.0, own ∙ sym (pick_yes _ (record { epoch = epoch_of r; parent = parent_name_of r; payload = payload_of r }) _ heard.1))

pub returns-in-ProposeNow : goal.returns-in-ProposeNow
unfolding content_of fields_of
returns-in-ProposeNow c r e =
    let k : Ok Kind.ProposeNow ≡ c.try_from.result = cc in
    let own = adds_own c.args.f.now r e (k ∙ c.try_from.ensures) in
    let s = c.s.inside.state.now in
    let up = c.at.ensures ∙ ap (λ (x : Top). at (rows s) x.place.0) c.freshest.ensures in
    let new : ◌≡◌ {A = Content} (record { epoch = s.local.0; parent = c.at.result.now.name; payload = c.args.f.now.payload }) (record { epoch = s.local.0; parent = (at (rows s) (freshest s.n (rows s))).name; payload = payload_of r }) =
    λ i. record { epoch = s.local.0; parent = (up i).name; payload = (e i).payload } in
    (own.0, new ∙ ap (λ (t : State). record { epoch = t.local.0; parent = (at (rows t) (freshest t.n (rows t))).name; payload = payload_of r }) c.s.view_is ∙ sym (pick_no _ (record { epoch = epoch_of r; parent = parent_name_of r; payload = payload_of r }) _ own.1))

pub returns-in_default-kind : goal.returns-in_default-kind
returns-in_default-kind c r e =
    adds_none c.args.f.now r e (λ k. c.in_default-kind.not-ProposalHeard (let m = c.try_from.ensures ∙ k in cc)) (λ k. c.in_default-kind.not-ProposeNow (let m = c.try_from.ensures ∙ k in cc))
