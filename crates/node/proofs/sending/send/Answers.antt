-- The record to send, by kind; the other kinds leave the buffer. Assumes nothing.
use Rattle.node.proofs.ByKind.{kind_was}
use Rattle.node.proofs.Calls.{granted, same_out, bare_out, next_out}
use Rattle.node.proofs.Grants.{kind_there, minute_left}
use Rattle.node.proofs.Sends.{unsent, proposal_sent, vote-sent, clock-sent}
use Rattle.record.proofs.Numbers.{kind_ok}
use Rattle.record.specs.declared.kinds.Kind.{Kind}
use Rattle.record.specs.Numbers.{kind_number}
use Rattle.record.specs.declared.Fields.{Fields}
use Rattle.pala.specs.Record.{clock_heard}
use Prim.Native.Nat.{◌+◌, ◌≤◌}
use mathlib.Core.Logic.{◌⊎◌, ⊎_elim}
use mathlib.Core.Path.{◌≡◌, sym, ap, ◌∙◌}
use native.Mathlib.Omega.{arith}
use Rattle.node.proofs.sending.send.Goals as goal

pub returns-in_default : goal.returns-in_default
returns-in_default c r e l = same_out _ r e c.requires.shaped _ l c.in_default.is-1

pub returns-in_default-2 : goal.returns-in_default-2
returns-in_default-2 c r e l = bare_out _ r e c.requires.shaped _ l c.in_default.is-0

-- the three kinds that are heard
heard : {k : Kind} → (k ≡ Kind.ProposalHeard) ⊎ ((k ≡ Kind.VoteHeard) ⊎ (k ≡ Kind.ClockHeard)) → kind_number k ≤ clock_heard
heard =
    ⊎_elim (λ e. omega (arith, ap kind_number e))
    (⊎_elim (λ e. omega (arith, ap kind_number e)) (λ e. omega (arith, ap kind_number e)))

pub unwrap-requires : goal.unwrap-requires
unwrap-requires c = rw c.try_from.ensures (kind_there (granted _ _ c.requires.decided.1 c.in-Some-Ok.is-1 c.in-Some-Ok.is-0))

pub overflow_add-s : goal.overflow_add-s
overflow_add-s c = omega (arith, minute_left (granted _ _ c.requires.decided.1 c.in-Some-Ok.is-1 c.in-Some-Ok.is-0) (kind_was Kind.MinuteUp c.in-MinuteUp.ensures c.try_from.ensures))

pub returns-in-ProposalHeard : goal.returns-in-ProposalHeard
returns-in-ProposalHeard c r e l =
    let number = kind_ok _ _ (sym c.unwrap.ensures ∙ c.try_from.ensures) in
    let low = heard c.in-ProposalHeard.is in
    unsent (granted _ r e c.in-Some-Ok.is-1 c.in-Some-Ok.is-0) _ (omega (arith, number, low)) ∙ next_out _ r e c.requires.shaped _ l c.in-Some-Ok.is-1

pub returns-in-ProposeNow : goal.returns-in-ProposeNow
returns-in-ProposeNow c r e l =
    proposal_sent (granted _ r e c.in-Some-Ok.is-1 c.in-Some-Ok.is-0) _ c.requires.shaped l (kind_was Kind.ProposeNow c.in-ProposeNow.ensures c.try_from.ensures) c.at.ensures
    (ap (λ (x : Fields). record x { name = c.in-Some-Ok.f.name; parent = c.at.result.now.name; payload = c.in-Some-Ok.f.payload; epoch = c.args.s.now.local }) c.own_record.ensures)
    c.write.ensures
    ∙ next_out _ r e c.requires.shaped _ l c.in-Some-Ok.is-1

pub returns-in-CastNow : goal.returns-in-CastNow
returns-in-CastNow c r e l =
    vote-sent (granted _ r e c.in-Some-Ok.is-1 c.in-Some-Ok.is-0) _ c.requires.shaped l (kind_was Kind.CastNow c.in-CastNow.ensures c.try_from.ensures) c.at-in-CastNow.ensures
    (ap (λ (x : Fields). record x { name = c.at-in-CastNow.result.now.name }) c.own_record-in-CastNow.ensures)
    c.write-in-CastNow.ensures
    ∙ next_out _ r e c.requires.shaped _ l c.in-Some-Ok.is-1

pub returns-in-MinuteUp : goal.returns-in-MinuteUp
returns-in-MinuteUp c r e l =
    clock-sent (granted _ r e c.in-Some-Ok.is-1 c.in-Some-Ok.is-0) _ c.requires.shaped l (kind_was Kind.MinuteUp c.in-MinuteUp.ensures c.try_from.ensures)
    (ap (λ (x : Fields). record x { epoch = record { 0 = c.args.s.now.local.0 + 1 } }) c.own_record-in-MinuteUp.ensures)
    c.write-in-MinuteUp.ensures
    ∙ next_out _ r e c.requires.shaped _ l c.in-Some-Ok.is-1
