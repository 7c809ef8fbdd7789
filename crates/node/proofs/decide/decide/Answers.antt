-- Rows 4 to 6, and then those of the kind. Assumes nothing.
use Rattle.node.proofs.ByKind.{no_kind, not_clean, not_sender, by_judge, kind_is, kind_read}
use Rattle.pala.proofs.Shapes.{shaped-nodes}
use Rattle.std.proofs.lemmas.Result.{err_from_is_err_and}
use Rattle.record.specs.declared.kinds.Kind.{Kind}
use native.Mathlib.Omega.{arith}
use Rattle.node.proofs.decide.decide.Goals as goal

pub returns-in_err-kind : goal.returns-in_err-kind
returns-in_err-kind c r e =
    let p = err_from_is_err_and c.from_residual.result c.from_residual.ensures.1 in
    rw (p.1, p.2, ← c.shaped.view_is) (no_kind _ _ r e c.in_err-kind.ensures)

pub returns-then-not-f : goal.returns-then-not-f
returns-then-not-f c r e = rw (← c.shaped.view_is) (not_clean _ _ r e _ c.in_ok-kind.ensures c.if-not-f.true)

pub returns-then-bad_sender : goal.returns-then-bad_sender
returns-then-bad_sender c r e = rw (← c.shaped.view_is) (not_sender _ _ r e _ c.in_ok-kind.ensures c.if-not-f.false c.bad_sender.ensures c.if-bad_sender.true)

pub judge_proposal-requires : goal.judge_proposal-requires
judge_proposal-requires c = record { nodes = omega (arith, shaped-nodes _ c.shaped.invariant); kind = kind_is Kind.ProposalHeard c.in_ok-kind.ensures c.in-ProposalHeard.is }

pub returns-in-ProposalHeard : goal.returns-in-ProposalHeard
returns-in-ProposalHeard c r e = rw (← c.shaped.view_is) (by_judge _ _ r e _ c.in_ok-kind.ensures c.if-not-f.false c.bad_sender.ensures c.if-bad_sender.false (c.judge_proposal.ensures r e))

pub judge_vote-requires : goal.judge_vote-requires
judge_vote-requires c = kind_is Kind.VoteHeard c.in_ok-kind.ensures c.in-VoteHeard.is

pub returns-in-VoteHeard : goal.returns-in-VoteHeard
returns-in-VoteHeard c r e = rw (← c.shaped.view_is) (by_judge _ _ r e _ c.in_ok-kind.ensures c.if-not-f.false c.bad_sender.ensures c.if-bad_sender.false (c.judge_vote.ensures r e))

pub judge_clock-requires : goal.judge_clock-requires
judge_clock-requires c = kind_is Kind.ClockHeard c.in_ok-kind.ensures c.in-ClockHeard.is

pub returns-in-ClockHeard : goal.returns-in-ClockHeard
returns-in-ClockHeard c r e = rw (← c.shaped.view_is) (by_judge _ _ r e _ c.in_ok-kind.ensures c.if-not-f.false c.bad_sender.ensures c.if-bad_sender.false (c.judge_clock.ensures r e))

pub judge_propose-requires : goal.judge_propose-requires
judge_propose-requires c = record { nodes = omega (arith, shaped-nodes _ c.shaped.invariant); kind = kind_is Kind.ProposeNow c.in_ok-kind.ensures c.in-ProposeNow.is }

pub returns-in-ProposeNow : goal.returns-in-ProposeNow
returns-in-ProposeNow c r e = rw (← c.shaped.view_is) (by_judge _ _ r e _ c.in_ok-kind.ensures c.if-not-f.false c.bad_sender.ensures c.if-bad_sender.false (c.judge_propose.ensures r e))

pub returns-in-CastNow : goal.returns-in-CastNow
returns-in-CastNow c r e = rw (← c.shaped.view_is) (by_judge _ _ r e _ c.in_ok-kind.ensures c.if-not-f.false c.bad_sender.ensures c.if-bad_sender.false (c.judge_cast.ensures r (kind_read r e (kind_is Kind.CastNow c.in_ok-kind.ensures c.in-CastNow.is))))

pub returns-in-MinuteUp : goal.returns-in-MinuteUp
returns-in-MinuteUp c r e = rw (← c.shaped.view_is) (by_judge _ _ r e _ c.in_ok-kind.ensures c.if-not-f.false c.bad_sender.ensures c.if-bad_sender.false (c.judge_minute.ensures r (kind_read r e (kind_is Kind.MinuteUp c.in_ok-kind.ensures c.in-MinuteUp.is))))
