-- The voters counted so far. Assumes nothing.
use Rattle.std.proofs.Common.{arith, refl, ◌+◌, ◌∙◌, false, get_or}
use Rattle.table.proofs.Laws.{count-le, count-step, flag-byte, votes-count}
use Rattle.table.specs.Rows.{has_voter}
use Rattle.table.specs.Scan.{count}
use Rattle.table.proofs.voters.votes.Goals as goal

pub loop-voter-init : goal.loop-voter-init
unfolding count
loop-voter-init c = refl

pub overflow_add-n : goal.overflow_add-n
unfolding has_voter
overflow_add-n c =
    let i = c.loop-voter.voter-index in
    let ok = has_voter c.args.b.now in
    omega (arith, count-le (i + 1) ok, count-step i ok, c.loop-voter.invariant, flag-byte (get_or c.args.b.now.voters i false))

pub loop-voter-preserved : goal.loop-voter-preserved
unfolding has_voter
loop-voter-preserved c =
    let i = c.loop-voter.voter-index in
    let ok = has_voter c.args.b.now in
    omega (arith, count-step i ok, c.loop-voter.invariant, flag-byte (get_or c.args.b.now.voters i false))

pub returns : goal.returns
returns c = c.loop-voter.invariant ∙ votes-count _ _ (omega arith)
