-- The voters counted so far. Assumes nothing.
use Rattle.std.proofs.Common.{◌≡◌}
use Rattle.table.specs.Rows.{has_voter}
use Rattle.table.specs.Scan.{count}
use Rattle.table.proofs.voters.votes.Given as goal

abbrev pub invariant-loop-voter : goal.invariant-loop-voter
invariant-loop-voter l = l.n ≡ count l.voter-index (has_voter l.b)
