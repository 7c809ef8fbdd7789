-- The block with one voter more: past the set nothing changes. Assumes nothing.
use Rattle.std.proofs.Common.{rules, refl, sym}
use Rattle.table.proofs.Laws.{with_voter-past}
use Rattle.table.specs.Rows.{most_nodes, with_voter}
use Rattle.table.proofs.voters.with_voter.Goals as goal

pub returns-then-who-lt-MOST_NODES : goal.returns-then-who-lt-MOST_NODES
unfolding with_voter
returns-then-who-lt-MOST_NODES c = refl

pub returns-else-who-lt-MOST_NODES : goal.returns-else-who-lt-MOST_NODES
returns-else-who-lt-MOST_NODES c = sym (with_voter-past _ _ most_nodes (search rules) c.if-who-lt-MOST_NODES.false)
