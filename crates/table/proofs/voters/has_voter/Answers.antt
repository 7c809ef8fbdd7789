-- Is the node among a block's voters: past the set none is. Assumes nothing.
use Rattle.std.proofs.Common.{rules, refl, sym, ◌∙◌, le-ltb}
use Rattle.table.proofs.Laws.{voter_past}
use Rattle.table.specs.Rows.{has_voter, most_nodes}
use Rattle.table.proofs.voters.has_voter.Goals as goal

pub returns-then-who-lt-MOST_NODES : goal.returns-then-who-lt-MOST_NODES
unfolding has_voter
returns-then-who-lt-MOST_NODES c = refl

pub returns-else-who-lt-MOST_NODES : goal.returns-else-who-lt-MOST_NODES
returns-else-who-lt-MOST_NODES c =
    le-ltb c.args.who.0 most_nodes c.if-who-lt-MOST_NODES.false ∙ sym (voter_past c.args.b.now _ most_nodes (search rules) c.if-who-lt-MOST_NODES.false)
