-- Three votes for every two nodes: the site card's test is 01's. Assumes nothing.
use Rattle.pala.proofs.Counts.{card_agrees}
use Rattle.rules.proofs.quorum.enough.Goals as goal

pub returns : goal.returns
returns c = rw (c.from-votes.ensures, c.from-nodes.ensures) (card_agrees c.args.votes c.args.n)
