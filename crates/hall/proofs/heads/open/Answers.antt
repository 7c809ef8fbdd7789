-- What a head opens, or a refusal: eight all-zero states, nobody honest, no node. Assumes nothing.
use Rattle.accord.specs.Head.{no_hall}
use Rattle.hall.proofs.Fresh.{opened_none, opened_some}
use Rattle.std.proofs.Common.{refl}
use Rattle.hall.proofs.heads.open.Goals as goal

pub returns-in-Some : goal.returns-in-Some
returns-in-Some c = opened_some c.args.head.now c.in-Some.ensures

pub returns-in-None : goal.returns-in-None
unfolding no_hall
returns-in-None c = opened_none c.args.head.now (rw c.all_zero.ensures refl) c.in-None.ensures
