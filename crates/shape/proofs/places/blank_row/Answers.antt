-- A row of zeros: field by field. Assumes nothing.
use Rattle.std.proofs.Common.{arith, rules}
use Rattle.std.proofs.lemmas.Bool.Decides.{nat_tests}
use Rattle.pala.specs.Shape.{is_blank}
use Rattle.shape.proofs.Laws.{voters_none}
use Rattle.shape.proofs.places.blank_row.Goals as goal

pub returns-then-b-eq0-2 : goal.returns-then-b-eq0-2
unfolding is_blank
returns-then-b-eq0-2 c = let h = voters_none c.args.b.now (search rules) in grind (arith, nat_tests)

pub returns-else-b-eq0-2 : goal.returns-else-b-eq0-2
unfolding is_blank
returns-else-b-eq0-2 c = grind (arith, nat_tests)
