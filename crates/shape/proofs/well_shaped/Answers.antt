-- Well shaped: each test, in the order of the code. Assumes nothing.
use Rattle.std.proofs.Common.{arith}
use Rattle.std.proofs.lemmas.Bool.Decides.{nat_tests}
use Rattle.shape.proofs.Laws.{shaped_parts}
use Rattle.shape.proofs.well_shaped.Goals as goal

pub returns-then-held_ok : goal.returns-then-held_ok
returns-then-held_ok c = let parts = shaped_parts c.args.s.now in grind (arith, nat_tests)

pub returns-else-held_ok : goal.returns-else-held_ok
returns-else-held_ok c = let parts = shaped_parts c.args.s.now in grind (arith, nat_tests)
