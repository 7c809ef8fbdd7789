-- The key of a name. Assumes nothing.
use Rattle.std.proofs.Common.{arith}
use Rattle.shape.specs.Parts.{key}
use Rattle.shape.proofs.names.key_of.Goals as goal

pub returns : goal.returns
unfolding key
returns c = omega arith
