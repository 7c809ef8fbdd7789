-- The measure is how many bytes of the script are left.
use Rattle.std.proofs.Common.{length}
use Rattle.cases.proofs.run.Given as goal

abbrev pub decreases-loop-byte : goal.decreases-loop-byte
decreases-loop-byte g l = length l.rest
