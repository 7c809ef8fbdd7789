-- The longest list so far: each before it begins it. Assumes nothing.
use Rattle.hall.proofs.Agreeing.{Longest}
use Rattle.std.proofs.Common.{take}
use Rattle.hall.proofs.chains.agree.Given as goal

abbrev pub invariant-loop-i : goal.invariant-loop-i
invariant-loop-i l = Longest l.h l.i (take l.longest.length l.longest.room)
