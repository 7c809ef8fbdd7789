-- Each record is put to the newest state; what is left of the records gives the rest.
use Rattle.std.proofs.Common.{◌≡◌, true}
use Rattle.std.specs.Slice.Iter.{chunks_rest, chunks_size}
use Rattle.pala.specs.Run.{played, stretches}
use Rattle.pala.specs.Shape.{well_shaped}
use Rattle.gateway.proofs.runs.play.Given as goal

abbrev pub invariant-loop-rec : goal.invariant-loop-rec
invariant-loop-rec l = record {
  size : chunks_size l.rec-iterator ≡ 96;
  shaped : well_shaped l.s ≡ true;
  rest : played l.s (stretches (chunks_rest l.rec-iterator)) ≡ played l.fn.s (stretches l.records);
}
