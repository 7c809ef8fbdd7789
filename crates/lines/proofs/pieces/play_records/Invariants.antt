-- Each record makes the next state, whose final names are counted, and gets its line.
use Rattle.std.proofs.Common.{◌+◌, ◌≤◌, ◌≡◌, true, length}
use Rattle.std.specs.Slice.Iter.{chunks_rest, chunks_size}
use Rattle.lines.proofs.Going.{Going}
use Rattle.lines.proofs.Recording.{recording}
use Rattle.lines.specs.Play.{last_number}
use Rattle.pala.specs.Lists.{final_names}
use Rattle.pala.specs.Run.{stretches}
use Rattle.pala.specs.Shape.{well_shaped}
use Rattle.lines.proofs.pieces.play_records.Given as goal

abbrev pub invariant-loop-rec : goal.invariant-loop-rec
invariant-loop-rec l = record {
  lent : l.line.text.ghost_name ≡ l.initial.line.text.ghost_name;
  size : chunks_size l.rec-iterator ≡ 96;
  shaped : well_shaped l.s ≡ true;
  counted : l.names ≡ length (final_names l.s);
  numbers : l.fn.before + length (stretches l.input) ≤ last_number;
  going : Going recording l.fn.s l.fn.before l.input l.fn.text l.s l.before (chunks_rest l.rec-iterator) l.line.at l.line.text.now;
}
