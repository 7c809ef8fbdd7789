-- Each record makes the next hall and the word of it, and gets its line.
use Rattle.accord.specs.Head.{hall_shaped}
use Rattle.accord.specs.Text.{sent_bytes}
use Rattle.accord.specs.Words.{agree}
use Rattle.hall.proofs.Telling.{hall_tale}
use Rattle.lines.proofs.Going.{Going}
use Rattle.lines.specs.Play.{last_number}
use Rattle.pala.specs.Run.{cut}
use Rattle.std.proofs.Common.{◌+◌, ◌≤◌, ◌≡◌, true, length}
use Rattle.std.specs.Slice.Iter.{chunks_rest, chunks_size}
use Rattle.hall.proofs.pieces.play_records.Given as goal

abbrev pub invariant-loop-sent : goal.invariant-loop-sent
invariant-loop-sent l = record {
  size : chunks_size l.sent-iterator ≡ sent_bytes;
  shaped : hall_shaped l.h ≡ true;
  says : l.word ≡ agree l.h;
  numbers : l.fn.before + length (cut sent_bytes l.input) ≤ last_number;
  going : Going hall_tale l.fn.h l.fn.before l.input l.fn.text l.h l.before (chunks_rest l.sent-iterator) l.end l.text;
}
