-- Record by record: each is put to its receiver, and its line is written. Assumes nothing.
use Rattle.std.proofs.Common.{rules, arith, length, drop, ◌-◌}
use lib.ListN.{length-drop}
use lib.Seq.{take_all}
use Rattle.std.specs.Slice.Iter.{chunks_rest}
use Rattle.pala.proofs.Stretches.{Chunk}
use Rattle.lines.proofs.Going.{going_start, going_next, going_numbered, going_room, going_end}
use Rattle.hall.proofs.Telling.{hall_end, hall_recorded, hall_tale}
use Rattle.hall.proofs.pieces.play_records.Goals as goal
use Rattle.hall.proofs.pieces.play_records.Goals.{In-Some}

chunk : (c : In-Some) → Chunk 97 (chunks_rest c.loop-sent.sent-iterator) c.in-Some.sent.now (chunks_rest c.next.new.self)
chunk c =
    let steps = c.in-Some.ensures.steps in
    record { parts = steps.1.0; long = rw c.loop-sent.invariant.size at steps.1.1; some = steps.1.2 }

pub loop-sent-init : goal.loop-sent-init
loop-sent-init c =
    record {
      size = search rules;
      shaped = c.requires.shaped;
      says = c.agree-word.ensures;
      numbers = c.requires.number;
      going = rw (c.into_iter-sent-iterator.ensures.into_iter_gives, c.chunks-sent-items.ensures.rest) (going_start hall_tale c.requires.fits);
    }

-- there is a number for the record
pub overflow_add-before : goal.overflow_add-before
overflow_add-before c =
    omega (arith, going_numbered hall_tale c.loop-sent.invariant.going (chunk (goal.at.overflow_add-before c).In-Some) c.loop-sent.invariant.numbers)

pub loop-sent-preserved : goal.loop-sent-preserved
loop-sent-preserved c =
    let i = c.loop-sent.invariant in
    let played = c.play_record-told.ensures in
    let x = c.in-Some.sent.now in
    let now = chunk (goal.at.loop-sent-preserved c).In-Some in
    record {
      size = search rules;
      shaped = played.shaped;
      says = played.says;
      numbers = i.numbers;
      going =
          going_next hall_tale i.going now
          (hall_recorded c.from.result _ c.play_record-told.result c.from.ensures (take_all (length x - 1) (drop 1 x) (omega (arith, length-drop 1 x)))
          played.told c.number_of.ensures played.after played.says
          (going_room hall_tale i.going now) (omega (arith, going_numbered hall_tale i.going now i.numbers)) c.put_said-end.ensures);
    }

pub returns : goal.returns
returns c = hall_end (going_end hall_tale c.loop-sent.invariant.going c.in-None.ensures.steps.1.0)
