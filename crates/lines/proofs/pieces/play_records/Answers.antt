-- Each record makes the next state, whose final names are counted, and gets its line.
use Rattle.std.proofs.Common.{◌<◌, ◌≡◌, ◌∙◌, length, sym, ap, arith, rules}
use Rattle.std.specs.Slice.Iter.{chunks_rest}
use Rattle.lines.proofs.Going.{going_next, going_numbered, going_room, going_end}
use Rattle.lines.proofs.Recording.{recording, recording_start, recording_end}
use Rattle.lines.proofs.Records.{number-few, told_is, recorded}
use Rattle.lines.specs.Play.{last_number}
use Rattle.pala.proofs.Playing.{names_few}
use Rattle.pala.proofs.Stretches.{Chunk}
use Rattle.pala.specs.Lists.{final_names}
use Rattle.pala.specs.Run.{stretches}
use Rattle.std.specs.Prelude.{unwrap_or}
use Rattle.table.specs.declared.Answer.{Answer}
use borrow.Author.Tests.{eqb-true, not-false}
use Rattle.lines.proofs.pieces.play_records.Goals as goal
use Rattle.lines.proofs.pieces.play_records.Goals.{then-ne, else-ne}
use Rattle.lines.proofs.pieces.play_records.Goals.{In-Some, Joined-ne}

chunk : (c : In-Some) → Chunk 96 (chunks_rest c.loop-rec.rec-iterator) c.in-Some.rec.now (chunks_rest c.next.new.self)
chunk c =
    let steps = c.in-Some.ensures.steps in
    record { parts = steps.1.0; long = rw c.loop-rec.invariant.size at steps.1.1; some = steps.1.2 }

-- there is a number for the record
numbered : (c : In-Some) → c.loop-rec.before < last_number
unfolding stretches
numbered c = going_numbered recording c.loop-rec.invariant.going (chunk c) c.loop-rec.invariant.numbers

-- the final names are counted anew, or are as many as before
counted : (c : Joined-ne) → c.if-ne.names ≡ length (final_names c.take_shaped.new.s)
counted c =
    elim c.if-ne.branch [
      | then-ne w ↦ w.names-is ∙ w.final_count-names-then-ne.ensures
      | else-ne w ↦
          w.names-is ∙ c.loop-rec.invariant.counted
          ∙ ap length (sym (c.take_shaped.ensures.names (eqb-true _ _ (not-false _ (sym c.ne.ensures ∙ w.if-ne.false)))))
    ]

pub loop-rec-init : goal.loop-rec-init
loop-rec-init c =
    record {
      lent = search rules;
      size = search rules;
      shaped = c.requires.shaped;
      counted = c.final_count-names.ensures;
      numbers = c.requires.number;
      going = rw (c.into_iter-rec-iterator.ensures.into_iter_gives, c.chunks-rec-items.ensures.rest) (recording_start c.requires.fits);
    }

pub overflow_add-before : goal.overflow_add-before
overflow_add-before c = omega (arith, numbered (goal.at.overflow_add-before c).In-Some)

pub put_record-requires-clause-room : goal.put_record-requires-clause-room
put_record-requires-clause-room c = going_room recording c.loop-rec.invariant.going (chunk (goal.at.put_record-requires-clause-room c).In-Some)

pub put_record-requires-clause-few : goal.put_record-requires-clause-few
put_record-requires-clause-few c = (
  omega (arith, c.number_of.ensures, number-few c.unwrap_or-answer.result),
  omega (arith, counted (goal.at.put_record-requires-clause-few c).Joined-ne, names_few c.take_shaped.new.s c.take_shaped.ensures.shaped),
)

pub loop-rec-preserved : goal.loop-rec-preserved
loop-rec-preserved c =
    let i = c.loop-rec.invariant in
    let at = goal.at.loop-rec-preserved c in
    record {
      lent = search rules;
      size = search rules;
      shaped = c.take_shaped.ensures.shaped;
      counted = counted at.Joined-ne;
      numbers = i.numbers;
      going =
          going_next recording i.going (chunk at.In-Some)
          (recorded (c.unwrap_or-answer.ensures ∙ ap (λ o. unwrap_or o Answer.Taken) c.err.ensures.value ∙ told_is _ _ i.shaped c.decide_shaped-d.ensures) c.number_of.ensures (c.take_shaped.ensures.step _ c.decide_shaped-d.ensures) (counted at.Joined-ne)
          c.put_record.ensures.put c.put_record.ensures.most);
    }

pub returns : goal.returns
returns c = recording_end (going_end recording c.loop-rec.invariant.going c.in-None.ensures.steps.1.0) (search rules)
