-- Each record is put to the newest state; what is left of the records gives the rest.
use Rattle.std.proofs.Common.{◌∙◌, sym, rules}
use Rattle.std.specs.Slice.Iter.{chunks_rest}
use Rattle.pala.proofs.Stretches.{Chunk, played_chunk, played_over}
use Rattle.gateway.proofs.runs.play.Goals as goal
use Rattle.gateway.proofs.runs.play.Goals.{In-Some}

chunk : (c : In-Some) → Chunk 96 (chunks_rest c.loop-rec.rec-iterator) c.in-Some.rec.now (chunks_rest c.next.new.self)
chunk c =
    let steps = c.in-Some.ensures.steps in
    record { parts = steps.1.0; long = rw c.loop-rec.invariant.size at steps.1.1; some = steps.1.2 }

pub loop-rec-preserved : goal.loop-rec-preserved
loop-rec-preserved c =
    let i = c.loop-rec.invariant in
    record {
      size = search rules;
      shaped = c.take_shaped.ensures.shaped;
      rest = played_chunk _ (chunk (goal.at.loop-rec-preserved c).In-Some) (c.take_shaped.ensures.step _ c.decide_shaped-d.ensures) ∙ i.rest;
    }

pub returns : goal.returns
returns c =
    let i = c.loop-rec.invariant in
    record { state = sym (played_over _ _ c.in-None.ensures.steps.1.0) ∙ i.rest; shaped = i.shaped }
