-- The three refusals in their order, and then the loop.
use Rattle.std.proofs.Common.{ap, sym, ◌∙◌, arith}
use Rattle.table.specs.Scan.{pick}
use Rattle.pala.specs.Answers.{answered, number, taken}
use Rattle.hall.specs.Play.{HallPiece, HallReady}
use Rattle.hall.proofs.Answered.{piece_unshaped, piece_short, piece_over, piece_ready, sent-number}
use Rattle.hall.proofs.pieces.play.Goals as goal
use Rattle.hall.proofs.pieces.play.Goals.{Else-count-before}

-- none of the three refuses
ready : (c : Else-count-before) → HallReady c.args.h.now c.args.before.now c.args.input.now c.args.text.now
ready c =
    let count = sent-number c.args.input.now c.div_ceil-count.ensures in
    record { shaped = sym c.hall_shaped.ensures ∙ c.if-not-hall_shaped.false; fits = omega (arith, count); number = omega (arith, count) }

pub returns-then-not-hall_shaped : goal.returns-then-not-hall_shaped
unfolding answered taken number pick
returns-then-not-hall_shaped c =
    let e = piece_unshaped c.args.h.now c.args.before.now c.args.input.now c.args.text.now (sym c.hall_shaped.ensures ∙ c.if-not-hall_shaped.true) in
    record {
      answer = ap (λ (p : HallPiece). answered p.answer p.length) (sym e);
      hall = ap (λ (p : HallPiece). p.hall) (sym e);
      number = ap (λ (p : HallPiece). p.before) (sym e);
      text = ap (λ (p : HallPiece). p.text) (sym e);
    }

pub returns-then-text-count : goal.returns-then-text-count
unfolding answered taken number pick
returns-then-text-count c =
    let count = sent-number c.args.input.now c.div_ceil-count.ensures in
    let e = piece_short c.args.h.now c.args.before.now c.args.input.now c.args.text.now (sym c.hall_shaped.ensures ∙ c.if-not-hall_shaped.false) (omega (arith, count)) in
    record {
      answer = ap (λ (p : HallPiece). answered p.answer p.length) (sym e);
      hall = ap (λ (p : HallPiece). p.hall) (sym e);
      number = ap (λ (p : HallPiece). p.before) (sym e);
      text = ap (λ (p : HallPiece). p.text) (sym e);
    }

pub returns-then-count-before : goal.returns-then-count-before
unfolding answered taken number pick
returns-then-count-before c =
    let count = sent-number c.args.input.now c.div_ceil-count.ensures in
    let e = piece_over c.args.h.now c.args.before.now c.args.input.now c.args.text.now (sym c.hall_shaped.ensures ∙ c.if-not-hall_shaped.false) (omega (arith, count)) (omega (arith, count)) in
    record {
      answer = ap (λ (p : HallPiece). answered p.answer p.length) (sym e);
      hall = ap (λ (p : HallPiece). p.hall) (sym e);
      number = ap (λ (p : HallPiece). p.before) (sym e);
      text = ap (λ (p : HallPiece). p.text) (sym e);
    }

pub play_records-requires : goal.play_records-requires
play_records-requires c = ready (goal.at.play_records-requires c).Else-count-before

pub returns : goal.returns
unfolding answered taken number pick
returns c =
    let e = piece_ready c.args.h.now c.args.before.now c.args.input.now c.args.text.now (ready (goal.at.returns c).Else-count-before) ∙ sym c.play_records.ensures in
    record {
      answer = ap (λ (p : HallPiece). answered p.answer p.length) (sym e);
      hall = ap (λ (p : HallPiece). p.hall) (sym e);
      number = ap (λ (p : HallPiece). p.before) (sym e);
      text = ap (λ (p : HallPiece). p.text) (sym e);
    }
