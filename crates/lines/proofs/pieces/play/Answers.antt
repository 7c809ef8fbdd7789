-- The three refusals in their order, and then the loop.
use Rattle.std.proofs.Common.{ap, sym, ◌∙◌, arith}
use Rattle.lines.proofs.Answered.{piece_unshaped, piece_short, piece_over, piece_ready, stretches-number}
use Rattle.lines.specs.Play.{Piece, Ready}
use Rattle.pala.specs.Answers.{answered, number, taken}
use Rattle.table.specs.Scan.{pick}
use Rattle.lines.proofs.pieces.play.Goals as goal
use Rattle.lines.proofs.pieces.play.Goals.{Else-count-before}

-- none of the three refuses
ready : (c : Else-count-before) → Ready c.args.s.now c.args.before.now c.args.input.now c.args.text.now
ready c =
    let count = stretches-number c.args.input.now c.div_ceil-count.ensures in
    record { shaped = sym c.well_shaped.ensures ∙ c.if-not-well_shaped.false; fits = omega (arith, count); number = omega (arith, count) }

pub returns-then-not-well_shaped : goal.returns-then-not-well_shaped
unfolding answered taken number pick
returns-then-not-well_shaped c =
    let e = piece_unshaped c.args.s.now c.args.before.now c.args.input.now c.args.text.now (sym c.well_shaped.ensures ∙ c.if-not-well_shaped.true) in
    record {
      answer = ap (λ (p : Piece). answered p.answer p.length) (sym e);
      state = ap (λ (p : Piece). p.state) (sym e);
      number = ap (λ (p : Piece). p.before) (sym e);
      text = ap (λ (p : Piece). p.text) (sym e);
    }

pub returns-then-text-count : goal.returns-then-text-count
unfolding answered taken number pick
returns-then-text-count c =
    let count = stretches-number c.args.input.now c.div_ceil-count.ensures in
    let e = piece_short c.args.s.now c.args.before.now c.args.input.now c.args.text.now (sym c.well_shaped.ensures ∙ c.if-not-well_shaped.false) (omega (arith, count)) in
    record {
      answer = ap (λ (p : Piece). answered p.answer p.length) (sym e);
      state = ap (λ (p : Piece). p.state) (sym e);
      number = ap (λ (p : Piece). p.before) (sym e);
      text = ap (λ (p : Piece). p.text) (sym e);
    }

pub returns-then-count-before : goal.returns-then-count-before
unfolding answered taken number pick
returns-then-count-before c =
    let count = stretches-number c.args.input.now c.div_ceil-count.ensures in
    let e = piece_over c.args.s.now c.args.before.now c.args.input.now c.args.text.now (sym c.well_shaped.ensures ∙ c.if-not-well_shaped.false) (omega (arith, count)) (omega (arith, count)) in
    record {
      answer = ap (λ (p : Piece). answered p.answer p.length) (sym e);
      state = ap (λ (p : Piece). p.state) (sym e);
      number = ap (λ (p : Piece). p.before) (sym e);
      text = ap (λ (p : Piece). p.text) (sym e);
    }

pub play_records-requires : goal.play_records-requires
play_records-requires c = ready (goal.at.play_records-requires c).Else-count-before

pub returns : goal.returns
unfolding answered taken number pick
returns c =
    let e = piece_ready c.args.s.now c.args.before.now c.args.input.now c.args.text.now (ready (goal.at.returns c).Else-count-before) ∙ sym c.play_records.ensures in
    record {
      answer = ap (λ (p : Piece). answered p.answer p.length) (sym e);
      state = ap (λ (p : Piece). p.state) (sym e);
      number = ap (λ (p : Piece). p.before) (sym e);
      text = ap (λ (p : Piece). p.text) (sym e);
    }
