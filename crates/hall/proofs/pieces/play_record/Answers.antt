-- The receiver's own state moves on, and the word is found anew where its final list is another. Assumes nothing.
use Rattle.std.proofs.Common.{ℕ, ◌≡◌, ◌∙◌, ◌<◌, List, true, not, ap, sym, arith, get_or}
use Rattle.table.specs.declared.State.{State}
use Rattle.table.proofs.Laws.{pick_yes}
use Rattle.pala.specs.Lists.{final_names}
use Rattle.pala.specs.Run.{lent}
use Rattle.pala.specs.Shape.{well_shaped}
use Rattle.pala.specs.Step.{step}
use Rattle.node.specs.Moves.{decision}
use Rattle.node.specs.declared.Decision.{Decision}
use Rattle.accord.specs.declared.Hall.{Hall}
use Rattle.accord.specs.declared.Verdict.{Verdict}
use Rattle.accord.specs.Head.{gateway, hall_shaped, honest_in}
use Rattle.accord.specs.Rulings.{hall_after, passes, seated, verdict}
use Rattle.accord.proofs.Halls.{hall_moves, hall_stays}
use Rattle.hall.specs.Judged.{Decided}
use Rattle.hall.proofs.Agreeing.{agree_same}
use Rattle.hall.proofs.Judged.{passing, refusal}
use Rattle.hall.proofs.Named.{pick_none, pick_some}
use Rattle.hall.proofs.Seated.{honest_low, seat_read, seat_there, shaped_gateway, shaped_most, shaped_seated}
use borrow.Author.Tests.{eqb-true, not-false}
use Rattle.hall.proofs.pieces.play_record.Goals as goal
use Rattle.hall.proofs.pieces.play_record.Goals.{In-Some, In_default-judge, Else-ne, In_default, In-Err}

-- the receiver is honest, ..
here : (c : In-Some) → (honest_in c.args.h.now c.args.to ≡ true) × (c.in-Some.s ≡ gateway c.args.h.now c.args.to)
here c = pick_some (honest_in c.args.h.now c.args.to) (gateway c.args.h.now c.args.to) c.in-Some.ensures.told

-- .. so it has a seat ..
low : (c : In-Some) → c.args.to < c.args.h.now.n
low c =
    let y = (here c).0 in
    honest_low c.args.h.now c.requires.0 c.args.to (c.in-Some.ensures.within y) y

-- .. and a well-shaped state, where its answer is decided
decided : (c : In-Some) {d : Decision} → d ≡ decision c.in-Some.s c.args.rec.now → Decided c.args.h.now c.args.to c.args.rec.now c.in-Some.s d
decided c by =
    let own = here c in
    record {
      honest = own.0;
      own = own.1;
      shaped = ap well_shaped own.1 ∙ shaped_gateway c.args.h.now c.requires.0 c.args.to (low c);
      by = by;
    }

-- who isn't honest is told that, and nothing moves
pub returns-in_default : goal.returns-in_default
unfolding verdict passes
returns-in_default c =
    let h = c.args.h.now in
    let none = pick_none (honest_in h c.args.to) (gateway h c.args.to) (sym c.in_default.is ∙ c.honest.ensures.told) in
    let told : Verdict.Receiver ≡ verdict h c.args.to c.args.rec.now = sym (pick_yes (not (honest_in h c.args.to)) Verdict.Receiver _ (ap not none)) in
    record {
      told = told;
      after = sym (hall_stays h c.args.to c.args.rec.now (ap passes (sym told)));
      shaped = c.requires.0;
      says = c.requires.1;
    }

-- nor does it where the record is refused
pub returns-in-Err : goal.returns-in-Err
returns-in-Err c =
    let h = c.args.h.now in
    let refused = refusal (sym c.in-Err.is ∙ c.judge.ensures c.args.to c.args.rec.now (decided (goal.at.returns-in-Err c).In-Some c.decide_shaped-d.ensures)) in
    record {
      told = refused.1;
      after = sym (hall_stays h c.args.to c.args.rec.now refused.0);
      shaped = c.requires.0;
      says = c.requires.1;
    }

pub offset_bounds-h-to : goal.offset_bounds-h-to
offset_bounds-h-to c =
    let below = low (goal.at.offset_bounds-h-to c).In-Some in
    record { fits = omega (arith, shaped_most c.args.h.now c.requires.0) }

pub bounds-h-to : goal.bounds-h-to
bounds-h-to c =
    let below = low (goal.at.bounds-h-to c).In-Some in
    omega (arith, shaped_most c.args.h.now c.requires.0)

pub take_shaped-requires : goal.take_shaped-requires
take_shaped-requires c =
    let h = c.args.h.now in
    let at = (goal.at.take_shaped-requires c).In-Some in
    let seat = seat_read h c.requires.0 c.args.to _ (low at) in (
      ap well_shaped seat ∙ shaped_gateway h c.requires.0 c.args.to (low at),
      (c.args.rec.now, c.decide_shaped-d.ensures ∙ ap (λ (s : State). decision s c.args.rec.now) ((here at).1 ∙ sym seat)),
    )

-- it is taken where the record passes: the receiver's own state moves on
module _ (h : Hall) (e : hall_shaped h ≡ true) (to : ℕ) (r : List ℕ) (l : to < h.n) (p : passes (verdict h to r) ≡ true) (d t : State) where
  moved : t ≡ (step (get_or h.states to d) r lent).state → seated h to t ≡ hall_after h to r
  moved f = ap (seated h to) (f ∙ ap (λ (s : State). (step s r lent).state) (seat_read h e to d l)) ∙ sym (hall_moves h to r p)

pub invariant_of-agree : goal.invariant_of-agree
unfolding seated
invariant_of-agree c =
    shaped_seated c.args.h.now c.requires.0 c.args.to (low (goal.at.invariant_of-agree c).In-Some) c.take_shaped.new.s c.take_shaped.ensures.shaped

pub returns-then-ne : goal.returns-then-ne
unfolding seated
returns-then-ne c =
    let h = c.args.h.now in
    let at = (goal.at.returns-then-ne c).In-Some in
    let w = decided at c.decide_shaped-d.ensures in
    let taken = passing (sym c.in_default-judge.is ∙ c.judge.ensures c.args.to c.args.rec.now w) in
    let seat = seat_read h c.requires.0 c.args.to _ (low at) in
    record {
      told = taken.1;
      after =
          moved h c.requires.0 c.args.to c.args.rec.now (low at) taken.0 _ c.take_shaped.new.s
          (c.take_shaped.ensures.step c.args.rec.now (w.by ∙ ap (λ (s : State). decision s c.args.rec.now) (w.own ∙ sym seat)));
      shaped = shaped_seated h c.requires.0 c.args.to (low at) c.take_shaped.new.s c.take_shaped.ensures.shaped;
      says = c.agree.ensures;
    }

-- the same final block is kept, so no list has changed
pub returns-else-ne : goal.returns-else-ne
unfolding seated
returns-else-ne c =
    let h = c.args.h.now in
    let at = (goal.at.returns-else-ne c).In-Some in
    let w = decided at c.decide_shaped-d.ensures in
    let taken = passing (sym c.in_default-judge.is ∙ c.judge.ensures c.args.to c.args.rec.now w) in
    let seat = seat_read h c.requires.0 c.args.to _ (low at) in
    let same = c.take_shaped.ensures.names (eqb-true _ _ (not-false _ (sym c.ne.ensures ∙ c.if-ne.false))) in
    record {
      told = taken.1;
      after =
          moved h c.requires.0 c.args.to c.args.rec.now (low at) taken.0 _ c.take_shaped.new.s
          (c.take_shaped.ensures.step c.args.rec.now (w.by ∙ ap (λ (s : State). decision s c.args.rec.now) (w.own ∙ sym seat)));
      shaped = shaped_seated h c.requires.0 c.args.to (low at) c.take_shaped.new.s c.take_shaped.ensures.shaped;
      says = c.requires.1 ∙ sym (agree_same h c.args.to c.take_shaped.new.s (seat_there h c.requires.0 c.args.to (low at)) (same ∙ ap final_names seat));
    }
