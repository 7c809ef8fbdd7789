-- An honest number is below n, so its state is well shaped; who isn't honest has none. Assumes nothing.
use Rattle.accord.specs.Head.{gateway, honest_in}
use Rattle.accord.specs.declared.Hall.{Hall}
use Rattle.hall.proofs.Seated.{honest_low, shaped_gateway, seat_read}
use Rattle.pala.specs.Shape.{well_shaped}
use Rattle.std.proofs.Common.{ℕ, ◌≡◌, ◌<◌, Some, None, Option, true, false}
use Rattle.table.proofs.Laws.{not_both, pick_yes, pick_no}
use Rattle.table.specs.Scan.{pick}
use Rattle.table.specs.declared.State.{State}
use mathlib.Core.Path.{ap, sym, ◌∙◌}
use Rattle.hall.proofs.seats.ShapedHall.honest.Goals as goal
use Rattle.hall.proofs.seats.ShapedHall.honest.Goals.{Else-not-in_set, Then-not-in_set}

-- what is handed back, of the hall that is lent
handed : Hall → ℕ → Option State
handed h who = pick (honest_in h who) (Some (gateway h who)) None

honest : (c : Else-not-in_set) → honest_in c.self.inside.hall.now c.args.who ≡ true
unfolding honest_in
honest c = sym c.in_set.ensures.told ∙ c.if-not-in_set.false

low : (c : Else-not-in_set) → c.args.who < c.self.inside.hall.now.n
low c = honest_low c.self.inside.hall.now c.self.invariant c.args.who (c.in_set.ensures.within c.if-not-in_set.false) (honest c)

pub invariant_of-result : goal.invariant_of-result
invariant_of-result c =
    let h = c.self.inside.hall.now in
    let below = low (goal.at.invariant_of-result c).Else-not-in_set in
    ap well_shaped (seat_read h c.self.invariant c.args.who _ below) ∙ shaped_gateway h c.self.invariant c.args.who below

-- who is in no set is honest nowhere
absent : (c : Then-not-in_set) → honest_in c.self.inside.hall.now c.args.who ≡ false
unfolding honest_in
absent c = sym c.in_set.ensures.told ∙ c.if-not-in_set.true

pub returns-then-not-in_set : goal.returns-then-not-in_set
unfolding handed
returns-then-not-in_set c =
    let none = absent c in
    record {
      told = sym (pick_no (honest_in c.self.inside.hall.now c.args.who) _ None none) ∙ ap (λ (x : Hall). handed x c.args.who) c.self.view_is;
      within = λ y. absurd (not_both (ap (λ (x : Hall). honest_in x c.args.who) c.self.view_is ∙ y) none);
    }

pub returns : goal.returns
unfolding handed
returns c =
    let at = (goal.at.returns c).Else-not-in_set in
    let h = c.self.inside.hall.now in
    record {
      told =
          ap Some (seat_read h c.self.invariant c.args.who _ (low at))
          ∙ sym (pick_yes (honest_in h c.args.who) (Some (gateway h c.args.who)) None (honest at))
          ∙ ap (λ (x : Hall). handed x c.args.who) c.self.view_is;
      within = λ _. c.in_set.ensures.within c.if-not-in_set.false;
    }
