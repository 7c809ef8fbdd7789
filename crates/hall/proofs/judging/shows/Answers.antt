-- The block of that name is asked for its node's vote. Assumes nothing.
use Rattle.accord.specs.Rulings.{shows}
use Rattle.hall.proofs.Named.{one_named, some_and}
use Rattle.hall.specs.Named.{block_named}
use Rattle.std.proofs.Common.{rules, ◌≡◌, ◌∙◌, sym, subst}
use Rattle.table.specs.Rows.{at, find, has_voter, rows}
use Rattle.table.specs.declared.Place.{Place}
use Rattle.table.specs.declared.State.{State}
use Rattle.hall.proofs.judging.shows.Goals as goal

pub returns : goal.returns
unfolding shows block_named
returns c =
    let s = c.s.inside.state.now in
    let name = c.args.name.now in
    subst (λ (t : State). c.is_some_and.result ≡ shows (rows t) c.args.who.0 name) c.s.view_is
    (some_and _ (record { 0 = find (rows s) name }) (λ (p : Place). has_voter (at (rows s) p.0) c.args.who.0) _ c.block_named.ensures c.is_some_and.ensures (λ p q. search rules)
    ∙ sym (one_named s c.s.invariant name (λ p. has_voter (at (rows s) p) c.args.who.0)))
