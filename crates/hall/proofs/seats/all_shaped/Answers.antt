-- Each of the first n states is well shaped. Assumes nothing.
use Rattle.accord.specs.Head.{most_gateways}
use Rattle.hall.proofs.Seated.{list_sound}
use Rattle.pala.specs.Shape.{well_shaped}
use Rattle.std.proofs.Common.{rules, arith, tests, length, take}
use Rattle.std.proofs.lemmas.Iterator.{YieldsList-from_slice}
use Rattle.std.proofs.lemmas.Iterator.Search.{all_from_yields_List}
use mathlib.Core.Path.{◌≡◌, ◌∙◌}
use Rattle.hall.proofs.seats.all_shaped.Goals as goal
use Rattle.hall.proofs.seats.all_shaped.Goals.{After-all}

seats : (c : After-all) → length c.args.states.now ≡ most_gateways
seats c = search rules

pub returns : goal.returns
returns c =
    let a = c.args in
    all_from_yields_List well_shaped _ _ c.all.result c.all.ensures.ran (YieldsList-from_slice (take a.n a.states.now) c.iter.ensures.rest) (λ x b q k. search (rules, tests))
    ∙ list_sound a.states.now a.n (omega (arith, seats c))
