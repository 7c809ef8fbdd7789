-- No number from n on is in the set: none of what is left of it after n. Assumes nothing.
use Rattle.hall.proofs.Seated.{list_from}
use Prim.Native.Nat.{◌-◌}
use Rattle.accord.specs.Head.{most_gateways}
use Rattle.std.proofs.Common.{rules, tests, arith, not, drop, length-drop}
use Rattle.std.proofs.lemmas.List.{take_all}
use Rattle.std.proofs.lemmas.Iterator.{YieldsList-from_slice}
use Rattle.std.proofs.lemmas.Iterator.Search.{all_from_yields_List}
use mathlib.Core.Path.{◌∙◌}
use Rattle.hall.proofs.seats.none_from.Goals as goal

pub returns : goal.returns
returns c =
    let a = c.args in
    all_from_yields_List not _ _ c.all.result c.all.ensures.ran (YieldsList-from_slice (drop a.n a.honest.now) (c.iter.ensures.rest ∙ take_all (most_gateways - a.n) (drop a.n a.honest.now) (omega (arith, length-drop a.n a.honest.now)))) (λ x b q k. search (rules, tests))
    ∙ list_from a.honest.now a.n (search rules) c.requires
