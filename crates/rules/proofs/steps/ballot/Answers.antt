-- The ballot of the columns. Assumes nothing.
use Rattle.std.proofs.Common.{ℕ, rules, tests, arith, refl, sym, ◌∙◌}
use Rattle.std.proofs.lemmas.Iterator.{YieldsList-from_map, YieldsList-from_range}
use Rattle.std.proofs.lemmas.Iterator.Adapters.{option_map_id}
use Rattle.std.proofs.lemmas.Iterator.Consumers.{YieldsList-at}
use Rattle.std.proofs.lemmas.Iterator.Search.{find_from_yields_List}
use Rattle.table.specs.declared.Place.{Place}
use Rattle.rules.specs.Columns.{epoch_in, mark_in, up_in, votable_by}
use Rattle.rules.proofs.Searches.{find_lowest}
use Rattle.rules.proofs.Shown.{chosen-shown}
use Rattle.rules.proofs.steps.ballot.Goals as goal

pub returns : goal.returns
returns c =
    let s = c.args.s.now in
    let d = c.columns_of-c.result in
    let ok = votable_by (up_in d) (epoch_in d) (mark_in d) s.local.0 s.bar.0 s.voted.0 in
    sym (option_map_id _)
    ∙ find_from_yields_List (λ (q : Place). ok q.0) _ _ c.find.result c.find.ensures.ran
    (YieldsList-from_map _ (λ (k : ℕ). record { 0 = k }) (YieldsList-at c.map.ensures.source (YieldsList-from_range 0 d.size d.size refl (omega arith))) c.map.ensures.closure (λ x r q k. search rules))
    (λ x b q k. search (rules, tests))
    ∙ find_lowest ok d.size
    ∙ chosen-shown s d c.columns_of-c.ensures.shown c.columns_of-c.ensures.fits
