-- The place that the name is found at, but for the genesis's. Assumes nothing.
use Rattle.hall.proofs.Named.{filtered}
use Rattle.hall.specs.Named.{block_named}
use Rattle.std.proofs.Common.{rules, tests, ltb}
use Rattle.table.specs.Rows.{find, found, rows}
use Rattle.table.specs.declared.Place.{Place}
use Rattle.hall.proofs.judging.block_named.Goals as goal

pub returns : goal.returns
unfolding block_named found
returns c =
    let place : Place = record { 0 = find (rows c.args.s.now) c.args.name.now } in
    filtered _ place (λ (p : Place). ltb 0 p.0) _ c.find.ensures c.filter.ensures (λ p b q. search (rules, tests))
