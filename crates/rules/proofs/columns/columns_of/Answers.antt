-- A row for each place: the block's, or past the end the root's. Assumes nothing.
use Rattle.std.proofs.Common.{ℕ, ◌≡◌, [], cond, get_or, length, ltb, rules, tests}
use Rattle.table.specs.declared.Block.{Block}
use Rattle.rules.specs.Columns.{places, row_by}
use Rattle.rules.specs.declared.columns.Row.{Row}
use Rattle.rules.proofs.Cells.{made_by}
use Rattle.rules.proofs.Shown.{columns_made}
use Rattle.rules.proofs.columns.columns_of.Goals as goal

pub returns-clause-shown : goal.returns-clause-shown
returns-clause-shown c =
    let s = c.args.s.now in
    let d : Block = record { name = []; payload = []; voters = []; epoch = record { 0 = 0 }; parent = record { 0 = 0 } } in
    let here : ℕ → Row = λ p. cond (ltb p c.size_of-size.result) (row_by s.n (get_or s.blocks p d)) c.of-root.result in
    let h = c.type_inv.s in
    let held : length s.blocks ≡ places = search rules in
    columns_made s held d _ _ _ c.size_of-size.ensures c.of-root.ensures
    (made_by _ _ c.from_fn.result here (λ i y q k. search (rules, tests)) places c.from_fn.ensures.items)
