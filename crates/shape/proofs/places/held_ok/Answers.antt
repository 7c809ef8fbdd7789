-- The blocks held are in order. Assumes nothing.
use Rattle.std.proofs.Common.{arith, ◌||◌, eqb, ◌+◌, ◌≡◌, ◌∙◌, refl, rules}
use Rattle.std.specs.List.{list_all, range_with_len}
use Rattle.std.proofs.lemmas.Iterator.{YieldsList-from_range}
use Rattle.std.proofs.lemmas.Iterator.Search.{all_from_yields_List}
use borrow.Author.Tests.{tests}
use Rattle.shape.proofs.Laws.{held-is}
use Rattle.shape.specs.Parts.{row_ok}
use Rattle.table.specs.Rows.{rows}
use Rattle.shape.proofs.places.held_ok.Goals as goal

pub returns : goal.returns
returns c =
    let s = c.args.s.now in
    let all : c.all.result ≡ list_all (λ p. eqb p 0 || row_ok s.n (rows s) p) (range_with_len 0 (s.count + 1)) = all_from_yields_List (λ p. eqb p 0 || row_ok s.n (rows s) p) _ _ _ c.all.ensures.ran (YieldsList-from_range 0 (s.count + 1) _ refl (omega arith)) (λ x b q k. search (rules, tests)) in
    all ∙ held-is s
