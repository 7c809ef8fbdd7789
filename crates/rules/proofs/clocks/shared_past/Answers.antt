-- The clocks held are enough to ask: a number past them has the clock 0, which is past none. Assumes nothing.
use Rattle.std.proofs.Common.{ℕ, ◌≡◌, ◌+◌, suc, leb, ltb, rules, tests, arith, ap, sym, ◌∙◌}
use Rattle.std.specs.Int.{from_bool}
use Rattle.std.specs.List.{count_by}
use Rattle.std.proofs.lemmas.Bool.{le-ltb}
use Rattle.std.proofs.lemmas.Iterator.{YieldsList-from_map, YieldsList-from_slice}
use Rattle.std.proofs.lemmas.Iterator.Consumers.{YieldsList-at, sum_by_from_yields_List}
use Rattle.table.specs.declared.Epoch.{Epoch}
use Rattle.table.specs.Scan.{count}
use Rattle.pala.specs.Counts.{clock_of, quorum}
use Rattle.pala.specs.Rules.{reached, shared}
use Rattle.rules.proofs.Agreed.{count_list, sum_count}
use Rattle.rules.proofs.clocks.shared_past.Goals as goal

pub returns : goal.returns
unfolding shared reached clock_of
returns c =
    let a = c.args in
    let past = λ (e : Epoch). ltb a.c.0 e.0 in
    let items = c.clocks_of.result.now in
    let next : suc a.c.0 ≡ a.c.0 + 1 = omega arith in
    c.enough.ensures
    ∙ ap (leb (quorum a.s.now.n))
    (sum_by_from_yields_List (λ (e : Epoch). from_bool (past e)) items c.map.result _ c.sum-past.ensures.ran
    (YieldsList-from_map _ (λ (e : Epoch). from_bool (past e)) (YieldsList-at c.map.ensures.source (YieldsList-from_slice items cc)) c.map.ensures.closure (λ x r q k. search (rules, tests)))
    ∙ sum_count past items
    ∙ ap (count_by past) c.clocks_of.ensures.of_nodes
    ∙ sym (count_list past a.s.now.clocks (record { 0 = 0 }) (le-ltb a.c.0 0 (omega arith)) a.s.now.n)
    ∙ ap (λ (m : ℕ). count a.s.now.n (λ i. leb m (clock_of a.s.now.clocks i))) next)
