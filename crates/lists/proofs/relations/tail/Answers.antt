-- The tail: of the longer list what it has more, else the empty start of the first. Assumes nothing.
use Rattle.std.proofs.Common.{arith, sym, ◌∙◌}
use mathlib.Core.Logic.{inl, inr, ⊎_elim}
use Rattle.lists.proofs.Sides.{empty_tail, first_longer, first_tail, second_longer, second_tail}
use Rattle.lists.proofs.relations.tail.Goals as goal

pub slice_bounds-result-count : goal.slice_bounds-result-count
slice_bounds-result-count c =
    let a = c.args in
    omega (arith, first_longer a.a.now a.b.now (sym c.relation.ensures ∙ c.in-FirstLonger.is))

pub slice_bounds-result-start : goal.slice_bounds-result-start
slice_bounds-result-start c =
    let a = c.args in
    omega (arith, first_longer a.a.now a.b.now (sym c.relation.ensures ∙ c.in-FirstLonger.is))

pub slice_bounds-result-count-in-SecondLonger : goal.slice_bounds-result-count-in-SecondLonger
slice_bounds-result-count-in-SecondLonger c =
    let a = c.args in
    omega (arith, second_longer a.a.now a.b.now (sym c.relation.ensures ∙ c.in-SecondLonger.is))

pub slice_bounds-result-start-in-SecondLonger : goal.slice_bounds-result-start-in-SecondLonger
slice_bounds-result-start-in-SecondLonger c =
    let a = c.args in
    omega (arith, second_longer a.a.now a.b.now (sym c.relation.ensures ∙ c.in-SecondLonger.is))

pub returns-in-FirstLonger : goal.returns-in-FirstLonger
returns-in-FirstLonger c = let e = first_tail _ _ _ _ _ c.relation.ensures c.in-FirstLonger.is in record { result_value = e.0; ref_ptr_value = e.1 }

pub returns-in-SecondLonger : goal.returns-in-SecondLonger
returns-in-SecondLonger c = let e = second_tail _ _ _ _ _ c.relation.ensures c.in-SecondLonger.is in record { result_value = e.0; ref_ptr_value = e.1 }

pub returns-in-Equal : goal.returns-in-Equal
returns-in-Equal c = let e = empty_tail _ _ _ _ _ c.relation.ensures (⊎_elim inl (λ f. inr (inl f)) c.in-Equal.is) in record { result_value = e.0; ref_ptr_value = e.1 }

pub returns-in-Broken : goal.returns-in-Broken
returns-in-Broken c = let e = empty_tail _ _ _ _ _ c.relation.ensures (inr (inr c.in-Broken.is)) in record { result_value = e.0; ref_ptr_value = e.1 }
