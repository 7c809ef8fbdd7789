-- The number for C: an index is below the names of a slice, so it leaves room for the relation's number. Assumes nothing.
use Rattle.std.proofs.Common.{ap, arith, sym, ◌∙◌}
use Rattle.lists.proofs.Sides.{relation_index_lem}
use Rattle.pala.specs.Lists.{relation_code, relation_index}
use Rattle.table.specs.declared.Relation.{Relation}
use Rattle.lists.proofs.relations.code.Goals as goal

pub overflow_add-result : goal.overflow_add-result
unfolding relation_index
overflow_add-result c =
    let a = c.args in
    omega (arith, ap (λ (x : Relation). relation_index x) (sym c.in-Fork.is ∙ c.relation.ensures), relation_index_lem a.a.now a.b.now)

pub returns-in-Equal : goal.returns-in-Equal
unfolding relation_code
returns-in-Equal c = ap (λ (x : Relation). relation_code x) (sym c.in-Equal.is ∙ c.relation.ensures)

pub returns-in-FirstLonger : goal.returns-in-FirstLonger
unfolding relation_code
returns-in-FirstLonger c = ap (λ (x : Relation). relation_code x) (sym c.in-FirstLonger.is ∙ c.relation.ensures)

pub returns-in-SecondLonger : goal.returns-in-SecondLonger
unfolding relation_code
returns-in-SecondLonger c = ap (λ (x : Relation). relation_code x) (sym c.in-SecondLonger.is ∙ c.relation.ensures)

pub returns-in-Fork : goal.returns-in-Fork
unfolding relation_code
returns-in-Fork c = ap (λ (x : Relation). relation_code x) (sym c.in-Fork.is ∙ c.relation.ensures)

pub returns-in-Broken : goal.returns-in-Broken
unfolding relation_code
returns-in-Broken c = ap (λ (x : Relation). relation_code x) (sym c.in-Broken.is ∙ c.relation.ensures)
