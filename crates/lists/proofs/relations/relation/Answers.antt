-- The relation: each answer says of the two lists what the tests showed. Assumes nothing.
use Rattle.std.proofs.Common.{arith, length, sym, ◌∙◌, ◌≡◌, ◌<◌}
use Rattle.std.proofs.lemmas.Bool.Decides.{nat_tests}
use Rattle.lists.proofs.Sides.{agreeing-le, fork_none, fork_some, relation-is}
use Rattle.table.specs.declared.Relation.{Relation}
use Rattle.lists.proofs.relations.relation.Goals as goal
use Rattle.lists.proofs.relations.relation.Goals.{then-a-ne0-via-then-a-ne0, then-a-ne0-via-else-a-ne0+then-b-ne0}

pub returns-then-a-ne0 : goal.returns-then-a-ne0
returns-then-a-ne0 c =
    sym (relation-is _ _ Relation.Broken
    (λ h.
    elim c.then-a-ne0.branch [
      | then-a-ne0-via-then-a-ne0 w ↦ w.if-a-ne0.true h.0
      | then-a-ne0-via-else-a-ne0+then-b-ne0 w ↦ w.if-b-ne0.true h.1
    ]))

pub returns-in-Some : goal.returns-in-Some
returns-in-Some c =
    let fork = fork_some _ _ c.in-Some.k (sym c.in-Some.is ∙ c.fork.ensures) in
    sym (relation-is _ _ (Relation.Fork c.in-Some.k) ((c.if-a-ne0.false, c.if-b-ne0.false), fork.0, fork.1))

pub returns-in-Equal : goal.returns-in-Equal
returns-in-Equal c =
    let a = c.args in
    let lengths : length a.a.now ≡ length a.b.now = grind (arith, nat_tests) in
    let none = fork_none _ _ (sym c.in_default.is ∙ c.fork.ensures) in
    sym (relation-is _ _ Relation.Equal (((c.if-a-ne0.false, c.if-b-ne0.false), omega (arith, agreeing-le a.a.now a.b.now)), lengths))

pub returns-in-Greater : goal.returns-in-Greater
returns-in-Greater c =
    let a = c.args in
    let lengths : length a.b.now < length a.a.now = grind (arith, nat_tests) in
    let none = fork_none _ _ (sym c.in_default.is ∙ c.fork.ensures) in
    sym (relation-is _ _ Relation.FirstLonger (((c.if-a-ne0.false, c.if-b-ne0.false), omega (arith, agreeing-le a.a.now a.b.now)), lengths))

pub returns-in-Less : goal.returns-in-Less
returns-in-Less c =
    let a = c.args in
    let lengths : length a.a.now < length a.b.now = grind (arith, nat_tests) in
    let none = fork_none _ _ (sym c.in_default.is ∙ c.fork.ensures) in
    sym (relation-is _ _ Relation.SecondLonger (((c.if-a-ne0.false, c.if-b-ne0.false), omega (arith, agreeing-le a.a.now a.b.now)), lengths))
