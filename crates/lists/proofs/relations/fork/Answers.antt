-- The first name that differs, of those that both lists have. Assumes nothing.
use Rattle.std.proofs.Common.{rules, ap, arith, length, sym, ◌∙◌}
use borrow.Author.Count.{below_more}
use Rattle.lists.proofs.Sides.{fork_at, name-length, no_fork}
use Rattle.lists.proofs.relations.fork.Goals as goal

pub same_name-requires : goal.same_name-requires
same_name-requires c =
    let a = c.args.a.now in
    let b = c.args.b.now in
    ap length c.name_at.ensures ∙ name-length a c.loop-k.k (omega arith) ∙ sym (name-length b c.loop-k.k (omega arith)) ∙ ap length (sym c.name_at-in-loop-k.ensures)

pub returns-then-not-same_name : goal.returns-then-not-same_name
returns-then-not-same_name c = fork_at c.args.a.now c.args.b.now c.loop-k.k (omega arith) (search rules) c.loop-k.invariant

pub loop-k-preserved : goal.loop-k-preserved
loop-k-preserved c = below_more _ _ c.loop-k.invariant (search rules)

pub returns : goal.returns
returns c = no_fork c.args.a.now c.args.b.now (λ i l. c.loop-k.invariant i (omega arith))
