-- Either begins the other. Assumes nothing.
use Rattle.accord.specs.Words.{begins, one_begins}
use Rattle.std.proofs.Common.{Bool, ◌||◌, ◌∙◌, sym, ap, length, take}
use Rattle.table.proofs.Laws.{pointwise-same}
use Rattle.hall.proofs.chains.one_begins.Goals as goal

pub returns-then-starts_with : goal.returns-then-starts_with
unfolding one_begins begins
returns-then-starts_with c =
    let a = c.args.a.now in
    let b = c.args.b.now in
    c.if-starts_with.true ∙ sym (ap (λ (t : Bool). t || begins b a) (sym (pointwise-same a (take (length a) b)) ∙ sym c.starts_with.ensures.value ∙ c.if-starts_with.true))

pub returns-else-starts_with : goal.returns-else-starts_with
unfolding one_begins begins
returns-else-starts_with c =
    let a = c.args.a.now in
    let b = c.args.b.now in
    c.starts_with-else-starts_with.ensures.value
    ∙ pointwise-same b (take (length b) a)
    ∙ sym (ap (λ (t : Bool). t || begins b a) (sym (pointwise-same a (take (length a) b)) ∙ sym c.starts_with.ensures.value ∙ c.if-starts_with.false))
