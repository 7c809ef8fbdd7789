-- The block of that name is asked what it stands for. Assumes nothing.
use Rattle.accord.specs.Rulings.{Content, alike, content_at, otherwise}
use Rattle.hall.proofs.Named.{alike_is, named_none, named_some, one_named}
use Rattle.std.proofs.Common.{◌≡◌, ◌∙◌, ◌&&◌, Bool, false, sym, ap, subst, ℕ, not}
use Rattle.table.specs.Rows.{find, rows}
use Rattle.table.specs.declared.State.{State}
use Rattle.hall.proofs.judging.otherwise.Goals as goal

-- another block than one of that content
differs : State → Content → ℕ → Bool
differs s d p = not (alike (content_at (rows s) p) d)

pub returns-in_default : goal.returns-in_default
unfolding otherwise differs
returns-in_default c =
    let s = c.s.inside.state.now in
    let name = c.args.name.now in
    let d : Content = record { epoch = c.args.c.now.epoch.0; parent = c.args.c.now.parent.now; payload = c.args.c.now.payload.now } in
    subst (λ (t : State). false ≡ otherwise (rows t) name d) c.s.view_is
    (sym
    (one_named s c.s.invariant name (differs s d)
    ∙ ap (λ (b : Bool). b && differs s d (find (rows s) name)) (named_none (rows s) name (sym c.in_default.is ∙ c.block_named.ensures))))

pub returns : goal.returns
unfolding otherwise differs
returns c =
    let s = c.s.inside.state.now in
    let name = c.args.name.now in
    let d : Content = record { epoch = c.args.c.now.epoch.0; parent = c.args.c.now.parent.now; payload = c.args.c.now.payload.now } in
    let here = named_some (rows s) name (sym c.in-Some.is ∙ c.block_named.ensures) in
    subst (λ (t : State). c.ne.result ≡ otherwise (rows t) name d) c.s.view_is
    (c.ne.ensures
    ∙ ap not (alike_is (record { epoch = c.content_at.result.epoch.0; parent = c.content_at.result.parent.now; payload = c.content_at.result.payload.now }) d)
    ∙ ap (λ (x : Content). not (alike x d)) c.content_at.ensures
    ∙ sym
    (one_named s c.s.invariant name (differs s d)
    ∙ ap (λ (b : Bool). b && differs s d (find (rows s) name)) here.0
    ∙ ap (differs s d) here.1))
