-- A record that is taken: its direct effect and then the five steps; one that is refused changes nothing. Assumes nothing.
use Rattle.node.proofs.Calls.{granted, granted_fresh, same_state, bare_state, next_state}
use Rattle.pala.proofs.Playing.{Playable, step_playable, names_stay}
use Rattle.pala.specs.Lists.{final_names}
use Rattle.pala.specs.Run.{lent}
use Rattle.pala.specs.Shape.{well_shaped}
use Rattle.pala.specs.Steps.{settled}
use Rattle.table.specs.declared.State.{State}
use mathlib.Core.Path.{refl, sym, ap, ◌∙◌}
use Rattle.node.proofs.take_shaped.Goals as goal

pub returns-in_default : goal.returns-in_default
returns-in_default c = record { step = λ r e. same_state _ r e c.requires.0 c.in_default.is-1; shaped = c.requires.0; names = λ k. refl }

pub returns-in_default-2 : goal.returns-in_default-2
returns-in_default-2 c = record { step = λ r e. bare_state _ r e c.requires.0 c.in_default.is-0; shaped = c.requires.0; names = λ k. refl }

pub apply-requires : goal.apply-requires
apply-requires c = record { shaped = c.requires.0; granted = (_, granted _ _ c.requires.1.1 c.in-Some-Ok.is-1 c.in-Some-Ok.is-0) }

pub settle-requires : goal.settle-requires
settle-requires c =
    let g = granted _ _ c.requires.1.1 c.in-Some-Ok.is-1 c.in-Some-Ok.is-0 in
    granted_fresh c.apply.ensures.rows c.requires.0 g (c.apply.ensures.done _ g)

pub returns : goal.returns
returns c =
    let verdict = c.in-Some-Ok.is-1 in
    let fields = c.in-Some-Ok.is-0 in
    let e = c.requires.1.1 in
    let next = c.settle.ensures ∙ ap settled (c.apply.ensures.done _ (granted _ _ e verdict fields)) ∙ next_state _ _ e c.requires.0 verdict in
    let from : Playable c.args.s.now = record { places = c.apply.ensures.rows; shaped = c.requires.0 } in
    record {
      step = λ r d. c.settle.ensures ∙ ap settled (c.apply.ensures.done r (granted _ r d verdict fields)) ∙ next_state _ r d c.requires.0 verdict;
      shaped = ap well_shaped next ∙ (step_playable _ _ lent from).shaped;
      names = λ k. ap final_names next ∙ names_stay _ _ lent from (ap (λ (x : State). x.kept.0) (sym next) ∙ k);
    }
