-- Each test of a hall's shape, in their order. Assumes nothing.
use Rattle.accord.specs.Head.{gateway, hall_shaped, honest_in}
use Rattle.hall.proofs.Seated.{hall_sound, shaped_low, shaped_most, shaped_some}
use Rattle.std.proofs.Common.{rules, tests, ◌≡◌, ◌&&◌, true}
use Rattle.table.proofs.Laws.{fails, not_both}
use Rattle.pala.proofs.Tests.{and_both, and_l, and_r}
use borrow.Author.Tests.{leb-true, le-leb}
use lib.Dec.{leb}
use mathlib.Core.Path.{sym, ◌∙◌}
use Rattle.hall.proofs.seats.hall_shaped.Goals as goal
use Rattle.hall.proofs.seats.hall_shaped.Goals.{then-contains, else-contains}

pub returns-then-none_from : goal.returns-then-none_from
unfolding honest_in gateway
returns-then-none_from c =
    elim c.if-contains.branch [
      | then-contains w ↦
          let n = c.args.h.now.n in
          let within : c.contains.result ≡ (leb 1 n && leb n 8) = search (rules, tests) in
          let y : (leb 1 n && leb n 8) ≡ true = sym within ∙ w.if-contains.true in
          c.all_shaped.ensures
          ∙ sym (hall_sound c.args.h.now (leb-true 1 n (and_l (leb 1 n) (leb n 8) y)) (leb-true n 8 (and_r (leb 1 n) (leb n 8) y))
          (sym w.none_from.ensures ∙ sym w.value-is ∙ c.if-none_from.true))
      | else-contains w ↦ absurd (not_both c.if-none_from.true (w.value-is ∙ w.if-contains.false))
    ]

pub returns-else-none_from : goal.returns-else-none_from
unfolding honest_in
returns-else-none_from c =
    let h = c.args.h.now in
    c.if-none_from.false
    ∙ sym
    (fails (hall_shaped h)
    (λ e.
    elim c.if-contains.branch [
      | then-contains w ↦ not_both (shaped_low h e) (sym w.none_from.ensures ∙ sym w.value-is ∙ c.if-none_from.false)
      | else-contains w ↦
          let within : c.contains.result ≡ (leb 1 h.n && leb h.n 8) = search (rules, tests) in
          not_both (and_both (leb 1 h.n) (leb h.n 8) (le-leb 1 h.n (shaped_some h e)) (le-leb h.n 8 (shaped_most h e))) (sym within ∙ w.if-contains.false)
    ]))
