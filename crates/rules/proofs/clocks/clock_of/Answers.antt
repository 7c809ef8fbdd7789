-- The best of the local epoch and the clocks passed. Assumes nothing.
use Rattle.std.proofs.Common.{ℕ, ◌<◌, ◌≤◌, arith, ap, sym, max, get_or, ◌∙◌}
use Rattle.std.proofs.lemmas.Bool.Decides.{nat_tests}
use Rattle.table.specs.declared.Epoch.{Epoch}
use Rattle.table.specs.Scan.{greatest}
use Rattle.pala.proofs.Clocks.{unshared_above}
use Rattle.rules.proofs.Agreed.{agreed-of, best_in, turn_raised, turn_stays}
use Rattle.rules.proofs.clocks.clock_of.Goals as goal
use Rattle.rules.proofs.clocks.clock_of.Goals.{then-lt+then-shared_past-2, else-lt, else-lt-via-then-lt+else-shared_past-2, else-lt-via-else-lt}

pub loop-c-init : goal.loop-c-init
unfolding greatest
loop-c-init c = omega arith

pub loop-c-preserved : goal.loop-c-preserved
loop-c-preserved c =
    let s = c.args.s.now in
    let all = c.clocks_of-c-items in
    let here : ℕ = (get_or all.result.now c.loop-c.c-index (record { 0 = 0 })).0 in
    let stays = turn_stays s.n s.clocks all.result.now all.ensures.of_nodes c.loop-c.c-index c.loop-c-test.true _ _ c.loop-c.invariant in
    elim c.if-lt.branch [
      | then-lt+then-shared_past-2 w ↦
          let above : c.loop-c.best.0 < here = grind (arith, nat_tests) in
          ap (λ (e : Epoch). e.0) w.best-is
          ∙ turn_raised s.n s.clocks all.result.now all.ensures.of_nodes c.loop-c.c-index c.loop-c-test.true _ _ c.loop-c.invariant above
          (sym w.shared_past-then-lt.ensures ∙ w.if-shared_past-2.true)
      | else-lt w ↦
          ap (λ (e : Epoch). e.0) w.best-is
          ∙ elim w.else-lt.branch [
            | else-lt-via-then-lt+else-shared_past-2 v ↦ stays (λ _. sym v.shared_past-then-lt.ensures ∙ v.if-shared_past-2.false)
            | else-lt-via-else-lt v ↦ let low : here ≤ c.loop-c.best.0 = grind (arith, nat_tests) in stays (λ h. absurd (omega arith))
          ]
    ]

pub returns-after-loop-c : goal.returns-after-loop-c
returns-after-loop-c c =
    let s = c.args.s.now in
    let all = c.clocks_of-c-items in
    ap (λ (e : ℕ). record { 0 = e })
    (c.loop-c.invariant
    ∙ ap (max s.local.0) (ap (best_in s.n s.clocks) (omega arith) ∙ agreed-of s.n s.clocks all.result.now all.ensures.of_nodes))

pub returns-else-shared_past : goal.returns-else-shared_past
returns-else-shared_past c =
    let s = c.args.s.now in
    let few = unshared_above s.n s.clocks s.local.0 (sym c.shared_past.ensures ∙ c.if-shared_past.false) in
    ap (λ (e : ℕ). record { 0 = e }) (omega (arith, few))
