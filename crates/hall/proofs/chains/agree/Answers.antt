-- Each honest list and the longest before it. Assumes nothing.
use Rattle.accord.specs.Head.{gateway, honest_in, most_gateways}
use Rattle.accord.specs.Words.{one_begins}
use Rattle.hall.proofs.Agreeing.{Longest, list_here, longest_all, longest_new, longest_silent, longest_still, longest-forks}
use Rattle.hall.proofs.Named.{pick_none, pick_some}
use Rattle.hall.specs.declared.chains.List.{List as FinalList}
use Rattle.std.proofs.Common.{arith, ◌≡◌, ◌∙◌, sym, ap, subst, ℕ, ◌+◌, take}
use Rattle.hall.proofs.chains.agree.Goals as goal
use Rattle.hall.proofs.chains.agree.Goals.{in-Some+else-not-one_begins+then-most-names, in-Some+else-not-one_begins+else-most-names, in_default}

pub returns-then-not-one_begins : goal.returns-then-not-one_begins
returns-then-not-one_begins c =
    let h = c.args.h.now in
    let i = c.loop-i.i in
    let own = pick_some (honest_in h i) (gateway h i) c.in-Some.ensures.told in
    let here = list_here h i own.1 (c.names-names.ensures ∙ c.of-list.ensures) in
    longest-forks c.loop-i.invariant own.0 here c.loop-i-test.true (ap (one_begins c.names-names.result.now) (sym c.names-most.ensures) ∙ sym c.one_begins.ensures ∙ c.if-not-one_begins.true)

pub loop-i-preserved : goal.loop-i-preserved
loop-i-preserved c =
    let h = c.args.h.now in
    let i = c.loop-i.i in
    let next : FinalList → Type 0 = λ l. Longest h (i + 1) (take l.length l.room) in
    elim c.match-honest.branch [
      | in-Some+else-not-one_begins+then-most-names w ↦
          let own = pick_some (honest_in h i) (gateway h i) w.in-Some.ensures.told in
          let here = list_here h i own.1 (w.names-names.ensures ∙ w.of-list.ensures) in
          subst next (sym w.longest-is)
          (subst (Longest h (i + 1)) (w.names-names.ensures)
          (longest_new (subst (Longest h i) (sym w.names-most.ensures) c.loop-i.invariant) own.0 here (sym w.one_begins.ensures ∙ w.if-not-one_begins.false) w.if-most-names.true))
      | in-Some+else-not-one_begins+else-most-names w ↦
          let own = pick_some (honest_in h i) (gateway h i) w.in-Some.ensures.told in
          let here = list_here h i own.1 (w.names-names.ensures ∙ w.of-list.ensures) in
          subst next (sym w.longest-is)
          (subst (Longest h (i + 1)) w.names-most.ensures
          (longest_still (subst (Longest h i) (sym w.names-most.ensures) c.loop-i.invariant) own.0 here (sym w.one_begins.ensures ∙ w.if-not-one_begins.false) w.if-most-names.false))
      | in_default w ↦ subst next (sym w.longest-is) (longest_silent c.loop-i.invariant (pick_none (honest_in h i) (gateway h i) (sym w.in_default.is ∙ c.honest.ensures.told)))
    ]

pub returns : goal.returns
returns c =
    let end : c.loop-i.i ≡ most_gateways = omega arith in
    longest_all (subst (λ (k : ℕ). Longest c.args.h.now k (take c.loop-i.longest.length c.loop-i.longest.room)) end c.loop-i.invariant)
