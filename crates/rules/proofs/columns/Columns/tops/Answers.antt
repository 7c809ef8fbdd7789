-- What has won among the places passed. Assumes nothing.
use Rattle.std.proofs.Common.{ℕ, ◌≡◌, ◌-◌, ◌&&◌, ◌||◌, leb, eqb, min, ap, sym, subst, ◌∙◌, arith}
use Rattle.std.proofs.lemmas.Bool.Decides.{nat_tests}
use Rattle.table.specs.Scan.{pick}
use Rattle.table.proofs.Laws.{not_both, pick_yes, pick_no}
use Rattle.pala.proofs.Tests.{nor_l, nor_r}
use Rattle.rules.specs.Columns.{places, epoch_in, mark_in, up_in, normal_by}
use Rattle.rules.specs.declared.Top.{Top}
use Rattle.rules.proofs.Tops.{Scanned, scanned_start, scanned_end, scanned_passed, scanned_won}
use Rattle.rules.proofs.columns.Columns.tops.Goals as goal
use Rattle.rules.proofs.columns.Columns.tops.Goals.{Joined-le, Joined-fresher, Joined-fresher-2, then-fresher, else-fresher, then-fresher-2, else-fresher-2, else-later-via-then-later+else-firm, else-later-via-else-later, then-le+then-k-eq0, then-le+else-k-eq0, else-le}

-- is the block at hand no earlier than the latest normal one, and normal, or the genesis
later-is : (c : Joined-le)
    → let a = c.args.self.now in
    let k = c.loop-k.k - 1 in
    c.if-le.later ≡ (leb c.loop-k.normal.epoch.0 (epoch_in a k) && (eqb k 0 || normal_by (up_in a) (epoch_in a) k))
later-is c =
    let here : c.top-here.result.epoch.0 ≡ epoch_in c.args.self.now (c.loop-k.k - 1) = ap (λ (t : Top). t.epoch.0) c.top-here.ensures in
    elim c.if-le.branch [ then-le+then-k-eq0 w ↦ grind (arith, nat_tests) | then-le+else-k-eq0 w ↦ grind (arith, nat_tests) | else-le w ↦ grind (arith, nat_tests) ]

fresher-is : (c : Joined-le) → c.le-fresher.result ≡ leb c.loop-k.fresh.epoch.0 (epoch_in c.args.self.now (c.loop-k.k - 1))
fresher-is c =
    let here : c.top-here.result.epoch.0 ≡ epoch_in c.args.self.now (c.loop-k.k - 1) = ap (λ (t : Top). t.epoch.0) c.top-here.ensures in
    grind (arith, nat_tests)

either-is : (c : Joined-fresher) → c.if-fresher.value ≡ (c.le-fresher.result || c.if-le.later)
either-is c = elim c.if-fresher.branch [ then-fresher w ↦ grind (arith, nat_tests) | else-fresher w ↦ grind (arith, nat_tests) ]

fresh-is : (c : Joined-fresher-2) → c.if-fresher-2.fresh ≡ pick c.le-fresher.result c.top-here.result c.loop-k.fresh
fresh-is c =
    elim c.if-fresher-2.branch [
      | then-fresher-2 w ↦ w.fresh-is ∙ sym (pick_yes _ _ _ w.if-fresher-2.true)
      | else-fresher-2 w ↦ w.fresh-is ∙ sym (pick_no _ _ _ w.if-fresher-2.false)
    ]

pub loop-k-init : goal.loop-k-init
loop-k-init c = rw c.min-k.ensures (scanned_start _ _ _ _ _ c.top-fresh.ensures)

pub loop-k-preserved : goal.loop-k-preserved
loop-k-preserved c =
    let at = goal.at.loop-k-preserved c in
    scanned_passed _ _ _ _ _ _ _ c.top-here.result c.loop-k.invariant (omega arith) (omega arith) c.top-here.ensures _ _ (fresher-is at.Joined-le) (later-is at.Joined-le)
    (λ y.
    elim c.else-later.branch [
      | else-later-via-then-later+else-firm w ↦ absurd (not_both y (sym w.firm.ensures ∙ w.if-firm.false))
      | else-later-via-else-later w ↦
          let neither = sym (either-is at.Joined-fresher) ∙ w.if-later.false in (nor_l _ _ neither, nor_r _ _ neither)
    ])

pub loop-k-preserved-then-later-2 : goal.loop-k-preserved-then-later-2
loop-k-preserved-then-later-2 c =
    let at = goal.at.loop-k-preserved-then-later-2 c in
    scanned_won _ _ _ _ _ _ _ c.top-here.result c.loop-k.invariant (omega arith) (omega arith) c.top-here.ensures _ _ (fresher-is at.Joined-le) (later-is at.Joined-le)
    (sym c.firm.ensures ∙ c.if-firm.true) _ _ (fresh-is at.Joined-fresher-2) (sym (pick_yes _ _ _ c.if-later-2.true))

pub loop-k-preserved-else-later-2 : goal.loop-k-preserved-else-later-2
loop-k-preserved-else-later-2 c =
    let at = goal.at.loop-k-preserved-else-later-2 c in
    scanned_won _ _ _ _ _ _ _ c.top-here.result c.loop-k.invariant (omega arith) (omega arith) c.top-here.ensures _ _ (fresher-is at.Joined-le) (later-is at.Joined-le)
    (sym c.firm.ensures ∙ c.if-firm.true) _ _ (fresh-is at.Joined-fresher-2) (sym (pick_no _ _ _ c.if-later-2.false))

pub returns : goal.returns
returns c =
    let a = c.args.self.now in
    let none : c.loop-k.k ≡ 0 = omega arith in
    scanned_end (up_in a) (epoch_in a) (mark_in a) (min a.size places) _ _ (subst (λ (k : ℕ). Scanned (up_in a) (epoch_in a) (mark_in a) (min a.size places) k c.loop-k.fresh c.loop-k.normal) none c.loop-k.invariant)
