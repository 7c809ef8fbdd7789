-- A parent that is lower, else the genesis. Assumes nothing.
use Rattle.std.proofs.Common.{arith, ap, sym, ltb, ℕ}
use Rattle.std.proofs.lemmas.Bool.Decides.{nat_tests}
use Rattle.table.proofs.Laws.{pick_yes, pick_no}
use Rattle.std.proofs.Common.{◌≡◌, true, false}
use Rattle.table.proofs.rows.lower.Goals as goal

pub returns-then-lt : goal.returns-then-lt
returns-then-lt c =
    let up = c.args.up.0 in
    let yes : ltb up c.args.p.0 ≡ true = grind (arith, nat_tests) in
    sym (ap (λ (w : ℕ). record { 0 = w }) (pick_yes _ up 0 yes))

pub returns-else-lt : goal.returns-else-lt
returns-else-lt c =
    let up = c.args.up.0 in
    let no : ltb up c.args.p.0 ≡ false = grind (arith, nat_tests) in
    sym (ap (λ (w : ℕ). record { 0 = w }) (pick_no _ up 0 no))
