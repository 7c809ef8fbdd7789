-- How many names: those counted, and those up to the place that is left. The measure is the place. Assumes nothing.
use Rattle.std.proofs.Common.{Fits, w32}
use Prim.Native.Nat.{ℕ}
use Rattle.lists.proofs.Readings.{next_place}
use Rattle.pala.proofs.Finals.{finals_are, names_le, names_up_length, names_zero, names_to}
use Rattle.pala.proofs.Places.{parent_below}
use Rattle.pala.specs.Rules.{parent_of}
use Rattle.table.specs.Rows.{rows}
use Rattle.table.specs.declared.Place.{Place}
use borrow.Author.Rules.{rules}
use lib.ListN.{length}
use mathlib.Core.Path.{◌≡◌, ap, refl}
use native.Mathlib.Decide.{ℕ_discrete}
use native.Mathlib.Omega.{arith}
use Rattle.lists.proofs.finals.final_count.Goals as goal
use Rattle.lists.proofs.finals.final_count.Goals.{After-lower-p}

-- a turn goes on at the parent
next : (c : After-lower-p) → c.lower-p.result.0 ≡ parent_of (rows c.args.s.now) c.loop-p.p.0
next c = next_place (rows c.args.s.now) c.loop-p.p.0 _ c.at.ensures _ c.lower-p.ensures

-- the kept place fits, as the first place did
fits : (c : After-lower-p) → Fits w32 c.args.s.now.kept.0
fits c =
    let here : Fits w32 c.loop-p.p.0 = search rules in
    elim (ℕ_discrete c.loop-p.n 0) [
      | yes e ↦ rw (ap (λ (p : Place). p.0) (c.loop-p.invariant.first e)) at here
      | no e ↦ c.loop-p.invariant.fits (omega arith)
    ]

pub loop-p-init : goal.loop-p-init
loop-p-init c = record {
  counted = omega (arith, ap length (finals_are c.args.s.now));
  first = λ _. refl;
  fits = λ l. absurd (omega arith);
}

pub overflow_add-n : goal.overflow_add-n
overflow_add-n c =
    let s = c.args.s.now in
    let kept = fits (goal.at.overflow_add-n c).After-lower-p in
    omega (arith, names_up_length (rows s) c.loop-p.p.0 (omega arith), names_le (rows s) s.kept.0, ap length (finals_are s))

pub loop-p-smaller : goal.loop-p-smaller
loop-p-smaller c =
    omega (arith, next (goal.at.loop-p-smaller c).After-lower-p, parent_below (rows c.args.s.now) c.loop-p.p.0 (omega arith))

pub loop-p-preserved : goal.loop-p-preserved
loop-p-preserved c =
    let t = rows c.args.s.now in
    let at = (goal.at.loop-p-preserved c).After-lower-p in
    record {
      counted = omega (arith, ap (λ (p : ℕ). length (names_to t p)) (next at), names_up_length t c.loop-p.p.0 (omega arith));
      first = λ e. absurd (omega arith);
      fits = λ _. fits at;
    }

pub returns : goal.returns
returns c =
    let t = rows c.args.s.now in
    let none : c.loop-p.p.0 ≡ 0 = omega arith in
    omega (arith, ap (λ (p : ℕ). length (names_to t p)) none, ap length (names_zero t))
