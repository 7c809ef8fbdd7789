-- What is decided of a record to an honest node.
use Rattle.std.specs.Prelude.{ℕ, ◌≡◌, true, List, Result, Ok, Err}
use Rattle.table.specs.Scan.{pick}
use Rattle.table.specs.declared.State.{State}
use Rattle.pala.specs.Shape.{well_shaped}
use Rattle.node.specs.declared.Decision.{Decision}
use Rattle.node.specs.Moves.{decision}
use Rattle.accord.specs.declared.Hall.{Hall}
use Rattle.accord.specs.declared.Verdict.{Verdict}
use Rattle.accord.specs.Head.{gateway, honest_in}
use Rattle.accord.specs.Rulings.{passes}

-- the receiver is honest, s is its state, which is well shaped, and d was decided there
pub record Decided (h : Hall) (to : ℕ) (r : List ℕ) (s : State) (d : Decision) : Type 0 where
  pub honest : honest_in h to ≡ true
  pub own : s ≡ gateway h to
  pub shaped : well_shaped s ≡ true
  pub by : d ≡ decision s r

-- a verdict that passes, and one that refuses
unfoldable pub judged : Verdict → Result (Unit {0}) Verdict
unfolding pick passes
judged v = pick (passes v) (Ok tt) (Err v)
