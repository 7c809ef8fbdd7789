-- Demand 3 as firmware sees it: the relation of what two honest gateways wrote.
use Rattle.std.specs.Prelude.{ℕ, ◌≤◌, Bool, List}
use Rattle.pala.specs.Lists.{relation, relation_number}
use Rattle.pala.specs.Run.{run}
use Rattle.pala.specs.Safety.{Run, Honest, Premises}
use Rattle.pala.specs.Shown.{PlayedBy, ran_written}

-- of the lists that the firmware of two honest gateways writes the relation is never "3 fork", nor "4 a length that isn't a multiple of 32"
abbrev pub NeverForks : Type 0
NeverForks =
    (n : ℕ) (honest : ℕ → Bool) (events : Run) → Premises n honest events
    → (i j a b : ℕ) → Honest n honest i → Honest n honest j
    → (p q : List ℕ) → PlayedBy events a i p → PlayedBy events b j q → (x y : List ℕ)
    → relation_number (relation (ran_written (run n i p x)) (ran_written (run n j q y))) ≤ 2
