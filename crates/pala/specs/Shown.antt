-- Demand 3 for what reaches a reader: the bytes that the final-list function writes, and those that two runs of the firmware write.
use Rattle.std.specs.Prelude.{ℕ, ◌*◌, ◌%◌, ◌<◌, ◌≡◌, Bool, true, false, List, [], ◌∷◌, eqb, length, take}
use Rattle.table.specs.Rows.{name_bytes}
use Rattle.pala.specs.Record.{record_bytes}
use Rattle.pala.specs.Lists.{Listed, final_list}
use Rattle.pala.specs.Run.{Ran, stretches, run}
use Rattle.pala.specs.Safety.{Run, event_at, state_at, Honest, Premises, OneBegins}

-- the names in a list buffer: as many as were counted; a refusal counts none
abbrev pub written : Listed → List ℕ
written l = take (name_bytes * l.count) l.list

-- of the lists that two honest gateways write, into whatever buffers, one begins the other
abbrev pub SafeLists : Type 0
SafeLists =
    (n : ℕ) (honest : ℕ → Bool) (run : Run) → Premises n honest run
    → (i j a b : ℕ) → Honest n honest i → Honest n honest j → (x y : List ℕ)
    → OneBegins (written (final_list (state_at n run a i) x)) (written (final_list (state_at n run b j) y))

-- the records that gateway i was put
unfoldable pub records_of : ℕ → Run → List (List ℕ)
records_of i [] = []
records_of i (e ∷ more) = elim (eqb e.to i) [ true ↦ e.bytes ∷ records_of i more | false ↦ records_of i more ]

-- a slice holds the records of gateway i by a moment, and each came with a whole out buffer
pub record PlayedBy (run : Run) (m i : ℕ) (slice : List ℕ) : Type 0 where
  pub records : records_of i (take m run) ≡ stretches slice
  pub buffers : (k : ℕ) → k < m → k < length run → (event_at run k).to ≡ i → length (event_at run k).buffer ≡ record_bytes

-- "The answer is refusal x 65,536 + count of final names": the names that a run wrote
abbrev pub ran_written : Ran → List ℕ
ran_written r = take (name_bytes * (r.code % 65536)) r.list

-- of the lists that the firmware of two honest gateways writes, one begins the other
abbrev pub SafeRuns : Type 0
SafeRuns =
    (n : ℕ) (honest : ℕ → Bool) (events : Run) → Premises n honest events
    → (i j a b : ℕ) → Honest n honest i → Honest n honest j
    → (p q : List ℕ) → PlayedBy events a i p → PlayedBy events b j q → (x y : List ℕ)
    → OneBegins (ran_written (run n i p x)) (ran_written (run n j q y))
