-- Two runs, computed. Not empty: four gateways, one of them faulty, meet every premise and show final chains. Sharp: with a third
-- faulty, every other premise met, two honest gateways show chains of which neither begins the other. Assumes nothing.
use Prim.Native.Nat.{ℕ, ◌*◌}
use mathlib.Core.Bool.{Bool, true, false, not, ◌&&◌}
use mathlib.Core.List.{List, [], ◌∷◌, ◌++◌}
use mathlib.Core.Logic.{inl, inr}
use mathlib.Core.Path.{◌≡◌, refl, ap, subst₂}
use native.Mathlib.Omega.{arith}
use lib.Dec.{eqb, ltb}
use lib.ListN.{length, get_or}
use Rattle.table.specs.Scan.{pick, count, all_below}
use Rattle.table.specs.Bytes.{same}
use Rattle.table.specs.declared.State.{State}
use Rattle.pala.specs.Answers.{taken}
use Rattle.pala.specs.Cases.{letter, hear, vote, clock, A, B, C, A'}
use Rattle.pala.specs.Counts.{no_name, no_payload}
use Rattle.pala.specs.Record.{message, propose_now, cast_now, minute_up}
use Rattle.pala.specs.Run.{lent}
use Rattle.pala.specs.Step.{step, start}
use Rattle.pala.specs.Safety.{Event, Run, Honest, NoForgedVote, OneBlockOneName, Book, shown_at, OneBegins}
use Rattle.pala.specs.Events.{EachTaken, EventPremises}
use Rattle.witness.proofs.Checked.{event_test, each_tested}
use Rattle.pala.proofs.Demand.Events.{cast_by_event, fits_by_event, by_event}
use Rattle.pala.proofs.Demand.Safety.{safe}

-- gateway i is put a record
unfoldable pub put : ℕ → List ℕ → Event
unfolding lent
put i r = record { to = i; bytes = r; buffer = lent }

-- gateway i is asked to propose a block, to cast a vote, and told that the minute is up
unfoldable pub propose : ℕ → List ℕ → Event
unfolding put message
propose i name = put i (message propose_now i 0 name no_name no_payload)

unfoldable pub casts : ℕ → Event
unfolding put message
casts i = put i (message cast_now i 0 no_name no_name no_payload)

unfoldable pub minute : ℕ → Event
unfolding put message
minute i = put i (message minute_up i 0 no_name no_name no_payload)

-- does gateway i, from state s on, take every record that it is put
unfoldable pub takes_all : ℕ → State → Run → Bool
unfolding taken step
takes_all i s [] = true
takes_all i s (e ∷ more) =
    let o = step s e.bytes e.buffer in
    elim (eqb e.to i) [ true ↦ taken o.answer && takes_all i o.state more | false ↦ takes_all i s more ]

-- does every gateway below n
unfoldable pub all_taken : ℕ → Run → Bool
unfolding all_below takes_all start
all_taken n run = all_below n (λ i. takes_all i (start n i).state run)

abbrev pub C' : List ℕ
C' = letter 0x1C

-- four gateways, number 3 faulty: A, which gateway 1 proposes, and B, which gateway 2 does, get the votes of 0, 1 and 2; then number 3
-- shows C to 0 and 1 and C' to 2, and votes for both
unfoldable pub four_run : Run
unfolding propose casts put message
four_run =
    propose 1 A ∷ casts 1
    ∷ put 0 (hear 1 1 A no_name) ∷ casts 0
    ∷ put 2 (hear 1 1 A no_name) ∷ casts 2
    ∷ put 0 (vote 1 A) ∷ put 0 (vote 2 A)
    ∷ put 1 (vote 0 A) ∷ put 1 (vote 2 A)
    ∷ put 2 (vote 0 A) ∷ put 2 (vote 1 A)
    ∷ propose 2 B ∷ casts 2
    ∷ put 0 (hear 2 2 B A) ∷ casts 0
    ∷ put 1 (hear 2 2 B A) ∷ casts 1
    ∷ put 0 (vote 1 B) ∷ put 0 (vote 2 B)
    ∷ put 1 (vote 0 B) ∷ put 1 (vote 2 B)
    ∷ put 0 (hear 3 3 C B) ∷ casts 0
    ∷ put 1 (hear 3 3 C B) ∷ casts 1
    ∷ put 1 (vote 0 C) ∷ put 1 (vote 3 C)
    ∷ put 2 (vote 0 B) ∷ put 2 (vote 1 B)
    ∷ put 2 (hear 3 3 C' B) ∷ casts 2 ∷ put 2 (vote 3 C')
    ∷ []

-- at which event each vote heard under an honest number was cast
four_casts : List ℕ
four_casts =
    0 ∷ 0 ∷ 0 ∷ 0 ∷ 0 ∷ 0 ∷ 1 ∷ 5 ∷ 3 ∷ 5 ∷ 3 ∷ 1 ∷ 0 ∷ 0 ∷ 0 ∷ 0 ∷ 0 ∷ 0 ∷ 17 ∷ 13 ∷ 15 ∷ 13
    ∷ 0 ∷ 0 ∷ 0 ∷ 0 ∷ 23 ∷ 0 ∷ 15 ∷ 17 ∷ []

unfoldable pub four_honest : ℕ → Bool
four_honest i = ltb i 3

unfoldable pub four_book : Book
unfolding pick same
four_book x =
    record {
      epoch = pick (same x A) 1 (pick (same x B) 2 3);
      parent = pick (same x A) no_name (pick (same x B) A B);
    }

four_tested : all_below (length four_run) (event_test 4 four_honest four_run four_book four_casts) ≡ true
unfolding all_below event_test four_run four_honest four_book four_casts
four_tested = refl

-- Not empty: the premises hold, each event was taken, and at the end gateways 0 and 2 show A, and gateway 1 shows A and B
pub four_premises : EventPremises 4 four_honest four_run
unfolding four_honest count pick
four_premises =
    record {
      some = omega arith;
      most = omega arith;
      few_faulty = omega arith;
      book = four_book;
      each = each_tested 4 four_honest four_run four_book four_casts four_tested;
    }

pub four_shown :
    (all_taken 4 four_run ≡ true)
    × (shown_at 4 four_run (length four_run) 0 ≡ A)
    × (shown_at 4 four_run (length four_run) 1 ≡ A ++ B)
    × (shown_at 4 four_run (length four_run) 2 ≡ A)
unfolding all_taken shown_at four_run
four_shown = (refl, refl, refl, refl)

-- an instance of demand 3, at every two moments
pub four_agree : (a b : ℕ) → OneBegins (shown_at 4 four_run a 0) (shown_at 4 four_run b 1)
unfolding four_honest
four_agree a b =
    safe 4 four_honest four_run (by_event 4 four_honest four_run four_premises) 0 1 a b (omega arith, refl) (omega arith, refl)

abbrev pub X : List ℕ
X = letter 0x2A

abbrev pub Y : List ℕ
Y = letter 0x2B

abbrev pub B' : List ℕ
B' = letter 0x1B

-- three gateways, number 1 faulty: it votes for A' and B' at gateway 2, and for X and Y at gateway 0, which its clocks moved to epoch 3
unfoldable pub three_run : Run
unfolding propose casts minute put message
three_run =
    put 2 (hear 1 1 A' no_name) ∷ casts 2 ∷ put 2 (vote 1 A')
    ∷ propose 2 B' ∷ casts 2 ∷ put 2 (vote 1 B')
    ∷ minute 0 ∷ put 0 (clock 1 2) ∷ minute 0 ∷ put 0 (clock 1 3)
    ∷ propose 0 X ∷ casts 0 ∷ put 0 (vote 1 X)
    ∷ put 0 (hear 1 4 Y X) ∷ casts 0 ∷ put 0 (vote 1 Y)
    ∷ []

unfoldable pub three_honest : ℕ → Bool
three_honest i = not (eqb i 1)

unfoldable pub three_book : Book
unfolding pick same
three_book x =
    record {
      epoch = pick (same x A') 1 (pick (same x B') 2 (pick (same x X) 3 4));
      parent = pick (same x A') no_name (pick (same x B') A' (pick (same x X) no_name X));
    }

three_tested : all_below (length three_run) (event_test 3 three_honest three_run three_book []) ≡ true
unfolding all_below event_test three_run three_honest three_book
three_tested = refl

pub three_shown :
    (all_taken 3 three_run ≡ true)
    × (shown_at 3 three_run (length three_run) 0 ≡ X)
    × (shown_at 3 three_run (length three_run) 2 ≡ A')
unfolding all_taken shown_at three_run
three_shown = (refl, refl, refl)

-- Sharp: exactly a third is faulty, every other premise holds, and of the two chains neither begins the other
pub sharp :
    (3 * count 3 (λ i. not (three_honest i)) ≡ 3)
    × NoForgedVote 3 three_honest three_run
    × OneBlockOneName 3 three_honest three_run three_book
    × Honest 3 three_honest 0
    × Honest 3 three_honest 2
    × (OneBegins (shown_at 3 three_run (length three_run) 0) (shown_at 3 three_run (length three_run) 2) → ⊥)
unfolding count pick three_honest
sharp = (
  refl,
  cast_by_event 3 three_honest three_run (omega arith) (omega arith) three_book each,
  fits_by_event 3 three_honest three_run (omega arith) (omega arith) three_book each,
  (omega arith, refl),
  (omega arith, refl),
  λ o. apart (subst₂ OneBegins three_shown.1 three_shown.2 o),
)
  where
    each : EachTaken 3 three_honest three_run three_book
    each = each_tested 3 three_honest three_run three_book [] three_tested

    first : {a b : List ℕ} → a ≡ b → get_or a 0 0 ≡ get_or b 0 0
    first e = ap (λ l. get_or l 0 0) e

    apart : OneBegins X A' → ⊥
    apart (inl (rest, e)) = omega (arith, first e)
    apart (inr (rest, e)) = omega (arith, first e)
