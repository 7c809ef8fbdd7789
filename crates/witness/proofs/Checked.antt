-- The premises event by event, as a test that a concrete run can be put to. Assumes nothing.
use Prim.Native.Nat.{ℕ}
use mathlib.Core.Bool.{Bool, true, not, ◌&&◌, ◌||◌}
use mathlib.Core.List.{List, [], ◌∷◌}
use mathlib.Core.Logic.{◌⊎◌, inl, inr}
use mathlib.Core.Path.{◌≡◌, ap}
use lib.Dec.{eqb, ltb}
use lib.ListN.{length, get_or}
use borrow.Author.Tests.{eqb-true, eq-eqb, ltb-true}
use Rattle.table.specs.declared.Block.{Block}
use Rattle.table.specs.Scan.{all_below}
use Rattle.table.specs.Bytes.{same}
use Rattle.table.specs.Rows.{rows, at}
use Rattle.pala.specs.Answers.{number}
use Rattle.pala.specs.Record.{kind_of, sender_of, name_of, is, proposal_heard, vote_heard, propose_now, cast_now}
use Rattle.pala.specs.Rules.{epoch_at, parent_of}
use Rattle.pala.specs.Safety.{Run, event_at, outcome_at, Cast, Book, Fits}
use Rattle.pala.specs.Events.{EachTaken}
use Rattle.table.proofs.Laws.{same_true, all_below-at}
use Rattle.pala.proofs.Shapes as Shapes
use Rattle.pala.proofs.Tests.{and_l, and_r, and_both, or_l, or_r}

-- does every test hold
unfoldable pub all_of : List Bool → Bool
all_of [] = true
all_of (b ∷ l) = b && all_of l

abbrev AllTrue : List Bool → Type 0
AllTrue [] = Unit
AllTrue (b ∷ l) = (b ≡ true) × AllTrue l

all_true : (l : List Bool) → all_of l ≡ true → AllTrue l
unfolding all_of
all_true [] h = tt
all_true (b ∷ l) h = (and_l b (all_of l) h, all_true l (and_r b (all_of l) h))

-- is event e, before event k, a cast by j for the name
unfoldable pub cast_tests : ℕ → Run → ℕ → ℕ → List ℕ → ℕ → List Bool
unfolding outcome_at same name_of number
cast_tests n run k j name e =
    let o = outcome_at n run e in
    ltb e k
    ∷ ltb e (length run)
    ∷ eqb (event_at run e).to j
    ∷ eqb (kind_of (event_at run e).bytes) cast_now
    ∷ eqb (number o.answer) 0
    ∷ eqb (kind_of o.out) vote_heard
    ∷ eqb (sender_of o.out) j
    ∷ same (name_of o.out) name
    ∷ []

unfoldable pub cast_test : ℕ → Run → ℕ → ℕ → List ℕ → ℕ → Bool
unfolding all_of cast_tests
cast_test n run k j name e = all_of (cast_tests n run k j name e)

-- is the block at a place the book's
unfoldable pub fits_test : Book → List Block → ℕ → Bool
unfolding same epoch_at at parent_of
fits_test book t p =
    eqb (epoch_at t p) (book (at t p).name).epoch && same (at t (parent_of t p)).name (book (at t p).name).parent

-- does event k keep to the premises, `casts` telling for each vote heard at which event it was cast
unfoldable pub event_test : ℕ → (ℕ → Bool) → Run → Book → List ℕ → ℕ → Bool
unfolding cast_test fits_test outcome_at name_of rows
event_test n honest run book casts k =
    let s = (outcome_at n run k).state in
    (not (is vote_heard (event_at run k).bytes && honest (sender_of (event_at run k).bytes))
    || cast_test n run k (sender_of (event_at run k).bytes) (name_of (event_at run k).bytes) (get_or casts k 0))
    && (not (is proposal_heard (event_at run k).bytes || is propose_now (event_at run k).bytes)
    || fits_test book (rows s) s.count)

cast_tested : (n : ℕ) (run : Run) (k j : ℕ) (name : List ℕ) (e : ℕ) → cast_test n run k j name e ≡ true → Cast n run k j name
unfolding cast_test
cast_tested n run k j name e h = go (all_true (cast_tests n run k j name e) h)
  where
    go : AllTrue (cast_tests n run k j name e) → Cast n run k j name
    go a =
        record {
          event = e;
          before = ltb-true e k a.0;
          happened = ltb-true e (length run) a.1.0;
          its = eqb-true (event_at run e).to j a.1.1.0;
          kind = eqb-true (kind_of (event_at run e).bytes) cast_now a.1.1.1.0;
          answered = eqb-true (number (outcome_at n run e).answer) 0 a.1.1.1.1.0;
          sent_kind = eqb-true (kind_of (outcome_at n run e).out) vote_heard a.1.1.1.1.1.0;
          sent_number = eqb-true (sender_of (outcome_at n run e).out) j a.1.1.1.1.1.1.0;
          sent_name = same_true (name_of (outcome_at n run e).out) name a.1.1.1.1.1.1.1.0;
        }

fits_tested : (book : Book) (t : List Block) (p : ℕ) → fits_test book t p ≡ true → Fits book t p
unfolding fits_test
fits_tested book t p h =
    let a : eqb (epoch_at t p) (book (at t p).name).epoch ≡ true = search and_l in
    let b : same (at t (parent_of t p)).name (book (at t p).name).parent ≡ true = search and_r in
    record {
      epoch = eqb-true (epoch_at t p) (book (at t p).name).epoch a;
      parent = same_true (at t (parent_of t p)).name (book (at t p).name).parent b;
    }

-- where a premise holds the other side of the test does
implied : (a b : Bool) → (not a || b) ≡ true → a ≡ true → b ≡ true
implied a b h e = Shapes.or_r (not a) b h (ap not e)

-- a run whose every event passes meets the premises event by event
pub each_tested : (n : ℕ) (honest : ℕ → Bool) (run : Run) (book : Book) (casts : List ℕ)
    → all_below (length run) (event_test n honest run book casts) ≡ true → EachTaken n honest run book
unfolding event_test
each_tested n honest run book casts h k l hi answered =
    record {
      vote = λ kind hj.
          cast_tested n run k (sender_of r) (name_of r) (get_or casts k 0)
          (implied (is vote_heard r && honest (sender_of r)) cast_ok (and_l vote_ok block_ok it)
          (and_both (is vote_heard r) (honest (sender_of r)) (eq-eqb (kind_of r) vote_heard kind) hj.1));
      block = λ kind.
          fits_tested book (rows (outcome_at n run k).state) (outcome_at n run k).state.count
          (implied (is proposal_heard r || is propose_now r) fits_ok (and_r vote_ok block_ok it) (kinds kind));
    }
  where
    r : List ℕ
    r = (event_at run k).bytes

    cast_ok : Bool
    cast_ok = cast_test n run k (sender_of r) (name_of r) (get_or casts k 0)

    fits_ok : Bool
    fits_ok = fits_test book (rows (outcome_at n run k).state) (outcome_at n run k).state.count

    vote_ok : Bool
    vote_ok = not (is vote_heard r && honest (sender_of r)) || cast_ok

    block_ok : Bool
    block_ok = not (is proposal_heard r || is propose_now r) || fits_ok

    it : (vote_ok && block_ok) ≡ true
    it = all_below-at (length run) (event_test n honest run book casts) h k l

    kinds : (kind_of r ≡ proposal_heard) ⊎ (kind_of r ≡ propose_now) → (is proposal_heard r || is propose_now r) ≡ true
    kinds (inl e) = or_l (is proposal_heard r) (is propose_now r) (eq-eqb (kind_of r) proposal_heard e)
    kinds (inr e) = or_r (is proposal_heard r) (is propose_now r) (eq-eqb (kind_of r) propose_now e)
