-- Rows gone through in order: the first that applies refuses, and a record that none refuses is taken. Assumes nothing.
use Prim.Native.Nat.{ℕ}
use mathlib.Core.Bool.{Bool, true, false}
use mathlib.Core.List.{List, [], ◌∷◌}
use mathlib.Core.Logic.{⊎_elim}
use mathlib.Core.Path.{◌≡◌, refl, sym, ap, ◌∙◌}
use Rattle.std.specs.Prelude.{Result, Ok, Err}
use Rattle.table.specs.declared.Answer.{Answer}
use Rattle.table.specs.declared.Place.{Place}
use Rattle.table.proofs.Laws.{pick_yes, pick_no}
use Rattle.pala.specs.Answers.{taken, answered, lowest_of}
use Rattle.pala.proofs.Tests.{either}
use Rattle.pala.proofs.Rows.{answered_taken, answered_refused}
use Rattle.node.specs.Moves.{move_by}

-- a way through some rows, to a move; what rests may be known otherwise
pub data Through : List (Bool × Answer) → ℕ → Result Place Answer → Type 0 where
  refuses : {b : Bool} {a : Answer} {more : List (Bool × Answer)} {p : ℕ} → b ≡ true → taken a ≡ false → Through ((b, a) ∷ more) p (Err a)
  passes : {b : Bool} {a : Answer} {more : List (Bool × Answer)} {p : ℕ} {m : Result Place Answer} → b ≡ false → Through more p m → Through ((b, a) ∷ more) p m
  rests : {more : List (Bool × Answer)} {p : ℕ} {m : Result Place Answer} → m ≡ move_by more p → Through more p m
  takes : {p : ℕ} → Through [] p (Ok (record { 0 = p }))

pub row_yes : (b : Bool) (a : Answer) (more : List (Bool × Answer)) → b ≡ true → lowest_of ((b, a) ∷ more) ≡ a
unfolding lowest_of
row_yes b a more h = pick_yes b a (lowest_of more) h

pub row_no : (b : Bool) (a : Answer) (more : List (Bool × Answer)) → b ≡ false → lowest_of ((b, a) ∷ more) ≡ lowest_of more
unfolding lowest_of
row_no b a more h = pick_no b a (lowest_of more) h

move_of : Answer → ℕ → Result Place Answer
move_of a p = answered a (record { 0 = p })

pub through : {tests : List (Bool × Answer)} {p : ℕ} {m : Result Place Answer} → Through tests p m → m ≡ move_by tests p
unfolding move_by move_of lowest_of taken
through (refuses {b} {a} {more} {p} h t) =
    sym (answered_refused a (record { 0 = p }) t) ∙ sym (ap (λ (x : Answer). move_of x p) (row_yes b a more h))
through (passes {b} {a} {more} {p} h way) = through way ∙ sym (ap (λ (x : Answer). move_of x p) (row_no b a more h))
through (rests e) = e
through (takes {p}) = sym (answered_taken Answer.Taken (record { 0 = p }) refl)

-- a move that is taken, and one that is refused
pub answered_ok : (a : Answer) (x p : Place) → answered a x ≡ Ok p → (taken a ≡ true) × (p ≡ x)
answered_ok a x p h =
    ⊎_elim (λ (t : taken a ≡ true). let e : ◌≡◌ {A = Result Place Answer} (Ok p) (Ok x) = sym h ∙ answered_taken a x t in (t, cc))
    (λ (t : taken a ≡ false). let e : ◌≡◌ {A = Result Place Answer} (Ok p) (Err a) = sym h ∙ answered_refused a x t in cc)
    (either (taken a))

pub answered_err : (a : Answer) (x : Place) (b : Answer) → answered a x ≡ Err b → (taken a ≡ false) × (a ≡ b)
answered_err a x b h =
    ⊎_elim (λ (t : taken a ≡ true). let e : ◌≡◌ {A = Result Place Answer} (Err b) (Ok x) = sym h ∙ answered_taken a x t in cc)
    (λ (t : taken a ≡ false). let e : ◌≡◌ {A = Result Place Answer} (Err b) (Err a) = sym h ∙ answered_refused a x t in (t, cc))
    (either (taken a))
