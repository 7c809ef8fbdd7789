-- "Otherwise the answer is the lowest number that applies." Assumes nothing.
use mathlib.Core.Path.{◌≡◌, refl}
use mathlib.Core.Bool.{Bool, true, false}
use mathlib.Core.List.{List, [], ◌∷◌, map}
use Prim.Native.Nat.{ℕ}
use Rattle.table.specs.declared.State.{State}
use Rattle.std.specs.Prelude.{Ok, Err}
use Rattle.table.specs.declared.Answer.{Answer}
use Rattle.table.proofs.Laws.{pick_yes, pick_no}
use Rattle.pala.specs.Answers.{number, taken, answered, all_rows}

-- the rows stand in the order of their numbers, 1 to 14
pub rows_in_order :
    (room : ℕ → Bool) (s : State) (r out : List ℕ) →
    map (λ row. number row.1) (all_rows room s r out)
    ≡ 1 ∷ 2 ∷ 3 ∷ 4 ∷ 5 ∷ 6 ∷ 7 ∷ 8 ∷ 9 ∷ 10 ∷ 11 ∷ 12 ∷ 13 ∷ 14 ∷ []
unfolding number all_rows
rows_in_order room s r out = refl

-- what is answered, told apart
pub answered_taken : {A : Type 0} (a : Answer) (x : A) → taken a ≡ true → answered a x ≡ Ok x
unfolding answered
answered_taken a x e = pick_yes (taken a) (Ok x) (Err a) e

pub answered_refused : {A : Type 0} (a : Answer) (x : A) → taken a ≡ false → answered a x ≡ Err a
unfolding answered
answered_refused a x e = pick_no (taken a) (Ok x) (Err a) e
