-- What the code's tests tell of the rows' tests. Assumes nothing.
use Prim.Native.Nat.{ℕ}
use mathlib.Core.Bool.{Bool, true, false, not}
use mathlib.Core.List.{List}
use mathlib.Core.Logic.{⊎_elim}
use mathlib.Core.Path.{◌≡◌, sym, ap, ◌∙◌}
use borrow.Author.Tests.{le-leb, lt-leb, ltb-true, ltb-false}
use lib.Dec.{eqb, ltb, leb}
use Rattle.std.specs.Prelude.{Option, Some, None, Result, Err}
use Rattle.std.specs.Option.{ok_or, is_some}
use Rattle.std.specs.Ordering.{is_lt, is_le, nat_cmp}
use native.Mathlib.Omega.{arith}
use Rattle.std.proofs.lemmas.Bool.Decides.{nat_tests}
use Rattle.table.specs.declared.Answer.{Answer}
use Rattle.table.specs.declared.Block.{Block}
use Rattle.table.specs.declared.Place.{Place}
use Rattle.table.specs.Rows.{rows, size, at, find, found, has_voter}
use Rattle.pala.specs.Rules.{epoch_at, freshest}
use Rattle.pala.specs.Steps.{fresh_epoch}
use Rattle.rules.specs.declared.Top.{Top}
use Rattle.table.specs.declared.State.{State}
use Rattle.table.proofs.Laws.{pick_yes, pick_no}
use Rattle.std.proofs.lemmas.Option.{none-some, same_Some}
use Rattle.pala.proofs.Tests.{either}

-- a comparison as the row's test, with a number that the code has from a call
pub lt_test : {b : Bool} (x : ℕ) {y k : ℕ} → y ≡ k → b ≡ is_lt (nat_cmp x y) → ltb x k ≡ b
lt_test {b} x {y} {k} e h = rw (← e) (grind (arith, nat_tests))

pub le_test : {b : Bool} (x : ℕ) {y k : ℕ} → y ≡ k → b ≡ is_le (nat_cmp x y) → leb x k ≡ b
le_test {b} x {y} {k} e h = rw (← e) (grind (arith, nat_tests))

pub ne_test : {b : Bool} (x : ℕ) {y k : ℕ} → y ≡ k → b ≡ not (eqb x y) → not (eqb x k) ≡ b
ne_test {b} x {y} {k} e h = rw (← e) (sym h)

-- a negated test
module _ (t : List Block) (name : List ℕ) where
  -- a name that is not found is past the end; one that is found is where it stands
  pub misses : found t name ≡ None → leb (size t) (find t name) ≡ true
  unfolding found
  misses h =
      ⊎_elim (λ (e : ltb (find t name) (size t) ≡ true). absurd (none-some _ (sym h ∙ pick_yes (ltb (find t name) (size t)) _ _ e)))
      (λ (e : ltb (find t name) (size t) ≡ false). le-leb (size t) (find t name) (ltb-false (find t name) (size t) e))
      (either (ltb (find t name) (size t)))

  pub hits : (p : Place) → found t name ≡ Some p → (p.0 ≡ find t name) × (leb (size t) (find t name) ≡ false)
  unfolding found
  hits p h =
      ⊎_elim
      (λ (e : ltb (find t name) (size t) ≡ true).
      (sym (ap (λ (q : Place). q.0) (same_Some _ _ (sym (pick_yes (ltb (find t name) (size t)) _ _ e) ∙ h))), lt-leb (size t) (find t name) (ltb-true (find t name) (size t) e)))
      (λ (e : ltb (find t name) (size t) ≡ false). absurd (none-some _ (sym (pick_no (ltb (find t name) (size t)) _ _ e) ∙ h)))
      (either (ltb (find t name) (size t)))

-- the epoch of the block that stands at a place
pub epoch_there : (t : List Block) {p : Place} {k : ℕ} {b : Block} → p.0 ≡ k → b ≡ at t p.0 → b.epoch.0 ≡ epoch_at t k
unfolding epoch_at
epoch_there t h e = ap (λ (x : Block). x.epoch.0) e ∙ ap (λ (x : ℕ). (at t x).epoch.0) h

-- what `?` refuses with where there is none
pub lost : {x : Option Place} {a b : Answer} → ◌≡◌ {A = Result Place Answer} (Err b) (ok_or x a) → x ≡ None → ◌≡◌ {A = Result Place Answer} (Err b) (Err a)
lost {x} {a} {b} h n = h ∙ ap (λ (y : Option Place). ok_or y a) n

-- is a name in the table
pub is_there : (t : List Block) (name : List ℕ) → is_some (found t name) ≡ ltb (find t name) (size t)
unfolding found
is_there t name =
    ⊎_elim (λ (e : ltb (find t name) (size t) ≡ true). ap is_some (pick_yes (ltb (find t name) (size t)) _ _ e) ∙ sym e)
    (λ (e : ltb (find t name) (size t) ≡ false). ap is_some (pick_no (ltb (find t name) (size t)) _ _ e) ∙ sym e)
    (either (ltb (find t name) (size t)))

-- is a node among the voters of the block that stands at a place
pub voter_there : (t : List Block) (i : ℕ) {p : Place} {k : ℕ} {b : Block} {v : Bool} → p.0 ≡ k → b ≡ at t p.0 → v ≡ has_voter b i → has_voter (at t k) i ≡ v
voter_there t i h e w = sym (w ∙ ap (λ (x : Block). has_voter x i) e ∙ ap (λ (x : ℕ). has_voter (at t x) i) h)

-- the epoch of the freshest block
pub top_there : (s : State) {x : Top} → x ≡ record { place = record { 0 = freshest s.n (rows s) }; epoch = record { 0 = fresh_epoch s } } → x.epoch.0 ≡ epoch_at (rows s) (freshest s.n (rows s))
unfolding fresh_epoch
top_there s e = ap (λ (x : Top). x.epoch.0) e
