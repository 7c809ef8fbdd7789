-- A gateway never takes a final block back: what it shows at a moment begins what it shows later. Assumes nothing.
use Prim.Native.Nat.{ℕ, ◌≤◌, ◌<◌}
use mathlib.Core.Bool.{true}
use mathlib.Core.List.{List, [], ◌∷◌, ◌++◌, append-nil, append_assoc}
use mathlib.Core.Logic.{◌⊎◌, inl, inr}
use mathlib.Core.Path.{◌≡◌, sym, ap, subst, subst₂, ◌∙◌}
use native.Mathlib.Omega.{arith}
use Rattle.table.specs.declared.Block.{Block}
use Rattle.table.specs.declared.State.{State}
use Rattle.table.specs.Rows.{most_nodes, rows, size, at}
use Rattle.pala.specs.Rules.{parent_of, line, among, candidate, descends}
use Rattle.pala.specs.Step.{room}
use Rattle.pala.specs.Steps.{settled, new_kept, forward}
use Rattle.pala.specs.Safety.{Run, state_at, table_at, shown_at, Begins}
use Rattle.table.proofs.Laws.{pick-case}
use Rattle.pala.proofs.Grown.{Grown, grown_parent}
use Rattle.pala.proofs.Places.{parent_below}
use Rattle.pala.proofs.Moves.{Did}
use Rattle.pala.proofs.Keeps.{some-rows}
use Rattle.pala.proofs.Demand.Chains.{Goes}
use Rattle.pala.proofs.Demand.Ancestors.{climb, on_zero, on_cases}
use Rattle.pala.proofs.Demand.Freshest.{kept_in}
use Rattle.pala.proofs.Demand.Healthy.{Healthy, did_grown, did_same}
use Rattle.pala.proofs.Finals.{names_to, names_zero, names_up}
use Rattle.pala.proofs.Demand.Runs.{reached, from_to}
use Rattle.pala.proofs.Demand.Safety.{joined-begins, shown_names}

goes_same : (a : List (List ℕ)) → Goes a a
goes_same a = ([], sym (append-nil a))

goes_then : (a b c : List (List ℕ)) → Goes a b → Goes b c → Goes a c
goes_then a b c (x, d) (y, e) = (x ++ y, e ∙ ap (λ l. l ++ y) d ∙ append_assoc a x y)

-- the names to a block go on from those to any on its line
pub names_go : (t : List Block) (p a : ℕ) → among a (line t p) ≡ true → Goes (names_to t a) (names_to t p)
names_go t p = climb t (λ p. (a : ℕ) → among a (line t p) ≡ true → Goes (names_to t a) (names_to t p)) base step p
  where
    base : (a : ℕ) → among a (line t 0) ≡ true → Goes (names_to t a) (names_to t 0)
    base a e = subst (λ q. Goes (names_to t q) (names_to t 0)) (on_zero t a e) (goes_same (names_to t 0))

    step : (p : ℕ) → 0 < p → ((a : ℕ) → among a (line t (parent_of t p)) ≡ true → Goes (names_to t a) (names_to t (parent_of t p)))
        → (a : ℕ) → among a (line t p) ≡ true → Goes (names_to t a) (names_to t p)
    step p pos ih a e = go (on_cases t p a pos e)
      where
        go : (p ≡ a) ⊎ (among a (line t (parent_of t p)) ≡ true) → Goes (names_to t a) (names_to t p)
        go (inl z) = subst (λ q. Goes (names_to t q) (names_to t p)) z (goes_same (names_to t p))
        go (inr w) = goes_then (names_to t a) (names_to t (parent_of t p)) (names_to t p) (ih a w) ((at t p).name ∷ [], names_up t p pos)

-- a grown table has the same names to an old place
pub grown_names : {t u : List Block} → Grown t u → (p : ℕ) → p < size t → names_to u p ≡ names_to t p
grown_names {t} {u} g = climb t (λ p. p < size t → names_to u p ≡ names_to t p) (λ _. names_zero u ∙ sym (names_zero t)) step
  where
    step : (p : ℕ) → 0 < p → (parent_of t p < size t → names_to u (parent_of t p) ≡ names_to t (parent_of t p)) → p < size t → names_to u p ≡ names_to t p
    step p pos ih h =
        names_up u p pos
        ∙ ap (λ q. names_to u q ++ ((at u p).name ∷ [])) (grown_parent g p h)
        ∙ ap (λ l. l ++ ((at u p).name ∷ [])) (ih (omega (arith, parent_below t p pos)))
        ∙ ap (λ x. names_to t (parent_of t p) ++ (x ∷ [])) (g.name p h)
        ∙ sym (names_up t p pos)

-- the final names of a state
abbrev finals : State → List (List ℕ)
finals s = names_to (rows s) s.kept.0

-- "it is kept instead" only where it descends from what was kept
settled_goes : (u : State) → Goes (finals u) (finals (settled u))
unfolding settled new_kept forward descends rows
settled_goes u =
    pick-case (λ k. Goes (finals u) (names_to (rows u) k)) (forward u) (candidate u.n (rows u)) u.kept.0
    (λ e. names_go (rows u) (candidate u.n (rows u)) u.kept.0 e) (λ _. goes_same (finals u))

-- a taken record leaves the final names alone, and then the five steps go on from them
did_goes : {s : State} {r : List ℕ} {u : State} → Healthy s → Did room s r u → Goes (finals s) (finals (settled u))
did_goes {s} {u = u} h d =
    subst (λ l. Goes l (finals (settled u))) (ap (names_to (rows u)) (did_same d).3 ∙ grown_names (did_grown h.proper d) s.kept.0 (kept_in (some-rows h.proper) h.kept))
    (settled_goes u)

module _ (n i : ℕ) (some : 1 ≤ n) (most : n ≤ most_nodes) (below : i < n) (run : Run) where
  goes_on : (a b : ℕ) → a ≤ b → Goes (finals (state_at n run a i)) (finals (state_at n run b i))
  goes_on =
      from_to n i some most below run (λ s u. Goes (finals s) (finals u)) (λ s. goes_same (finals s))
      (λ s t u. goes_then (finals s) (finals t) (finals u)) (λ m w. did_goes (reached n i some most below run m) w.did)

  -- what is shown stays shown
  pub never_back : (a b : ℕ) → a ≤ b → Begins (shown_at n run a i) (shown_at n run b i)
  unfolding table_at
  never_back a b h =
      subst₂ Begins (sym (shown_names n run a i)) (sym (shown_names n run b i))
      (joined-begins (finals (state_at n run a i)) (finals (state_at n run b i)) (goes_on a b h))
