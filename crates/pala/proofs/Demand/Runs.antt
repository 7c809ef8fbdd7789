-- The state of a gateway from moment to moment of a run: healthy, its numbers the same, its table grown. Assumes nothing.
use Prim.Native.Nat.{ℕ, zero, suc, ◌≤◌, ◌<◌, zero-le}
use mathlib.Core.Bool.{true, false}
use mathlib.Core.List.{List, [], ◌∷◌, ◌++◌}
use mathlib.Core.Logic.{◌⊎◌, inl, inr}
use mathlib.Core.Path.{◌≡◌, refl, sym, ap, subst, ◌∙◌}
use native.Mathlib.Decide.{dec_lt}
use native.Mathlib.Omega.{arith}
use lib.Dec.{eqb}
use lib.ListN.{length, take}
use lib.Seq.{take-suc, take_all}
use borrow.Author.Tests.{eqb-true, eq-eqb}
use Rattle.table.specs.declared.Block.{Block}
use Rattle.table.specs.declared.State.{State}
use Rattle.table.specs.Rows.{most_nodes, blank, rows, at, fresh, all_zero}
use Rattle.pala.specs.Answers.{taken}
use Rattle.pala.specs.Counts.{nodes}
use Rattle.pala.specs.Effects.{effect}
use Rattle.pala.specs.Rules.{epoch_at, freshest}
use Rattle.pala.specs.Step.{Outcome, step, start, room}
use Rattle.pala.specs.Steps.{fresh_epoch, settled}
use Rattle.pala.specs.Safety.{Run, event_at, after, follow, state_at, table_at, outcome_at, Held}
use Rattle.table.proofs.Laws.{pick_yes, pick_no, not_both}
use Rattle.pala.proofs.Tests.{either}
use Rattle.pala.proofs.Grown.{Grown, grown_same, grown_then, rows_settled}
use Rattle.pala.proofs.Shapes.{nodes_of_lem}
use Rattle.pala.proofs.Places.{freshest_in}
use Rattle.pala.proofs.Moves.{Did, Stepped, refused, took}
use Rattle.pala.proofs.Calls.{call_did, fresh-sized, fresh-shaped}
use Rattle.pala.proofs.Demand.Healthy.{Healthy, did_same, did_grown, step_healthy}

-- event m put to gateway i: what it hands back, and the direct effect
abbrev pub call_at : ℕ → Run → ℕ → ℕ → Outcome
call_at n run m i = step (state_at n run m i) (event_at run m).bytes (event_at run m).buffer

abbrev pub effect_at : ℕ → Run → ℕ → ℕ → State
effect_at n run m i = effect (state_at n run m i) (event_at run m).bytes

follow-append : (i : ℕ) (s : State) (a b : Run) → follow i s (a ++ b) ≡ follow i (follow i s a) b
unfolding follow
follow-append i s [] b = refl
follow-append i s (e ∷ a) b = follow-append i (after i s e) a b

-- one moment on: the gateway isn't called, or it is and goes on from the newest state
data Went (n : ℕ) (run : Run) (m i : ℕ) : Type 0 where
  idle : (m < length run → (event_at run m).to ≡ i → ⊥) → state_at n run (suc m) i ≡ state_at n run m i → Went n run m i
  called : m < length run → (event_at run m).to ≡ i
      → state_at n run (suc m) i ≡ (call_at n run m i).state → Went n run m i

next_state : (n : ℕ) (run : Run) (m i : ℕ) → m < length run → state_at n run (suc m) i ≡ after i (state_at n run m i) (event_at run m)
unfolding state_at follow
next_state n run m i h =
    ap (follow i (start n i).state) (take-suc run m (event_at [] 0) h)
    ∙ follow-append i (start n i).state (take m run) (event_at run m ∷ [])

went : (n : ℕ) (run : Run) (m i : ℕ) → Went n run m i
unfolding state_at after
went n run m i =
    elim (dec_lt m (length run)) [
      | yes h ↦ go h (either (eqb (event_at run m).to i))
      | no h ↦
          idle (λ l _. absurd (h l))
          (ap (follow i (start n i).state) (take_all (suc m) run (omega arith) ∙ sym (take_all m run (omega arith))))
    ]
  where
    go : m < length run → (eqb (event_at run m).to i ≡ true) ⊎ (eqb (event_at run m).to i ≡ false) → Went n run m i
    go h (inl k) =
        called h (eqb-true (event_at run m).to i k)
        (next_state n run m i h
        ∙ pick_yes (eqb (event_at run m).to i) (call_at n run m i).state (state_at n run m i) k)
    go h (inr k) =
        idle (λ _ e. not_both (eq-eqb (event_at run m).to i e) k)
        (next_state n run m i h
        ∙ pick_no (eqb (event_at run m).to i) (call_at n run m i).state (state_at n run m i) k)

-- what an event handed back, as its gateway's step
pub outcome-is : (n : ℕ) (run : Run) (m i : ℕ) → (event_at run m).to ≡ i
    → outcome_at n run m ≡ call_at n run m i
unfolding outcome_at
outcome-is n run m i e = ap (λ j. step (state_at n run m j) (event_at run m).bytes (event_at run m).buffer) e

-- gateway i took the record of event m
pub record Moved (n : ℕ) (run : Run) (m i : ℕ) : Type 0 where
  pub happened : m < length run
  pub its : (event_at run m).to ≡ i
  pub answered : taken (call_at n run m i).answer ≡ true
  pub did : Did room (state_at n run m i) (event_at run m).bytes (effect_at n run m i)
  pub settles : (call_at n run m i).state ≡ settled (effect_at n run m i)
  pub later : state_at n run (suc m) i ≡ settled (effect_at n run m i)

-- one moment on: it stayed as it was, a call, if there was one, being refused; or it took a record
pub data Next (n : ℕ) (run : Run) (m i : ℕ) : Type 0 where
  stayed : (m < length run → (event_at run m).to ≡ i → taken (call_at n run m i).answer ≡ false) → state_at n run (suc m) i ≡ state_at n run m i → Next n run m i
  moved : Moved n run m i → Next n run m i

-- a fresh table holds no block
pub fresh_none : (n i p : ℕ) → Held (rows (fresh n i)) p → ⊥
unfolding rows fresh
fresh_none n i p h = omega (arith, h)

-- a fresh state is healthy, and its freshest block is the genesis
module _ (n i : ℕ) (some : 1 ≤ n) (most : n ≤ most_nodes) (below : i < n) where
  numbers : nodes n i ≡ true
  numbers = nodes_of_lem n i (some, most, below)

  pub starts : (run : Run) → state_at n run 0 i ≡ fresh n i
  unfolding state_at follow start
  starts run = pick_yes (nodes n i) (fresh n i) all_zero numbers

  fresh_healthy : Healthy (fresh n i)
  unfolding fresh
  fresh_healthy = record { proper = record { sized = fresh-sized n i; shaped = fresh-shaped n i numbers }; kept = inl refl }

  pub fresh-epoch : fresh_epoch (fresh n i) ≡ 0
  unfolding fresh rows fresh_epoch epoch_at at
  fresh-epoch =
      let z : freshest n (blank ∷ []) < 1 = freshest_in n (blank ∷ []) (omega arith) in
      let e : freshest n (blank ∷ []) ≡ 0 = omega arith in
      ap (λ p. (at (blank ∷ []) p).epoch.0) e

  -- at every moment
  pub reached : (run : Run) (m : ℕ) → Healthy (state_at n run m i)
  reached run zero = subst Healthy (sym (starts run)) fresh_healthy
  reached run (suc m) = go (reached run m) (went n run m i)
    where
      go : Healthy (state_at n run m i) → Went n run m i → Healthy (state_at n run (suc m) i)
      go h (idle _ e) = subst Healthy (sym e) h
      go h (called _ _ e) = subst Healthy (sym e) (step_healthy (state_at n run m i) (event_at run m).bytes (event_at run m).buffer h)

  pub next : (run : Run) (m : ℕ) → Next n run m i
  next run m = go (went n run m i)
    where
      go : Went n run m i → Next n run m i
      go (idle h e) = stayed (λ l its. absurd (h l its)) e
      go (called h its e) = answered (call_did (state_at n run m i) (event_at run m).bytes (event_at run m).buffer (reached run m).proper)
        where
          answered : Stepped room (state_at n run m i) (event_at run m).bytes (event_at run m).buffer (call_at n run m i) → Next n run m i
          answered (refused k same) = stayed (λ _ _. k) (e ∙ same)
          answered (took k p d f) = moved (record { happened = h; its = its; answered = k; did = d; settles = f; later = e ∙ f })

  -- what a table has at the start, and keeps as moments pass and as records are taken, it has at every moment
  pub at_moments : (run : Run) (P : ℕ → List Block → Type 0) → P 0 (rows (fresh n i))
      → ((m : ℕ) (t : List Block) → P m t → P (suc m) t)
      → ((m : ℕ) → Moved n run m i → P m (rows (state_at n run m i)) → P (suc m) (rows (effect_at n run m i)))
      → (m : ℕ) → P m (table_at n run m i)
  unfolding table_at
  at_moments run P base passes takes zero = subst (λ x. P 0 (rows x)) (sym (starts run)) base
  at_moments run P base passes takes (suc m) = go (at_moments run P base passes takes m) (next run m)
    where
      go : P m (rows (state_at n run m i)) → Next n run m i → P (suc m) (rows (state_at n run (suc m) i))
      go h (stayed _ e) = subst (λ x. P (suc m) (rows x)) (sym e) (passes m (rows (state_at n run m i)) h)
      go h (moved w) = subst (P (suc m)) (sym (ap rows w.later ∙ rows_settled (effect_at n run m i))) (takes m w h)

  -- how a state goes on from an earlier one, where each taken record goes on so
  pub from_to : (run : Run) (R : State → State → Type 0) → ((s : State) → R s s) → ((s t u : State) → R s t → R t u → R s u)
      → ((m : ℕ) → Moved n run m i → R (state_at n run m i) (settled (effect_at n run m i)))
      → (a b : ℕ) → a ≤ b → R (state_at n run a i) (state_at n run b i)
  from_to run R same then takes a zero h = let e : a ≡ 0 = omega arith in rw e (same (state_at n run 0 i))
  from_to run R same then takes a (suc b) h =
      elim (dec_lt b a) [
        | yes l ↦ let e : a ≡ suc b = omega arith in rw e (same (state_at n run (suc b) i))
        | no l ↦ then (state_at n run a i) (state_at n run b i) (state_at n run (suc b) i) (from_to run R same then takes a b (omega arith)) (go (next run b))
      ]
    where
      go : Next n run b i → R (state_at n run b i) (state_at n run (suc b) i)
      go (stayed _ e) = subst (R (state_at n run b i)) (sym e) (same (state_at n run b i))
      go (moved w) = subst (R (state_at n run b i)) (sym w.later) (takes b w)

  -- the number of nodes and the own number stay as they were, and tables only grow
  pub reached-same : (run : Run) (m : ℕ) → ((state_at n run m i).n ≡ n) × ((state_at n run m i).own.0 ≡ i)
  unfolding fresh settled
  reached-same run m =
      let since =
      from_to run (λ s u. (u.n ≡ s.n) × (u.own.0 ≡ s.own.0)) (λ s. (refl, refl)) (λ s t u f g. (g.0 ∙ f.0, g.1 ∙ f.1))
      (λ k w. ((did_same w.did).0, (did_same w.did).1)) 0 m zero-le in
      (since.0 ∙ ap (λ (x : State). x.n) (starts run), since.1 ∙ ap (λ (x : State). x.own.0) (starts run))

  pub tables_grow : (run : Run) (a b : ℕ) → a ≤ b → Grown (table_at n run a i) (table_at n run b i)
  unfolding table_at
  tables_grow run =
      from_to run (λ s u. Grown (rows s) (rows u)) (λ s. grown_same (rows s)) (λ s t u. grown_then)
      (λ m w. subst (Grown (rows (state_at n run m i))) (sym (rows_settled (effect_at n run m i))) (did_grown (reached run m).proper w.did))
