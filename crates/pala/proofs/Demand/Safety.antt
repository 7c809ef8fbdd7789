-- Demand 3, proved: final chains begin one another, and no honest gateway is ever torn. Assumes nothing.
use Prim.Native.Nat.{ℕ, zero, suc, ◌<◌}
use mathlib.Core.Bool.{Bool, true, false, not, ◌||◌}
use mathlib.Core.List.{List, [], ◌∷◌, ◌++◌, append_assoc}
use mathlib.Core.Logic.{◌⊎◌, inl, inr}
use mathlib.Core.Path.{◌≡◌, refl, sym, ap, subst, subst₂, ◌∙◌}
use Rattle.table.specs.declared.Block.{Block}
use Rattle.table.specs.declared.State.{State}
use Rattle.table.specs.Rows.{rows, size, at, fresh}
use Rattle.pala.specs.Counts.{no_name}
use Rattle.pala.specs.Rules.{notarized, candidate, descends}
use Rattle.pala.specs.Steps.{settled, new_torn, forward}
use Rattle.pala.specs.Lists.{joined, final_names}
use Rattle.pala.specs.Safety.{Run, state_at, table_at, Honest, Premises, shown_at, Begins, OneBegins, Safe, NeverTorn}
use Rattle.pala.proofs.Demand.Chains as Chains
use Rattle.pala.proofs.Tests.{or_l, or_r}
use Rattle.pala.proofs.Grown.{rows_settled}
use Rattle.pala.proofs.Demand.Chains.{Goes, On, in_line, chains_agree}
use Rattle.pala.proofs.Demand.Freshest.{Kept, kept_in, candidate-kept}
use Rattle.pala.proofs.Demand.Healthy.{Healthy, KeptBy, did_same, did_kept}
use Rattle.pala.proofs.Demand.Runs.{effect_at, Next, stayed, moved, next, starts}
use Rattle.pala.proofs.Demand.Names.{chain_of, kept_of, on_place}
use Rattle.pala.proofs.Finals.{names_to}
use Rattle.pala.proofs.Demand.Honest as Honestly
use Rattle.pala.proofs.Demand.Honest.{healthy, nodes-same, table_sound, table_kept, faithful, Notarized, keeps}

-- lists of names joined
pub joined-append : (a b : List (List ℕ)) → joined (a ++ b) ≡ joined a ++ joined b
unfolding joined
joined-append [] b = refl
joined-append (x ∷ a) b = ap (λ l. x ++ l) (joined-append a b) ∙ sym (append_assoc x (joined a) (joined b))

pub joined-begins : (a b : List (List ℕ)) → Goes a b → Begins (joined a) (joined b)
joined-begins a b (rest, e) = (joined rest, sym (ap joined e ∙ joined-append a rest))

-- what is shown are the names to the kept block
pub shown_names : (n : ℕ) (run : Run) (m i : ℕ) → shown_at n run m i ≡ joined (names_to (table_at n run m i) (state_at n run m i).kept.0)
unfolding shown_at final_names table_at names_to
shown_names n run m i = refl

-- the five steps tear nothing where the candidate and the kept block are in line
settled_whole : (u : State) → u.torn ≡ false
    → (descends (rows u) (candidate u.n (rows u)) u.kept.0 || descends (rows u) u.kept.0 (candidate u.n (rows u))) ≡ true
    → (settled u).torn ≡ false
unfolding settled new_torn forward
settled_whole u a b = neither u.torn _ a b
  where
    neither : (a b : Bool) → a ≡ false → b ≡ true → (a || not b) ≡ false
    neither a b p q = cc

module _ (n : ℕ) (honest : ℕ → Bool) (run : Run) (pr : Premises n honest run) where
  -- the book's epochs and parents
  abbrev epoch : List ℕ → ℕ
  epoch = Honestly.epoch n honest run pr

  abbrev parent : List ℕ → List ℕ
  parent = Honestly.parent n honest run pr

  -- a block notarized in an honest table is one that `Chains` speaks of
  known : (m i : ℕ) → Honest n honest i → (p : ℕ) → 0 < p → p < size (table_at n run m i) → notarized n (table_at n run m i) p ≡ true
      → Notarized n honest run pr (at (table_at n run m i) p).name
  known m i hi p pos h e =
      record { moment = m; by = i; honestly = hi; place = p; held = (pos, h); named = refl; enough = e }

  -- what an honest gateway keeps is final
  final : (m i : ℕ) → Honest n honest i → (c : ℕ) → Kept n (table_at n run m i) c
      → Chains.Kept no_name epoch parent 0 (Notarized n honest run pr) (at (table_at n run m i) c).name
  final m i hi c k = kept_of epoch parent (faithful n honest run pr m i hi) (known m i hi) c k

  kept-held : (m i : ℕ) → Honest n honest i → (state_at n run m i).kept.0 < size (table_at n run m i)
  kept-held m i hi = kept_in (table_sound n honest run pr m i hi).some (table_kept n honest run pr m i hi)

  agree : (i j a b : ℕ) → Honest n honest i → Honest n honest j → OneBegins (shown_at n run a i) (shown_at n run b j)
  agree i j a b hi hj =
      subst₂ OneBegins (sym (shown_names n run a i)) (sym (shown_names n run b j))
      (go (chains_agree no_name epoch parent (keeps n honest run pr)
      (final a i hi (kept a i) (table_kept n honest run pr a i hi)) (final b j hj (kept b j) (table_kept n honest run pr b j hj))
      (chain_of epoch parent (faithful n honest run pr a i hi) (kept a i) (kept-held a i hi))
      (chain_of epoch parent (faithful n honest run pr b j hj) (kept b j) (kept-held b j hj))))
    where
      kept : ℕ → ℕ → ℕ
      kept m k = (state_at n run m k).kept.0

      names : ℕ → ℕ → List (List ℕ)
      names m k = names_to (table_at n run m k) (kept m k)

      go : Goes (names a i) (names b j) ⊎ Goes (names b j) (names a i) → OneBegins (joined (names a i)) (joined (names b j))
      go (inl w) = inl (joined-begins (names a i) (names b j) w)
      go (inr w) = inr (joined-begins (names b j) (names a i) w)

  -- two blocks of one table that may be kept are in line
  table_in_line : (m i : ℕ) → Honest n honest i → (c k : ℕ) → Kept n (table_at n run m i) c → Kept n (table_at n run m i) k
      → (descends (table_at n run m i) c k || descends (table_at n run m i) k c) ≡ true
  table_in_line m i hi c k wc wk =
      go (in_line no_name epoch parent (keeps n honest run pr) (final m i hi c wc) (final m i hi k wk))
    where
      t : List Block
      t = table_at n run m i

      within : {p : ℕ} → Kept n t p → p < size t
      within w = kept_in (table_sound n honest run pr m i hi).some w

      go : On no_name epoch parent (at t c).name (at t k).name
          ⊎ On no_name epoch parent (at t k).name (at t c).name
          → (descends t c k || descends t k c) ≡ true
      go (inl o) =
          or_r (descends t c k) (descends t k c)
          (on_place epoch parent (faithful n honest run pr m i hi) k c (within wk) (within wc) o)
      go (inr o) =
          or_l (descends t c k) (descends t k c)
          (on_place epoch parent (faithful n honest run pr m i hi) c k (within wc) (within wk) o)

  -- the candidate of an honest table and the block kept before are in line
  candidate_in_line : (m i : ℕ) → Honest n honest i → (u : State) → KeptBy u → u.n ≡ n → table_at n run m i ≡ rows u
      → (descends (rows u) (candidate u.n (rows u)) u.kept.0 || descends (rows u) u.kept.0 (candidate u.n (rows u))) ≡ true
  candidate_in_line m i hi u w en et =
      subst (λ t. Kept n t c → Kept n t k → (descends t c k || descends t k c) ≡ true) et (table_in_line m i hi c k)
      (subst (λ x. Kept x (rows u) c) en (candidate-kept u.n (rows u)))
      (subst (λ x. Kept x (rows u) k) en w)
    where
      c : ℕ
      c = candidate u.n (rows u)

      k : ℕ
      k = u.kept.0

  whole : (m i : ℕ) → Honest n honest i → (state_at n run m i).torn ≡ false
  unfolding fresh table_at
  whole zero i hi = ap (λ (x : State). x.torn) (starts n i pr.some pr.most hi.0 run)
  whole (suc m) i hi = go (whole m i hi) (next n i pr.some pr.most hi.0 run m)
    where
      h : Healthy (state_at n run m i)
      h = healthy n honest run pr m i hi

      u : State
      u = effect_at n run m i

      go : (state_at n run m i).torn ≡ false → Next n run m i → (state_at n run (suc m) i).torn ≡ false
      go w (stayed _ e) = ap (λ (x : State). x.torn) e ∙ w
      go w (moved v) =
          ap (λ (x : State). x.torn) v.later
          ∙ settled_whole u ((did_same v.did).2 ∙ w)
          (candidate_in_line (suc m) i hi u (did_kept h v.did)
          ((did_same v.did).0 ∙ nodes-same n honest run pr m i hi) (ap rows v.later ∙ rows_settled u))

pub safe : Safe
safe n honest run pr i j a b hi hj = agree n honest run pr i j a b hi hj

pub never_torn : NeverTorn
never_torn n honest run pr m i hi = whole n honest run pr m i hi
