-- 02, M-104: a gateway that isn't torn keeps the candidate itself, whatever run brought it there. Assumes nothing.
use Prim.Native.Nat.{ℕ, zero, suc, ◌≤◌, ◌<◌}
use mathlib.Core.Bool.{Bool, true, false, not, ◌||◌, true≢false}
use mathlib.Core.List.{List}
use mathlib.Core.Logic.{◌⊎◌, inl, inr, ⊎_elim}
use mathlib.Core.Path.{◌≡◌, refl, sym, ap, subst, ◌∙◌}
use native.Mathlib.Omega.{arith}
use Rattle.table.specs.declared.Block.{Block}
use Rattle.table.specs.declared.State.{State}
use Rattle.table.specs.Rows.{most_nodes, rows, size, fresh}
use Rattle.table.proofs.Laws.{pick-case}
use Rattle.pala.specs.Rules.{epoch_at, parent_of, line, among, candidate, descends}
use Rattle.pala.specs.Safety.{Run, state_at, table_at}
use Rattle.pala.specs.Steps.{forward, new_kept, new_torn, settled}
use Rattle.pala.proofs.Tests.{nor_r}
use Rattle.pala.proofs.Grown.{rows_settled}
use Rattle.pala.proofs.Places.{parent_below, candidate_in}
use Rattle.pala.proofs.Demand.Ancestors.{down, on_zero, on_cases}
use Rattle.pala.proofs.Demand.Freshest.{Kept, kept_in, candidate_latest}
use Rattle.pala.proofs.Demand.Sound.{Sound, shaped_sound, parent_earlier}
use Rattle.pala.proofs.Demand.Healthy.{KeptBy, did_kept}
use Rattle.pala.proofs.Demand.Runs.{effect_at, Next, stayed, moved, next, starts, reached, reached-same}

module _ {n : ℕ} {t : List Block} (s : Sound n t) where
  -- epochs don't rise on the way down
  on_no_later : (p a : ℕ) → p < size t → among a (line t p) ≡ true → epoch_at t a ≤ epoch_at t p
  on_no_later p a h e =
      (down t (λ x. (x < size t) × (epoch_at t x ≤ epoch_at t p))
      (λ x pos w. (omega (arith, w.0, parent_below t x pos), omega (arith, w.1, parent_earlier s x pos w.0)))
      p a e (h, omega arith)).1

  -- what a block descends from is earlier
  on_earlier : (p a : ℕ) → p < size t → among a (line t p) ≡ true → (p ≡ a) ⊎ (epoch_at t a < epoch_at t p)
  on_earlier zero a h e = inl (on_zero t a e)
  on_earlier (suc p) a h e =
      let pos : 0 < suc p = omega arith in
      ⊎_elim inl
      (λ o. inr (omega (arith, parent_earlier s (suc p) pos h, on_no_later (parent_of t (suc p)) a (omega (arith, parent_below t (suc p) pos)) o)))
      (on_cases t (suc p) a pos e)

  -- no block that may be kept is later than the candidate, so one that descends from it is it
  kept_no_later : (c : ℕ) → Kept n t c → epoch_at t c ≤ epoch_at t (candidate n t)
  kept_no_later c (inl z) = omega (arith, ap (epoch_at t) z, s.root_epoch)
  kept_no_later c (inr f) = candidate_latest n t f

  kept-is : (c : ℕ) → Kept n t c → descends t c (candidate n t) ≡ true → c ≡ candidate n t
  unfolding descends
  kept-is c k e =
      ⊎_elim (λ z. z) (λ l. absurd (omega (arith, l, kept_no_later c k)))
      (on_earlier c (candidate n t) (kept_in s.some k) e)

-- what doesn't tear and isn't forward is back
untorn : (torn ahead back : Bool) → (torn || not (ahead || back)) ≡ false → ahead ≡ false → back ≡ true
untorn torn true back w e = absurd (true≢false e)
untorn torn false true w e = refl
untorn torn false false w e = absurd (true≢false (nor_r torn true w))

-- torn, or the candidate is kept
abbrev Current : State → Type 0
Current s = s.torn ≡ false → s.kept.0 ≡ candidate s.n (rows s)

-- the five steps lead there
settled_current : (u : State) → Sound u.n (rows u) → KeptBy u → Current (settled u)
unfolding settled new_torn new_kept
settled_current u sound k w =
    pick-case (λ p. p ≡ candidate u.n (rows u)) (forward u) (candidate u.n (rows u)) u.kept.0 (λ _. refl)
    (λ e. kept-is sound u.kept.0 k (untorn u.torn (forward u) _ w e))
    ∙ sym (ap (candidate u.n) (rows_settled u))

module _ (n i : ℕ) (some : 1 ≤ n) (most : n ≤ most_nodes) (below : i < n) (run : Run) where
  -- the table that a taken record leaves is sound
  sound_after : (m : ℕ) → state_at n run (suc m) i ≡ settled (effect_at n run m i) → Sound (effect_at n run m i).n (rows (effect_at n run m i))
  unfolding settled
  sound_after m e =
      subst (Sound (effect_at n run m i).n) (rows_settled (effect_at n run m i))
      (subst (λ (x : State). Sound x.n (rows x)) e (shaped_sound (state_at n run (suc m) i) (reached n i some most below run (suc m)).proper))

  fresh_current : Current (fresh n i)
  unfolding fresh rows
  fresh_current _ = omega (arith, candidate_in n (rows (fresh n i)) (omega arith))

  current : (m : ℕ) → Current (state_at n run m i)
  current zero = subst Current (sym (starts n i some most below run)) fresh_current
  current (suc m) = go (current m) (next n i some most below run m)
    where
      go : Current (state_at n run m i) → Next n run m i → Current (state_at n run (suc m) i)
      go w (stayed _ e) = subst Current (sym e) w
      go w (moved v) =
          subst Current (sym v.later)
          (settled_current (effect_at n run m i) (sound_after m v.later) (did_kept (reached n i some most below run m) v.did))

  -- of a state that a run reaches and that isn't torn, the kept block is the candidate
  pub keeps_candidate : (m : ℕ) → (state_at n run m i).torn ≡ false → (state_at n run m i).kept.0 ≡ candidate n (table_at n run m i)
  unfolding table_at
  keeps_candidate m w = current m w ∙ ap (λ k. candidate k (table_at n run m i)) (reached-same n i some most below run m).0
