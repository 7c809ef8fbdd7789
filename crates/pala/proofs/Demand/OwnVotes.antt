-- A gateway's own table shows its own vote exactly where it cast it, whatever others send. Assumes nothing.
use Prim.Native.Nat.{ℕ, zero, suc, ◌≤◌, ◌<◌}
use mathlib.Core.Bool.{true}
use mathlib.Core.List.{List}
use mathlib.Core.Logic.{◌↔◌}
use mathlib.Core.Path.{◌≡◌, refl, sym, ap, subst, subst₂, ◌∙◌}
use native.Mathlib.Decide.{dec_lt}
use native.Mathlib.Omega.{arith}
use Rattle.table.specs.declared.Block.{Block}
use Rattle.table.specs.declared.State.{State}
use Rattle.table.specs.Rows.{most_nodes, rows, at, has_voter, with_voter}
use Rattle.pala.specs.Effects.{picked}
use Rattle.pala.specs.Record.{is, vote_heard, cast_now}
use Rattle.pala.specs.Step.{room}
use Rattle.pala.specs.Safety.{Run, state_at, table_at, Cast, Held}
use Rattle.table.proofs.Laws.{not_both}
use Rattle.pala.proofs.Grown.{Grown, at_set_same, voter_in, rows_settled}
use Rattle.pala.proofs.Places.{votable_parts}
use Rattle.pala.proofs.Moves.{Did, added, counted, cast, clocked, other_kind, block_no_cast}
use Rattle.pala.proofs.Keeps.{Proper}
use Rattle.pala.proofs.Sent.{at-sized}
use Rattle.pala.proofs.Demand.Sound.{shaped_sound, one_place}
use Rattle.pala.proofs.Demand.Healthy.{after-vote, did_grown}
use Rattle.pala.proofs.Demand.Runs.{effect_at, fresh_none, Moved, Next, stayed, moved, next, reached, at_moments, reached-same, tables_grow}
use Rattle.pala.proofs.Demand.Casts.{cast_later, cast_next, kind_at, happened-at, its-at, taken_at, name-at, voter_cast}

module _ (n i : ℕ) (some : 1 ≤ n) (most : n ≤ most_nodes) (below : i < n) (run : Run) where
  proper : (m : ℕ) → Proper (state_at n run m i)
  proper m = (reached n i some most below run m).proper

  own : (m : ℕ) → (state_at n run m i).own.0 ≡ i
  own m = (reached-same n i some most below run m).1

  -- a vote under the own number was cast
  Good : ℕ → List Block → Type 0
  Good m t = (p : ℕ) → Held t p → has_voter (at t p) i ≡ true → Cast n run m i (at t p).name

  good_took : (m : ℕ) → Moved n run m i → Good m (rows (state_at n run m i)) → Good (suc m) (rows (effect_at n run m i))
  unfolding Good
  good_took m w g p h =
      voter_cast (proper m) (own m) w p i (λ l v. g p (h.0, l) v) (λ _ _ other. absurd (other refl)) h.1

  good : (m : ℕ) → Good m (table_at n run m i)
  unfolding Good
  good = at_moments n i some most below run Good (λ p h v. absurd (fresh_none n i p h)) (λ m t g p h v. cast_next m (g p h v)) good_took

  -- a vote cast is shown
  record ShownIn (t : List Block) (x : List ℕ) : Type 0 where
    place : ℕ
    held-there : Held t place
    named : (at t place).name ≡ x
    counted_there : has_voter (at t place) i ≡ true

  grown_shown : {t u : List Block} {x : List ℕ} → Grown t u → ShownIn t x → ShownIn u x
  grown_shown g w =
      record {
        place = w.place;
        held-there = (w.held-there.0, omega (arith, w.held-there.1, g.longer));
        named = g.name w.place w.held-there.1 ∙ w.named;
        counted_there = g.voters w.place i w.held-there.1 w.counted_there;
      }

  -- a taken kind 5 shows its vote at the place picked
  did_shown : (m : ℕ) {r : List ℕ} {u : State} → Did room (state_at n run m i) r u → is cast_now r ≡ true
      → ShownIn (rows u) (at (rows (state_at n run m i)) (picked (state_at n run m i))).name
  did_shown m {r} (added b proposed k w l e) c = absurd (not_both c (block_no_cast r k))
  did_shown m {r} (counted k q l v other e) c = absurd (not_both c (other_kind r vote_heard cast_now k refl))
  did_shown m {r} (clocked j x k2 k5 low e) c = absurd (not_both c k5)
  did_shown m {r} {u} (cast k l v e) c =
      record {
        place = q;
        held-there = ((votable_parts _ _ _ _ _ _ v).above, omega (arith, l, grown.longer));
        named = grown.name q l;
        counted_there =
            ap (λ x. has_voter (at x q) i) (after-vote (proper m) q s.own.0 s.local.0 l e)
            ∙ ap (λ (b : Block). has_voter b i) (at_set_same t q (with_voter (at t q) s.own.0) l)
            ∙ ap (λ j. has_voter (with_voter (at t q) j) i) (own m)
            ∙ voter_in (at t q) i (omega (arith, (at-sized s (proper m) q).voters));
      }
    where
      s : State
      s = state_at n run m i

      t : List Block
      t = rows s

      q : ℕ
      q = picked s

      grown : Grown t (rows u)
      grown = did_grown (proper m) {r = r} (cast k l v e)

  cast_now_lem : (m : ℕ) (x : List ℕ) (c : Cast n run (suc m) i x) → c.event ≡ m → ShownIn (table_at n run (suc m) i) x
  unfolding table_at
  cast_now_lem m x c z = go (next n i some most below run m)
    where
      go : Next n run m i → ShownIn (rows (state_at n run (suc m) i)) x
      go (stayed not_taken e) = absurd (not_both (taken_at c z) (not_taken (happened-at c z) (its-at c z)))
      go (moved w) =
          subst₂ ShownIn (sym (ap rows w.later ∙ rows_settled (effect_at n run m i))) (name-at c z (proper m)) (did_shown m w.did (kind_at c z))

  cast-shown : (m : ℕ) (x : List ℕ) (c : Cast n run m i x) → ShownIn (table_at n run m i) x
  cast-shown zero x c = absurd (omega (arith, c.before))
  cast-shown (suc m) x c =
      elim (dec_lt c.event m) [
        | yes h ↦ grown_shown (tables_grow n i some most below run m (suc m) (omega arith)) (cast-shown m x (cast_later (suc m) m c h))
        | no h ↦ cast_now_lem m x c (omega (arith, c.before))
      ]

  -- "its own table shows its own vote exactly then"
  pub own-votes : (m p : ℕ) → Held (table_at n run m i) p
      → (has_voter (at (table_at n run m i) p) i ≡ true) ↔ Cast n run m i (at (table_at n run m i) p).name
  unfolding Good table_at
  own-votes m p h = (good m p h, λ c. shows (cast-shown m (at t p).name c))
    where
      t : List Block
      t = table_at n run m i

      shows : ShownIn t (at t p).name → has_voter (at t p) i ≡ true
      shows w =
          let z : w.place ≡ p = one_place (shaped_sound (state_at n run m i) (proper m)) w.place p w.held-there.1 h.1 w.named in
          subst (λ q. has_voter (at t q) i ≡ true) z w.counted_there
