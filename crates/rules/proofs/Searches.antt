-- A scan downward, and that what it finds is what the definition means. Assumes nothing.
use Rattle.std.proofs.Common.{ℕ, zero, suc, ◌≡◌, ◌+◌, ◌-◌, ◌≤◌, ◌<◌, ◌⊎◌, Bool, true, false, ltb, refl, sym, ap, ◌∙◌, arith, inl, inr}
use mathlib.Core.Logic.{⊎_elim}
use native.Mathlib.Decide.{ℕ_discrete, dec_lt}
use Rattle.std.proofs.Common.{map, cond, Some, None}
use Rattle.std.specs.List.{find, range_with_len}
use Rattle.std.proofs.lemmas.Bool.{lt-ltb, le-ltb}
use Rattle.table.specs.declared.Place.{Place}
use Rattle.table.specs.Scan.{pick, highest, lowest}
use Rattle.table.proofs.Laws.{Wins, highest-is, lowest_below, lowest_hit, pick_yes, pick_no}
use Rattle.rules.specs.declared.Top.{Top}
use Rattle.rules.specs.Standing.{top_at}

module _ (ok : ℕ → Bool) (rank : ℕ → ℕ) (size : ℕ) where
  -- of the places from k on, and the genesis, `best` is the one of highest rank that passes, of equals the lowest
  pub record Best (k : ℕ) (best : Top) : Type 0 where
    pub shows : best ≡ top_at rank best.place.0
    pub passes : ok best.place.0 ≡ true
    pub held : (best.place.0 ≡ 0) ⊎ (best.place.0 < size)
    pub wins : (i : ℕ) → k ≤ i → i < size → ok i ≡ true → Wins rank best.place.0 i

  pub best_start : ok 0 ≡ true → Best size (top_at rank 0)
  best_start h = record { shows = refl; passes = h; held = inl refl; wins = λ i a b y. absurd (omega arith) }

  module _ (k : ℕ) (best : Top) (more : 0 < k) (least : k ≤ size) (w : Best k best) where
    top : best.epoch.0 ≡ rank best.place.0
    top = ap (λ (t : Top). t.epoch.0) w.shows

    -- a lower place wins over one of no higher rank
    below : (i : ℕ) → k ≤ i → rank i ≤ rank (k - 1) → Wins rank (k - 1) i
    below i l h = elim (dec_lt (rank i) (rank (k - 1))) [ yes s ↦ inl s | no s ↦ inr (omega arith, omega arith) ]

    -- a place that passes and isn't below the best is the best then
    pub best_taken : ok (k - 1) ≡ true → best.epoch.0 ≤ rank (k - 1) → Best (k - 1) (top_at rank (k - 1))
    best_taken y h =
        let over : (i : ℕ) → k ≤ i → Wins rank best.place.0 i → Wins rank (k - 1) i =
        λ i l o. ⊎_elim (λ (x : rank i < rank best.place.0). inl (omega (arith, top))) (λ (x : (rank i ≡ rank best.place.0) × (best.place.0 ≤ i)). below i l (omega (arith, top))) o in
        record {
          shows = refl;
          passes = y;
          held = inr (omega arith);
          wins =
              λ i a b z.
              elim (ℕ_discrete i (k - 1)) [
                | yes e ↦ inr (ap rank e, omega arith)
                | no e ↦ over i (omega arith) (w.wins i (omega arith) b z)
              ];
        }

    -- any other leaves the best
    pub best_passed : (ok (k - 1) ≡ true → rank (k - 1) < best.epoch.0) → Best (k - 1) best
    best_passed h =
        record {
          shows = w.shows;
          passes = w.passes;
          held = w.held;
          wins =
              λ i a b z.
              elim (ℕ_discrete i (k - 1)) [
                | yes e ↦ inl (omega (arith, h (ap ok (sym e) ∙ z), ap rank e, top))
                | no e ↦ w.wins i (omega arith) b z
              ];
        }

  highest_none : highest 0 ok rank ≡ 0
  unfolding highest
  highest_none = refl

  -- once the genesis is passed too
  pub best_end : ok 0 ≡ true → (best : Top) → Best 0 best → best ≡ top_at rank (highest size ok rank)
  best_end h best w =
      w.shows
      ∙ ap (top_at rank)
      (elim (ℕ_discrete size 0) [
        | yes e ↦ omega (arith, highest_none, ap (λ (k : ℕ). highest k ok rank) e, w.held)
        | no e ↦ sym (highest-is size ok rank best.place.0 h (omega (arith, w.held)) w.passes (λ i. w.wins i (omega arith)))
      ])

-- ---- the first of the places that passes

at_place : ℕ → Place
at_place k = record { 0 = k }

module _ (ok : ℕ → Bool) where
  first_from : (n a w : ℕ) → a ≤ w → w < a + n → ok w ≡ true → ((i : ℕ) → a ≤ i → i < w → ok i ≡ false) → find (λ (q : Place). ok q.0) (map at_place (range_with_len a n)) ≡ Some (at_place w)
  unfolding at_place
  first_from zero a w l h y none = absurd (omega arith)
  first_from (suc n) a w l h y none =
      elim (ℕ_discrete a w) [
        | yes e ↦ rw e (ap (λ (b : Bool). cond b (Some (at_place w)) (find (λ (q : Place). ok q.0) (map at_place (range_with_len (w + 1) n)))) y)
        | no e ↦
            ap (λ (b : Bool). cond b (Some (at_place a)) (find (λ (q : Place). ok q.0) (map at_place (range_with_len (a + 1) n)))) (none a (omega arith) (omega arith))
            ∙ first_from n (a + 1) w (omega arith) (omega arith) y (λ i m. none i (omega arith))
      ]

  none_from : (n a : ℕ) → ((i : ℕ) → a ≤ i → i < a + n → ok i ≡ false) → find (λ (q : Place). ok q.0) (map at_place (range_with_len a n)) ≡ None
  unfolding at_place
  none_from zero a none = refl
  none_from (suc n) a none =
      ap (λ (b : Bool). cond b (Some (at_place a)) (find (λ (q : Place). ok q.0) (map at_place (range_with_len (a + 1) n)))) (none a (omega arith) (omega arith))
      ∙ none_from n (a + 1) (λ i m l. none i (omega arith) (omega arith))

  pub find_lowest : (n : ℕ) → find (λ (q : Place). ok q.0) (map (λ k. record { 0 = k }) (range_with_len 0 n)) ≡ pick (ltb (lowest n ok) n) (Some (record { 0 = lowest n ok })) None
  unfolding at_place
  find_lowest n =
      let w = lowest n ok in
      elim (dec_lt w n) [
        | yes l ↦
            first_from n 0 w (omega arith) (omega arith) (lowest_hit n ok l) (λ i m. lowest_below n ok i)
            ∙ sym (pick_yes (ltb w n) (Some (at_place w)) None (lt-ltb w n l))
        | no l ↦
            none_from n 0 (λ i m h. lowest_below n ok i (omega arith)) ∙ sym (pick_no (ltb w n) (Some (at_place w)) None (le-ltb w n (omega arith)))
      ]
