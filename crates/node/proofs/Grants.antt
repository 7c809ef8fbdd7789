-- What a granted record tells of a state, kind by kind, and its direct effect in the words of its fields. Assumes nothing.
use Prim.Native.Nat.{ℕ, ◌+◌, ◌<◌}
use mathlib.Core.Bool.{true, false, not, ◌||◌}
use mathlib.Core.List.{List, [], ◌∷◌}
use mathlib.Core.Path.{◌≡◌, sym, ap, subst, ◌∙◌}
use native.Mathlib.Omega.{arith}
use borrow.Author.Tests.{leb-false, ltb-true, not-false}
use lib.Dec.{eqb, ltb, leb}
use Rattle.table.specs.declared.Place.{Place}
use Rattle.table.specs.declared.State.{State}
use Rattle.table.specs.Scan.{pick}
use Rattle.table.specs.Rows.{capacity, most_nodes, rows, size, find}
use Rattle.pala.specs.Answers.{bad_sender, bad_epoch, unknown, nothing, full}
use Rattle.pala.specs.Counts.{top_epoch}
use Rattle.pala.specs.Effects.{new_block, with_block, with_vote, with_clock, proposal_effect, vote_effect, clock_effect, propose_effect, cast_effect, minute_effect, effect, picked}
use Rattle.pala.specs.Record.{kind_of, sender_of, epoch_of, name_of, payload_of, known_kind, proposal_heard, vote_heard, clock_heard, propose_now, cast_now, minute_up}
use Rattle.pala.specs.Shape.{well_shaped}
use Rattle.pala.specs.Step.{room}
use Rattle.pala.proofs.Moves.{Passed, passed}
use Rattle.pala.proofs.Shapes.{shaped-nodes}
use Rattle.pala.proofs.Tests.{nor_l, nor_r, nand}
use Rattle.record.specs.declared.Fields.{Fields}
use Rattle.record.specs.Fields.{fields_of}
use Rattle.record.specs.Numbers.{kind_in}
use Rattle.std.specs.Result.{IsOk}
use Rattle.node.specs.Moves.{place_for, Granted}

-- ---- the direct effect of each kind

module _ (s : State) (r : List ℕ) (p : ℕ) (there : p ≡ place_for s r) where
  proposal_effect_lem : kind_of r ≡ proposal_heard → with_block s (new_block (name_of r) (epoch_of r) p (payload_of r)) s.proposed.0 ≡ effect s r
  unfolding effect proposal_effect place_for pick
  proposal_effect_lem k = simp (there, k)

  vote-effect : kind_of r ≡ vote_heard → with_vote s p (sender_of r) s.voted.0 ≡ effect s r
  unfolding effect vote_effect place_for pick
  vote-effect k = simp (there, k)

  clock-effect : kind_of r ≡ clock_heard → with_clock s (sender_of r) (epoch_of r) ≡ effect s r
  unfolding effect clock_effect pick
  clock-effect k = simp k

  propose_effect_lem : kind_of r ≡ propose_now → with_block s (new_block (name_of r) s.local.0 p (payload_of r)) s.local.0 ≡ effect s r
  unfolding effect propose_effect place_for pick
  propose_effect_lem k = simp (there, k)

  cast-effect : kind_of r ≡ cast_now → with_vote s p s.own.0 s.local.0 ≡ effect s r
  unfolding effect cast_effect place_for pick
  cast-effect k = simp (there, k)

  minute_effect_lem : kind_of r ≡ minute_up → with_clock s s.own.0 (s.local.0 + 1) ≡ effect s r
  unfolding effect minute_effect pick
  minute_effect_lem k = simp k

-- ---- what the rows passed tell

some_kind : (n : ℕ) → known_kind (n ∷ []) ≡ true → IsOk (kind_in n)
unfolding known_kind kind_in pick
some_kind n h = grind arith

module _ {s : State} {f : Fields} {place : Place} {r : List ℕ} (g : Granted s f place r) where
  rows_passed : Passed room s r g.out
  rows_passed = passed room s r g.out g.takes

  pub of_kind : {k : ℕ} → f.kind ≡ k → kind_of r ≡ k
  unfolding fields_of
  of_kind e = sym (ap (λ (x : Fields). x.kind) g.fields) ∙ e

  -- what is said of the record's fields is said of these
  pub by_fields_lem : (P : Fields → Type 0) → P (fields_of r) → P f
  by_fields_lem P h = subst P (sym g.fields) h

  -- "kind isn't 1 to 6"
  pub kind_there : IsOk (kind_in f.kind)
  unfolding fields_of known_kind
  kind_there =
      let known : known_kind (kind_of r ∷ []) ≡ true = not-false (known_kind r) rows_passed.kind in
      rw (ap (λ (x : Fields). x.kind) g.fields) (some_kind (kind_of r) known)

  -- "kinds 1, 4: 64 blocks held"
  pub room_left : {k : ℕ} → f.kind ≡ k → (eqb k proposal_heard || eqb k propose_now) ≡ true → s.count < capacity
  unfolding full room
  room_left {k} e h =
      let kinds : (eqb (kind_of r) proposal_heard || eqb (kind_of r) propose_now) ≡ true = ap (λ (x : ℕ). eqb x proposal_heard || eqb x propose_now) (of_kind e) ∙ h in
      ltb-true s.count capacity (not-false (ltb s.count capacity) (nand (eqb (kind_of r) proposal_heard || eqb (kind_of r) propose_now) (not (ltb s.count capacity)) rows_passed.room kinds))

  -- "Kinds 4, 6: local epoch is 4,294,967,295"
  pub minute_left : f.kind ≡ minute_up → s.local.0 < top_epoch
  unfolding bad_epoch
  minute_left e = leb-false top_epoch s.local.0 (simp (of_kind e) at rows_passed.epoch)

  module _ (h : well_shaped s ≡ true) where
    -- "own number below n", "sender at or above n"
    pub own_below : s.own.0 < most_nodes
    own_below = omega (arith, shaped-nodes s h)

    pub sender_below : f.sender.0 < most_nodes
    unfolding bad_sender fields_of
    sender_below =
        let same : f.sender.0 ≡ sender_of r = ap (λ (x : Fields). x.sender.0) g.fields in
        let low : sender_of r < s.n = leb-false s.n (sender_of r) (nor_l _ _ rows_passed.sender) in
        omega (arith, shaped-nodes s h)

  -- "Kind 2: name not in the table"
  pub vote-held : f.kind ≡ vote_heard → place.0 < size (rows s)
  unfolding unknown place_for pick
  vote-held e =
      let at-find : place.0 ≡ find (rows s) (name_of r) = g.there ∙ simp (of_kind e) in
      let place_of : ℕ = find (rows s) (name_of r) in
      let known : (eqb place_of 0 || leb (size (rows s)) place_of) ≡ false = simp (of_kind e) at rows_passed.known in
      let low : place_of < size (rows s) = leb-false (size (rows s)) place_of (nor_r (eqb place_of 0) (leb (size (rows s)) place_of) known) in
      omega arith

  -- "kind 5: no block may be voted for"
  pub cast-held : f.kind ≡ cast_now → place.0 < size (rows s)
  unfolding nothing place_for pick picked
  cast-held e =
      let at-picked : place.0 ≡ picked s = g.there ∙ simp (of_kind e) in
      let low : picked s < size (rows s) = leb-false (size (rows s)) (picked s) (simp (of_kind e) at rows_passed.ballots) in
      omega arith

  -- ---- its effect, in the words of the fields

  pub proposal_done : f.kind ≡ proposal_heard → with_block s (new_block f.name f.epoch.0 place.0 f.payload) s.proposed.0 ≡ effect s r
  unfolding fields_of
  proposal_done =
      by_fields_lem (λ (x : Fields). x.kind ≡ proposal_heard → with_block s (new_block x.name x.epoch.0 place.0 x.payload) s.proposed.0 ≡ effect s r)
      (proposal_effect_lem s r place.0 g.there)

  pub vote-done : f.kind ≡ vote_heard → with_vote s place.0 f.sender.0 s.voted.0 ≡ effect s r
  unfolding fields_of
  vote-done =
      by_fields_lem (λ (x : Fields). x.kind ≡ vote_heard → with_vote s place.0 x.sender.0 s.voted.0 ≡ effect s r)
      (vote-effect s r place.0 g.there)

  pub clock-done : f.kind ≡ clock_heard → with_clock s f.sender.0 f.epoch.0 ≡ effect s r
  unfolding fields_of
  clock-done =
      by_fields_lem (λ (x : Fields). x.kind ≡ clock_heard → with_clock s x.sender.0 x.epoch.0 ≡ effect s r)
      (clock-effect s r place.0 g.there)

  pub propose_done : f.kind ≡ propose_now → with_block s (new_block f.name s.local.0 place.0 f.payload) s.local.0 ≡ effect s r
  unfolding fields_of
  propose_done =
      by_fields_lem (λ (x : Fields). x.kind ≡ propose_now → with_block s (new_block x.name s.local.0 place.0 x.payload) s.local.0 ≡ effect s r)
      (propose_effect_lem s r place.0 g.there)

  pub cast-done : f.kind ≡ cast_now → with_vote s place.0 s.own.0 s.local.0 ≡ effect s r
  cast-done e = cast-effect s r place.0 g.there (of_kind e)

  pub minute_done : f.kind ≡ minute_up → with_clock s s.own.0 (s.local.0 + 1) ≡ effect s r
  minute_done e = minute_effect_lem s r place.0 g.there (of_kind e)
