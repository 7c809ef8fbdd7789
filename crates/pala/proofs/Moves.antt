-- What a taken record did, kind by kind, from the rows of 01 that it passed. Assumes nothing.
use Prim.Native.Nat.{ℕ, zero, suc, ◌+◌, ◌≤◌, ◌<◌}
use mathlib.Core.Bool.{Bool, true, false, not, ◌&&◌, ◌||◌}
use mathlib.Core.List.{List, [], ◌∷◌}
use mathlib.Core.Logic.{◌≢◌, ◌⊎◌, inl, inr}
use mathlib.Core.Path.{◌≡◌, refl, sym, ap, ◌∙◌}
use native.Mathlib.Omega.{arith}
use lib.Dec.{eqb, ltb, leb}
use lib.ListN.{length, get_or, take, drop, replicate, length-take, length-drop, length-replicate}
use borrow.Author.Tests.{eqb-true, eqb-false, ltb-false, leb-false, not-false}
use Rattle.table.specs.declared.Answer.{Answer}
use Rattle.table.specs.declared.Block.{Block}
use Rattle.table.specs.declared.State.{State}
use Rattle.table.specs.Scan.{pick}
use Rattle.table.specs.Bytes.{zeros}
use Rattle.table.specs.Rows.{most_nodes, name_bytes, payload_bytes, rows, size, at, find, has_voter}
use Rattle.table.proofs.Laws.{not_both, pick_yes, pick_no, pick-case, lowest_hit}
use Rattle.pala.specs.Answers.{taken, lowest_of, shaped_rows, bad_length, bad_sender, bad_epoch, bad_name, unknown, bad_order, bad_turn, repeats, nothing, full}
use Rattle.pala.specs.Counts.{top_epoch}
use Rattle.pala.specs.Record.{record_bytes, sender_of, epoch_of, name_of, parent_name_of, payload_of, is, known_kind, heard, unused_zero, proposal_heard, vote_heard, clock_heard, propose_now, cast_now, minute_up}
use Rattle.pala.specs.Rules.{epoch_at, freshest, votable, ballot}
use Rattle.pala.specs.Effects.{new_block, with_block, with_vote, with_clock, proposal_effect, vote_effect, clock_effect, propose_effect, picked, cast_effect, minute_effect, effect}
use Rattle.pala.specs.Steps.{settled}
use Rattle.pala.specs.Step.{Outcome, step_shaped, outcome}
use Rattle.pala.proofs.Tests.{and_l, nor_l, nor_r, nand, or_l, or_r, either}
use Rattle.pala.proofs.Sized.{RowSized}
use Rattle.pala.proofs.Places.{find_misses, freshest_in}

-- ---- the rows passed

-- every test of some rows fails; every answer of them refuses
abbrev AllFalse : List (Bool × Answer) → Type 0
AllFalse [] = Unit
AllFalse (row ∷ more) = (row.0 ≡ false) × AllFalse more

abbrev AllRefuse : List (Bool × Answer) → Type 0
AllRefuse [] = Unit
AllRefuse (row ∷ more) = (taken row.1 ≡ false) × AllRefuse more

none_applies : (l : List (Bool × Answer)) → AllRefuse l → taken (lowest_of l) ≡ true → AllFalse l
unfolding lowest_of pick
none_applies [] h e = tt
none_applies (row ∷ more) h e = go row.0 refl e (none_applies more h.1)
  where
    go : (b : Bool) → row.0 ≡ b → taken (pick b row.1 (lowest_of more)) ≡ true → (taken (lowest_of more) ≡ true → AllFalse more) → (row.0 ≡ false) × AllFalse more
    go true d e r = absurd (not_both e h.0)
    go false d e r = (d, r e)

-- the rows that a taken record passed
pub record Passed (space : ℕ → Bool) (s : State) (r out : List ℕ) : Type 0 where
  pub whole : s.torn ≡ false
  pub lengths : bad_length r out ≡ false
  pub kind : not (known_kind r) ≡ false
  pub filler : not (unused_zero r) ≡ false
  pub sender : bad_sender s r ≡ false
  pub epoch : bad_epoch s r ≡ false
  pub name : bad_name (rows s) r ≡ false
  pub known : unknown (rows s) r ≡ false
  pub order : bad_order s r ≡ false
  pub turn : bad_turn s r ≡ false
  pub new : repeats s r ≡ false
  pub ballots : nothing s r ≡ false
  pub room : full space s r ≡ false

pub passed : (space : ℕ → Bool) (s : State) (r out : List ℕ) → taken (lowest_of (shaped_rows space s r out)) ≡ true → Passed space s r out
unfolding shaped_rows taken
passed space s r out e =
    go (none_applies (shaped_rows space s r out) (refl, (refl, (refl, (refl, (refl, (refl, (refl, (refl, (refl, (refl, (refl, (refl, (refl, tt))))))))))))) e)
  where
    go : AllFalse (shaped_rows space s r out) → Passed space s r out
    go h =
        record {
          whole = h.0;
          lengths = h.1.0;
          kind = h.1.1.0;
          filler = h.1.1.1.0;
          sender = h.1.1.1.1.0;
          epoch = h.1.1.1.1.1.0;
          name = h.1.1.1.1.1.1.0;
          known = h.1.1.1.1.1.1.1.0;
          order = h.1.1.1.1.1.1.1.1.0;
          turn = h.1.1.1.1.1.1.1.1.1.0;
          new = h.1.1.1.1.1.1.1.1.1.1.0;
          ballots = h.1.1.1.1.1.1.1.1.1.1.1.0;
          room = h.1.1.1.1.1.1.1.1.1.1.1.1.0;
        }

-- ---- what it did

-- a block that may come next to a table: a new name, a parent in the table of a smaller epoch, an epoch in range, no voters
pub record NewBlock (t : List Block) (b : Block) : Type 0 where
  pub sized : RowSized b
  pub named : zeros b.name ≡ false
  pub alone : (q : ℕ) → q < size t → (at t q).name ≢ b.name
  pub lower : b.parent.0 < size t
  pub earlier : epoch_at t b.parent.0 < b.epoch.0
  pub range : b.epoch.0 < top_epoch
  pub silent : (i : ℕ) → has_voter b i ≡ false

-- what a taken record did to a state
pub data Did (space : ℕ → Bool) (s : State) (r : List ℕ) (u : State) : Type 0 where
  added : (b : Block) (proposed : ℕ) → (is proposal_heard r ≡ true) ⊎ (is propose_now r ≡ true)
      → NewBlock (rows s) b → space s.count ≡ true → u ≡ with_block s b proposed → Did space s r u
  counted : is vote_heard r ≡ true → 0 < find (rows s) (name_of r) → find (rows s) (name_of r) < size (rows s)
      → sender_of r < s.n → sender_of r ≢ s.own.0
      → u ≡ with_vote s (find (rows s) (name_of r)) (sender_of r) s.voted.0 → Did space s r u
  cast : is cast_now r ≡ true → picked s < size (rows s)
      → votable s.n (rows s) s.local.0 s.bar.0 s.voted.0 (picked s) ≡ true
      → u ≡ with_vote s (picked s) s.own.0 s.local.0 → Did space s r u
  clocked : (i c : ℕ) → is vote_heard r ≡ false → is cast_now r ≡ false → i < s.n → u ≡ with_clock s i c → Did space s r u

-- the fields of a record of 96 bytes
field_length : (r : List ℕ) (from many : ℕ) → length r ≡ record_bytes → from + many ≤ record_bytes → length (take many (drop from r)) ≡ many
field_length r from many e h = omega (arith, length-take many (drop from r), length-drop from r)

pub name-length : (r : List ℕ) → length r ≡ record_bytes → length (name_of r) ≡ name_bytes
unfolding name_of
name-length r e = field_length r 8 name_bytes e (omega arith)

pub payload-length : (r : List ℕ) → length r ≡ record_bytes → length (payload_of r) ≡ payload_bytes
unfolding payload_of
payload-length r e = field_length r 72 payload_bytes e (omega arith)

pub record_length : (r out : List ℕ) → bad_length r out ≡ false → length r ≡ record_bytes
unfolding bad_length
record_length r out h =
    eqb-true (length r) record_bytes
    (and_l (eqb (length r) record_bytes) (eqb (length out) record_bytes)
    (not-false (eqb (length r) record_bytes && eqb (length out) record_bytes) h))

no_voters_lem : (k i : ℕ) → get_or (replicate k false) i false ≡ false
no_voters_lem zero i = refl
no_voters_lem (suc k) zero = refl
no_voters_lem (suc k) (suc i) = no_voters_lem k i

-- a block made of a record's name and payload
made_sized : (r : List ℕ) (epoch parent : ℕ) → length r ≡ record_bytes → RowSized (new_block (name_of r) epoch parent (payload_of r))
unfolding new_block
made_sized r epoch parent e =
    record { name = name-length r e; payload = payload-length r e; voters = length-replicate most_nodes false }

made_silent : (name : List ℕ) (epoch parent : ℕ) (payload : List ℕ) (i : ℕ) → has_voter (new_block name epoch parent payload) i ≡ false
unfolding new_block has_voter
made_silent name epoch parent payload i = no_voters_lem most_nodes i

-- a new name: not of zeros, and not in the table
module _ (t : List Block) (r : List ℕ) (h : bad_name t r ≡ false) (k : (is proposal_heard r || is propose_now r) ≡ true) where
  new_tests : (zeros (name_of r) || ltb (find t (name_of r)) (size t)) ≡ false
  unfolding bad_name
  new_tests = nand (is proposal_heard r || is propose_now r) (zeros (name_of r) || ltb (find t (name_of r)) (size t)) h k

  new-named : zeros (name_of r) ≡ false
  new-named = nor_l (zeros (name_of r)) (ltb (find t (name_of r)) (size t)) new_tests

  new_alone : (q : ℕ) → q < size t → (at t q).name ≢ name_of r
  new_alone =
      find_misses t (name_of r)
      (ltb-false (find t (name_of r)) (size t) (nor_r (zeros (name_of r)) (ltb (find t (name_of r)) (size t)) new_tests))

-- room for one more
new-room : (space : ℕ → Bool) (s : State) (r : List ℕ) → full space s r ≡ false → (is proposal_heard r || is propose_now r) ≡ true → space s.count ≡ true
unfolding full
new-room space s r h k =
    not-false (space s.count) (nand (is proposal_heard r || is propose_now r) (not (space s.count)) h k)

-- rows 7, 9 and 10 for kinds 1 and 4, row 6 for every kind
module _ (s : State) (r : List ℕ) where
  heard_range : bad_epoch s r ≡ false → is proposal_heard r ≡ true → epoch_of r < top_epoch
  unfolding bad_epoch
  heard_range h k =
      let a : (is proposal_heard r && (eqb (epoch_of r) 0 || leb top_epoch (epoch_of r))) ≡ false = search (nor_l, nor_r) in
      leb-false top_epoch (epoch_of r)
      (nor_r (eqb (epoch_of r) 0) (leb top_epoch (epoch_of r)) (nand (is proposal_heard r) (eqb (epoch_of r) 0 || leb top_epoch (epoch_of r)) a k))

  own_range : bad_epoch s r ≡ false → is propose_now r ≡ true → s.local.0 < top_epoch
  unfolding bad_epoch
  own_range h k =
      let a : ((is propose_now r || is minute_up r) && leb top_epoch s.local.0) ≡ false = search (nor_l, nor_r) in
      leb-false top_epoch s.local.0
      (nand (is propose_now r || is minute_up r) (leb top_epoch s.local.0) a (or_l (is propose_now r) (is minute_up r) k))

  parent_known : unknown (rows s) r ≡ false → is proposal_heard r ≡ true → find (rows s) (parent_name_of r) < size (rows s)
  unfolding unknown
  parent_known h k =
      let a : (is proposal_heard r && leb (size (rows s)) (find (rows s) (parent_name_of r))) ≡ false = search nor_l in
      leb-false (size (rows s)) (find (rows s) (parent_name_of r)) (nand (is proposal_heard r) (leb (size (rows s)) (find (rows s) (parent_name_of r))) a k)

  heard_order : bad_order s r ≡ false → is proposal_heard r ≡ true → epoch_at (rows s) (find (rows s) (parent_name_of r)) < epoch_of r
  unfolding bad_order
  heard_order h k =
      let above = epoch_at (rows s) (find (rows s) (parent_name_of r)) in
      let a : (is proposal_heard r && leb (epoch_of r) above) ≡ false = search nor_l in
      leb-false (epoch_of r) above (nand (is proposal_heard r) (leb (epoch_of r) above) a k)

  own_order : bad_order s r ≡ false → is propose_now r ≡ true → epoch_at (rows s) (freshest s.n (rows s)) < s.local.0
  unfolding bad_order
  own_order h k =
      let above = epoch_at (rows s) (freshest s.n (rows s)) in
      let a : (is propose_now r && leb s.local.0 above) ≡ false = search (nor_l, nor_r) in
      leb-false s.local.0 above (nand (is propose_now r) (leb s.local.0 above) a k)

  sender_below : bad_sender s r ≡ false → sender_of r < s.n
  unfolding bad_sender
  sender_below h = let a : leb s.n (sender_of r) ≡ false = search nor_l in leb-false s.n (sender_of r) a

-- row 9 and row 6 for kind 2
module _ (s : State) (r : List ℕ) (k : is vote_heard r ≡ true) where
  vote_tests : unknown (rows s) r ≡ false → (eqb (find (rows s) (name_of r)) 0 || leb (size (rows s)) (find (rows s) (name_of r))) ≡ false
  unfolding unknown
  vote_tests h =
      let tests = eqb (find (rows s) (name_of r)) 0 || leb (size (rows s)) (find (rows s) (name_of r)) in
      let a : (is vote_heard r && tests) ≡ false = search (nor_l, nor_r) in
      nand (is vote_heard r) tests a k

  vote_above : unknown (rows s) r ≡ false → 0 < find (rows s) (name_of r)
  vote_above h =
      let place = find (rows s) (name_of r) in
      let d : place ≢ 0 = eqb-false place 0 (nor_l (eqb place 0) (leb (size (rows s)) place) (vote_tests h)) in
      omega arith

  vote_in : unknown (rows s) r ≡ false → find (rows s) (name_of r) < size (rows s)
  vote_in h =
      let place = find (rows s) (name_of r) in
      leb-false (size (rows s)) place (nor_r (eqb place 0) (leb (size (rows s)) place) (vote_tests h))

  vote_other : bad_sender s r ≡ false → sender_of r ≢ s.own.0
  unfolding bad_sender heard
  vote_other h =
      let own = eqb (sender_of r) s.own.0 in
      let hears : heard r ≡ true = ap (λ (x : ℕ). leb x clock_heard) (eqb-true (get_or r 0 0) vote_heard k) in
      eqb-false (sender_of r) s.own.0
      (sym (pick_yes (heard r) own (not own) hears) ∙ nor_r (leb s.n (sender_of r)) (pick (heard r) own (not own)) h)

-- a record has one kind
pub other_kind : (r : List ℕ) (a b : ℕ) → is a r ≡ true → eqb a b ≡ false → is b r ≡ false
other_kind r a b k e = ap (λ (x : ℕ). eqb x b) (eqb-true (get_or r 0 0) a k) ∙ e

pub block_no_cast : (r : List ℕ) → (is proposal_heard r ≡ true) ⊎ (is propose_now r ≡ true) → is cast_now r ≡ false
block_no_cast r (inl k) = other_kind r proposal_heard cast_now k refl
block_no_cast r (inr k) = other_kind r propose_now cast_now k refl

module _ (space : ℕ → Bool) (s : State) (r out : List ℕ) (p : Passed space s r out) where
  did_proposal : is proposal_heard r ≡ true → Did space s r (proposal_effect s r)
  unfolding proposal_effect new_block
  did_proposal k =
      let kinds : (is proposal_heard r || is propose_now r) ≡ true = or_l (is proposal_heard r) (is propose_now r) k in
      let parent = find (rows s) (parent_name_of r) in
      added (new_block (name_of r) (epoch_of r) parent (payload_of r)) s.proposed.0 (inl k)
      (record {
        sized = made_sized r (epoch_of r) parent (record_length r out p.lengths);
        named = new-named (rows s) r p.name kinds;
        alone = new_alone (rows s) r p.name kinds;
        lower = parent_known s r p.known k;
        earlier = heard_order s r p.order k;
        range = heard_range s r p.epoch k;
        silent = made_silent (name_of r) (epoch_of r) parent (payload_of r);
      })
      (new-room space s r p.room kinds) refl

  did_propose : 0 < size (rows s) → is propose_now r ≡ true → Did space s r (propose_effect s r)
  unfolding propose_effect new_block
  did_propose some k =
      let kinds : (is proposal_heard r || is propose_now r) ≡ true = or_r (is proposal_heard r) (is propose_now r) k in
      let parent = freshest s.n (rows s) in
      added (new_block (name_of r) s.local.0 parent (payload_of r)) s.local.0 (inr k)
      (record {
        sized = made_sized r s.local.0 parent (record_length r out p.lengths);
        named = new-named (rows s) r p.name kinds;
        alone = new_alone (rows s) r p.name kinds;
        lower = freshest_in s.n (rows s) some;
        earlier = own_order s r p.order k;
        range = own_range s r p.epoch k;
        silent = made_silent (name_of r) s.local.0 parent (payload_of r);
      })
      (new-room space s r p.room kinds) refl

  did_vote : is vote_heard r ≡ true → Did space s r (vote_effect s r)
  unfolding vote_effect
  did_vote k =
      counted k (vote_above s r k p.known) (vote_in s r k p.known) (sender_below s r p.sender) (vote_other s r k p.sender) refl

  did_cast : is cast_now r ≡ true → Did space s r (cast_effect s (picked s))
  unfolding cast_effect picked nothing ballot
  did_cast k =
      let inside : picked s < size (rows s) = leb-false (size (rows s)) (picked s) (nand (is cast_now r) (leb (size (rows s)) (picked s)) p.ballots k) in
      cast k inside (lowest_hit (size (rows s)) (λ q. votable s.n (rows s) s.local.0 s.bar.0 s.voted.0 q) inside) refl

  -- "First the direct effect."
  pub did : 0 < size (rows s) → s.own.0 < s.n → Did space s r (effect s r)
  unfolding effect clock_effect minute_effect
  did some own =
      pick-case (Did space s r) (is proposal_heard r) _ _ did_proposal
      (λ k1. pick-case (Did space s r) (is vote_heard r) _ _ did_vote
      (λ k2. pick-case (Did space s r) (is clock_heard r) _ _
      (λ k3. clocked (sender_of r) (epoch_of r) k2 (other_kind r clock_heard cast_now k3 refl) (sender_below s r p.sender) refl)
      (λ k3. pick-case (Did space s r) (is propose_now r) _ _ (did_propose some)
      (λ k4. pick-case (Did space s r) (is cast_now r) _ _ did_cast (λ k5. clocked s.own.0 (s.local.0 + 1) k2 k5 own refl)))))

-- ---- a call on a well-shaped state

-- its outcome: refused and the same state, or taken with what it did, then settled
pub data Stepped (space : ℕ → Bool) (s : State) (r out : List ℕ) (o : Outcome) : Type 0 where
  refused : taken o.answer ≡ false → o.state ≡ s → Stepped space s r out o
  took : taken o.answer ≡ true → Passed space s r out → Did space s r (effect s r) → o.state ≡ settled (effect s r) → Stepped space s r out o

pub stepped : (space : ℕ → Bool) (s : State) (r out : List ℕ) → 0 < size (rows s) → s.own.0 < s.n → Stepped space s r out (step_shaped space s r out)
unfolding step_shaped outcome
stepped space s r out some own = go (either (taken a))
  where
    a : Answer
    a = lowest_of (shaped_rows space s r out)

    go : (taken a ≡ true) ⊎ (taken a ≡ false) → Stepped space s r out (step_shaped space s r out)
    go (inl k) =
        took k (passed space s r out k) (did space s r out (passed space s r out k) some own)
        (pick_yes (taken a) (settled (effect s r)) s k)
    go (inr k) = refused k (pick_no (taken a) (settled (effect s r)) s k)
