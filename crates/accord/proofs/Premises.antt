-- The run of a recording meets demand 3's premises event by event: 21 keeps the votes cast, 22 the names. Assumes nothing.
use Prim.Native.Nat.{ℕ, zero, suc, ◌≤◌, ◌<◌}
use mathlib.Core.Bool.{Bool, true, false, not, ◌&&◌}
use mathlib.Core.List.{List}
use mathlib.Core.Logic.{◌⊎◌, inl, inr}
use mathlib.Core.Path.{◌≡◌, refl, sym, ap, subst, ◌∙◌}
use native.Mathlib.Omega.{arith}
use lib.Dec.{eqb}
use lib.ListN.{length}
use borrow.Author.Tests.{eq-eqb, not-false}
use Rattle.table.specs.declared.Block.{Block}
use Rattle.table.specs.declared.State.{State}
use Rattle.table.specs.Rows.{most_nodes, rows, size, at, has_voter}
use Rattle.table.proofs.Laws.{not_both}
use Rattle.pala.specs.Answers.{number, taken}
use Rattle.pala.specs.Record.{record_bytes, kind_of, sender_of, name_of, is, proposal_heard, vote_heard, propose_now}
use Rattle.pala.specs.Run.{lent}
use Rattle.pala.specs.Safety.{Run, event_at, state_at, table_at, outcome_at, Honest, Cast, Held, Book, Fits}
use Rattle.pala.specs.Events.{EachTaken}
use Rattle.pala.specs.Step.{step, room}
use Rattle.pala.specs.Steps.{settled}
use Rattle.pala.proofs.Tests.{and_l, and_r, and_both, nand}
use Rattle.pala.proofs.Grown.{Grown, rows_settled}
use Rattle.pala.proofs.Keeps.{Proper}
use Rattle.pala.proofs.Moves.{Stepped, refused, took, record_length}
use Rattle.pala.proofs.Calls.{call_did}
use Rattle.pala.proofs.Demand.Changes.{new_place}
use Rattle.pala.proofs.Demand.Healthy.{did_grown}
use Rattle.pala.proofs.Demand.OwnVotes.{own-votes}
use Rattle.pala.proofs.Demand.Runs.{call_at, effect_at, fresh_none, Moved, Next, stayed, moved, next, starts, reached, tables_grow}
use Rattle.accord.specs.declared.Hall.{Hall}
use Rattle.accord.specs.Head.{nodes_of, in_set, gateway, honest_in}
use Rattle.accord.specs.Rulings.{table_of, named, shows, forged, clash, content_at, content_of}
use Rattle.accord.proofs.Scans.{any_hit}
use Rattle.accord.proofs.Halls.{Head}
use Rattle.accord.proofs.Played.{Hosted, honest_in_lem, honest_of}
use Rattle.accord.proofs.Blocks.{Entry, Stands, entry, Adds, stands_one, stands_fits, grown_stands, grown_stood, new_stands}
use Rattle.accord.proofs.OneBlock.{named_stands, clash_none, OneEntry, book_of, book-is}

-- the receiver and the record of an event
abbrev to_at : Run → ℕ → ℕ
to_at run k = (event_at run k).to

abbrev bytes_at : Run → ℕ → List ℕ
bytes_at run k = (event_at run k).bytes

-- a taken record is whole
taken_whole : (s : State) (r out : List ℕ) → Proper s → taken (step s r out).answer ≡ true → eqb (length r) record_bytes ≡ true
taken_whole s r out k e = go (call_did s r out k)
  where
    go : Stepped room s r out (step s r out) → eqb (length r) record_bytes ≡ true
    go (refused f _) = absurd (not_both e f)
    go (took _ p _ _) = eq-eqb (length r) record_bytes (record_length r out p.lengths)

-- a table shows a vote of node j for a name
abbrev Shown : List Block → ℕ → List ℕ → Type 0
Shown t j x = (p : ℕ) × (c : Entry) × Stands t p x c × (has_voter (at t p) j ≡ true)

-- 21 not given: an honest sender's own table shows its vote
forged_none : (h : Hall) (r : List ℕ) → forged h r ≡ false → is vote_heard r ≡ true → honest_in h (sender_of r) ≡ true
    → Shown (table_of h (sender_of r)) (sender_of r) (name_of r)
unfolding forged shows
forged_none h r e kind hj =
    let (p, l, y) = any_hit (size t) (λ q. named t (name_of r) q && has_voter (at t q) (sender_of r)) shown in (
      p,
      entry (content_at t p),
      named_stands p l (and_l (named t (name_of r) p) (has_voter (at t p) (sender_of r)) y),
      and_r (named t (name_of r) p) (has_voter (at t p) (sender_of r)) y,
    )
  where
    t : List Block
    t = table_of h (sender_of r)

    shown : shows t (sender_of r) (name_of r) ≡ true
    shown =
        not-false (shows t (sender_of r) (name_of r))
        (nand (is vote_heard r && honest_in h (sender_of r)) (not (shows t (sender_of r) (name_of r))) e
        (and_both (is vote_heard r) (honest_in h (sender_of r)) kind hj))

module _ (bytes : List ℕ) (head : Head bytes) (run : Run) (hosted : (k : ℕ) → k < length run → Hosted bytes head run k) where
  abbrev n : ℕ
  n = nodes_of bytes

  abbrev honest : ℕ → Bool
  honest = in_set bytes

  most : n ≤ most_nodes
  most = omega (arith, head.most)

  proper : (m i : ℕ) → i < n → Proper (state_at n run m i)
  proper m i l = (reached n i head.some most l run m).proper

  next_of : (m i : ℕ) → i < n → Next n run m i
  next_of m i l = next n i head.some most l run m

  -- ---- what the hall tested at an event

  module _ (k : ℕ) (l : k < length run) where
    abbrev h : Hall
    h = (hosted k l).hall

    state-is : (i : ℕ) → i < n → gateway h i ≡ state_at n run k i
    state-is = (hosted k l).reached.follows

    table_is : (i : ℕ) → i < n → table_of h i ≡ table_at n run k i
    unfolding table_of table_at
    table_is i b = ap rows (state-is i b)

    host_honest : (i : ℕ) → Honest n honest i → honest_in h i ≡ true
    host_honest i hi = honest_in_lem bytes head run (hosted k l).reached i (omega (arith, hi.0, head.most)) ∙ hi.1

    whole : eqb (length (bytes_at run k)) record_bytes ≡ true
    whole =
        let admits = (hosted k l).admits in
        let below : to_at run k < n = (honest_of bytes head run (hosted k l).reached (to_at run k) admits.honest).0 in
        taken_whole (gateway h (to_at run k)) (bytes_at run k) lent
        (subst Proper (sym (state-is (to_at run k) below)) (proper k (to_at run k) below)) admits.answered

    not-forged : forged h (bytes_at run k) ≡ false
    not-forged = nand (eqb (length (bytes_at run k)) record_bytes) (forged h (bytes_at run k)) (hosted k l).admits.genuine whole

    not-clash : clash h (gateway h (to_at run k)) (bytes_at run k) ≡ false
    not-clash =
        nand (eqb (length (bytes_at run k)) record_bytes) (clash h (gateway h (to_at run k)) (bytes_at run k)) (hosted k l).admits.single whole

    -- a vote heard under an honest number had been cast
    vote-cast : is vote_heard (bytes_at run k) ≡ true → Honest n honest (sender_of (bytes_at run k))
        → Cast n run k (sender_of (bytes_at run k)) (name_of (bytes_at run k))
    vote-cast kind hj =
        let (p, _, v, y) =
        subst (λ (t : List Block). Shown t j (name_of (bytes_at run k))) (table_is j hj.0)
        (forged_none h (bytes_at run k) not-forged kind (host_honest j hj)) in
        subst (Cast n run k j) v.named ((own-votes n j head.some most hj.0 run k p v.held).0 y)
      where
        j : ℕ
        j = sender_of (bytes_at run k)

    -- a name that an honest table has is the record's block
    entry_is : Adds (bytes_at run k) → (i p : ℕ) (c : Entry) → Honest n honest i → Stands (table_at n run k i) p (name_of (bytes_at run k)) c
        → (a : ℕ) → a < n → to_at run k ≡ a → c ≡ entry (content_of (state_at n run k a) (bytes_at run k))
    entry_is adds i p c hi v a b e =
        clash_none h (gateway h (to_at run k)) (bytes_at run k) not-clash adds i (omega (arith, hi.0, head.most)) (host_honest i hi) p c
        (subst (λ (t : List Block). Stands t p (name_of (bytes_at run k)) c) (sym (table_is i hi.0)) v)
        ∙ ap (λ (s : State). entry (content_of s (bytes_at run k))) (ap (gateway h) e ∙ state-is a b)

  -- ---- one name stands for one block

  -- what stands in an honest table after event m stood there, or came with the event
  data Came (m i p : ℕ) (x : List ℕ) (c : Entry) : Type 0 where
    old : Stands (table_at n run m i) p x c → Came m i p x c
    new : Moved n run m i → Adds (bytes_at run m) → x ≡ name_of (bytes_at run m) → c ≡ entry (content_of (state_at n run m i) (bytes_at run m)) → Came m i p x c

  after : (m i : ℕ) → i < n → Moved n run m i → Proper (settled (effect_at n run m i))
  after m i l w = subst Proper w.later (proper (suc m) i l)

  came : (m i p : ℕ) (x : List ℕ) (c : Entry) → i < n → Stands (table_at n run (suc m) i) p x c → Came m i p x c
  unfolding table_at
  came m i p x c l v = go (next_of m i l)
    where
      go : Next n run m i → Came m i p x c
      go (stayed _ e) = old (subst (λ (s : State). Stands (rows s) p x c) e v)
      go (moved w) = place (new_place (proper m i l) w.did p now.held.1)
        where
          u : State
          u = effect_at n run m i

          now : Stands (rows u) p x c
          now = subst (λ (t : List Block). Stands t p x c) (ap rows w.later ∙ rows_settled u) v

          place : (p < size (rows (state_at n run m i))) ⊎ (Adds (bytes_at run m) × (p ≡ u.count)) → Came m i p x c
          place (inl b) = old (grown_stood (did_grown (proper m i l) w.did) p (now.held.0, b) now)
          place (inr (adds, e)) =
              let same =
              stands_one (subst (λ q. Stands (rows u) q x c) e now) (new_stands (proper m i l) (bytes_at run m) (after m i l w) adds) in
              new w adds same.0 same.1

  one_entry : (m : ℕ) → OneEntry n honest (table_at n run m)
  unfolding table_at
  one_entry zero i j p q x c d hi hj v w =
      absurd (fresh_none n i p (subst (λ (s : State). Held (rows s) p) (starts n i head.some most hi.0 run) v.held))
  one_entry (suc m) i j p q x c d hi hj v w = go (one_entry m) (came m i p x c hi.0 v) (came m j q x d hj.0 w)
    where
      r : List ℕ
      r = bytes_at run m

      -- the record's block, and one of its name that stood
      met : (a b k : ℕ) (f g : Entry) → Honest n honest b → Moved n run m a → a < n → Adds r → x ≡ name_of r
          → f ≡ entry (content_of (state_at n run m a) r) → Stands (table_at n run m b) k x g → f ≡ g
      met a b k f g hb u l adds ex ef y =
          ef ∙ sym (entry_is m u.happened adds b k g hb (subst (λ z. Stands (table_at n run m b) k z g) ex y) a l u.its)

      go : OneEntry n honest (table_at n run m) → Came m i p x c → Came m j q x d → c ≡ d
      go ih (old a) (old b) = ih i j p q x c d hi hj a b
      go ih (new u adds ex ec) (old b) = met i j q c d hj u hi.0 adds ex ec b
      go ih (old a) (new u adds ex ed) = sym (met j i p d c hi u hj.0 adds ex ed a)
      go ih (new u adds ex ec) (new y _ _ ed) =
          ec ∙ ap (λ a. entry (content_of (state_at n run m a) r)) (sym u.its ∙ y.its) ∙ sym ed

  -- the tables at the end are a book for the whole run
  abbrev pub last_book : Book
  last_book = book_of n honest (table_at n run (length run))

  block-fits : (k : ℕ) → k < length run → Honest n honest (to_at run k) → taken (outcome_at n run k).answer ≡ true → Adds (bytes_at run k)
      → Fits last_book (rows (outcome_at n run k).state) (outcome_at n run k).state.count
  unfolding outcome_at table_at settled
  block-fits k l hi e adds = go (next_of k i hi.0)
    where
      i : ℕ
      i = to_at run k

      go : Next n run k i → Fits last_book (rows (call_at n run k i).state) (call_at n run k i).state.count
      go (stayed idle _) = absurd (not_both e (idle l refl))
      go (moved w) =
          subst (λ (s : State). Fits last_book (rows s) s.count) (sym w.settles)
          (subst (λ (t : List Block). Fits last_book t u.count) (sym (rows_settled u))
          (stands_fits v
          (book-is n honest (table_at n run (length run)) (one_entry (length run)) i u.count (name_of (bytes_at run k)) _ hi
          (grown_stands grown u.count v.held v))))
        where
          u : State
          u = effect_at n run k i

          v : Stands (rows u) u.count (name_of (bytes_at run k)) (entry (content_of (state_at n run k i) (bytes_at run k)))
          v = new_stands (proper k i hi.0) (bytes_at run k) (after k i hi.0 w) adds

          grown : Grown (rows u) (table_at n run (length run) i)
          grown =
              subst (λ (t : List Block). Grown t (table_at n run (length run) i)) (ap rows w.later ∙ rows_settled u)
              (tables_grow n i head.some most hi.0 run (suc k) (length run) l)

  -- the premises event by event
  pub each-taken : EachTaken n honest run last_book
  unfolding taken
  each-taken k l hi answered =
      record {
        vote = λ kind hj. vote-cast k l (eq-eqb (kind_of (bytes_at run k)) vote_heard kind) hj;
        block = λ kind. block-fits k l hi (eq-eqb (number (outcome_at n run k).answer) 0 answered) (adds kind);
      }
    where
      adds : (kind_of (bytes_at run k) ≡ proposal_heard) ⊎ (kind_of (bytes_at run k) ≡ propose_now) → Adds (bytes_at run k)
      adds (inl e) = inl (eq-eqb (kind_of (bytes_at run k)) proposal_heard e)
      adds (inr e) = inr (eq-eqb (kind_of (bytes_at run k)) propose_now e)
