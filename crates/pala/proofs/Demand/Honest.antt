-- The premises of demand 3 over a run give what `Chains` asks of honest votes. Assumes nothing.
use Prim.Native.Nat.{ℕ, zero, suc, ◌≤◌, ◌<◌}
use mathlib.Core.Bool.{Bool, true, false}
use mathlib.Core.List.Memᴰ
use mathlib.Core.List.{List, [], ◌∷◌}
use mathlib.Core.Path.{◌≡◌, sym, ap, subst, ◌∙◌}
use native.Mathlib.Decide.{dec_lt, ℕ_discrete}
use native.Mathlib.Omega.{arith}
use lib.ListN.{length}
use Rattle.table.specs.declared.Block.{Block}
use Rattle.table.specs.declared.State.{State}
use Rattle.table.specs.Scan.{pick, count}
use Rattle.table.specs.Bytes.{same}
use Rattle.table.specs.Rows.{most_nodes, rows, size, at, has_voter, votes, fresh}
use Rattle.pala.specs.Counts.{quorum, no_name}
use Rattle.pala.specs.Effects.{picked, effect}
use Rattle.pala.specs.Rules.{epoch_at, parent_of, notarized}
use Rattle.pala.specs.Steps.{settled}
use Rattle.pala.specs.Safety.{Run, event_at, state_at, table_at, Honest, Cast, Held, Book, Premises}
use Rattle.table.proofs.Laws.{pick_yes, pick_no, count_cut, same_refl, same_false, not_both}
use Rattle.pala.proofs.Shapes.{block_voter}
use Rattle.pala.proofs.Places.{parent_below}
use Rattle.pala.proofs.Demand.Quorums.{overlap}
use Rattle.pala.proofs.Demand.Chains.{Keeps}
use Rattle.pala.proofs.Demand.Log.{Vote, In, Sane, sane_start}
use Rattle.pala.proofs.Demand.Ancestors.{notarized-votes}
use Rattle.pala.proofs.Demand.Freshest.{Kept}
use Rattle.pala.proofs.Demand.Sound.{Sound, shaped_sound, not_root}
use Rattle.pala.proofs.Demand.Healthy.{Healthy}
use Rattle.pala.proofs.Demand.Voting.{Logged, vote_at, Spoke, silent, spoke, did_spoke}
use Rattle.pala.proofs.Demand.Casts.{cast_later, kind_at, happened-at, its-at, taken_at, name-at}
use Rattle.pala.proofs.Demand.Runs.{Next, stayed, moved, next, starts, fresh-epoch, reached, reached-same}
use Rattle.pala.proofs.Demand.Names.{Faithful}

-- the book's epoch and parent of a name; the genesis has epoch 0
unfoldable pub book_epoch : Book → List ℕ → ℕ
book_epoch book x = pick (same x no_name) 0 (book x).epoch

unfoldable pub book_parent : Book → List ℕ → List ℕ
book_parent book x = (book x).parent

module _ (n : ℕ) (honest : ℕ → Bool) (run : Run) (pr : Premises n honest run) where
  -- the book of the premises, as `Chains` reads it
  abbrev pub epoch : List ℕ → ℕ
  epoch = book_epoch pr.book

  abbrev pub parent : List ℕ → List ℕ
  parent = book_parent pr.book

  -- every honest state is healthy, its table sound, its kept block the parent of a firm normal one
  pub healthy : (m i : ℕ) → Honest n honest i → Healthy (state_at n run m i)
  healthy m i hi = reached n i pr.some pr.most hi.0 run m

  pub nodes-same : (m i : ℕ) → Honest n honest i → (state_at n run m i).n ≡ n
  nodes-same m i hi = (reached-same n i pr.some pr.most hi.0 run m).0

  pub table_sound : (m i : ℕ) → Honest n honest i → Sound n (table_at n run m i)
  unfolding table_at
  table_sound m i hi = subst (λ k. Sound k (rows (state_at n run m i))) (nodes-same m i hi) (shaped_sound (state_at n run m i) (healthy m i hi).proper)

  pub table_kept : (m i : ℕ) → Honest n honest i → Kept n (table_at n run m i) (state_at n run m i).kept.0
  unfolding table_at
  table_kept m i hi =
      subst (λ k. Kept k (rows (state_at n run m i)) (state_at n run m i).kept.0) (nodes-same m i hi) (healthy m i hi).kept

  -- honest tables hold the book's blocks
  pub faithful : (m i : ℕ) → Honest n honest i → Faithful epoch parent n (table_at n run m i)
  unfolding book_epoch book_parent
  faithful m i hi =
      record {
        sound = sound;
        epochs = λ p h. epochs p h (ℕ_discrete p 0);
        parents = λ p pos h. sym (pr.fits m i p hi (pos, h)).parent;
      }
    where
      t : List Block
      t = table_at n run m i

      sound : Sound n t
      sound = table_sound m i hi

      epochs : (p : ℕ) → p < size t → Dec (p ≡ 0) → epoch (at t p).name ≡ epoch_at t p
      epochs p h (yes z) =
          pick_yes (same (at t p).name no_name) 0 (pr.book (at t p).name).epoch
          (ap (λ x. same x no_name) (ap (λ q. (at t q).name) z ∙ sound.root_name) ∙ same_refl no_name)
          ∙ sym (ap (epoch_at t) z ∙ sound.root_epoch)
      epochs p h (no z) =
          let pos : 0 < p = omega arith in
          pick_no (same (at t p).name no_name) 0 (pr.book (at t p).name).epoch (same_false (at t p).name no_name (not_root sound p pos h))
          ∙ sym (pr.fits m i p hi (pos, h)).epoch

  -- a name notarized in an honest table, and a name that an honest gateway votes for
  pub record Notarized (x : List ℕ) : Type 0 where
    pub moment : ℕ
    pub by : ℕ
    pub honestly : Honest n honest by
    pub place : ℕ
    pub held : Held (table_at n run moment by) place
    pub named : (at (table_at n run moment by) place).name ≡ x
    pub enough : notarized n (table_at n run moment by) place ≡ true

  pub record VotedFor (i : ℕ) (x : List ℕ) : Type 0 where
    pub honestly : Honest n honest i
    pub moment : ℕ
    pub was : Cast n run moment i x

  -- the vote for a name, by the book
  vote_for : List ℕ → Vote (List ℕ)
  vote_for x = record { name = x; epoch = epoch x; parent_epoch = epoch (parent x) }

  -- by each moment an honest gateway's casts stand in a log that fits its numbers
  record Recorded (m i : ℕ) : Type 0 where
    log : List (Vote (List ℕ))
    fits : Logged log (state_at n run m i)
    all : (x : List ℕ) → Cast n run m i x → In (vote_for x) log

  -- nothing was cast at the moment's own event
  quiet : (m i : ℕ) → ((x : List ℕ) (c : Cast n run (suc m) i x) → c.event ≡ m → ⊥) → (r : Recorded m i)
      → Logged r.log (state_at n run (suc m) i) → Recorded (suc m) i
  quiet m i never r l =
      record {
        log = r.log;
        fits = l;
        all = λ x c.
            elim (dec_lt c.event m) [
              | yes h ↦ r.all x (cast_later (suc m) m c h)
              | no h ↦ absurd (never x c (omega (arith, c.before)))
            ];
      }

  -- the vote for a block of an honest table is the book's
  book-vote : (m i : ℕ) → Honest n honest i → (p : ℕ) → 0 < p → p < size (table_at n run m i)
      → vote_for (at (table_at n run m i) p).name ≡ vote_at (table_at n run m i) p
  unfolding vote_for vote_at
  book-vote m i hi p pos h =
      λ j. record { name = (at t p).name; epoch = f.epochs p h j; parent_epoch = up j }
    where
      t : List Block
      t = table_at n run m i

      f : Faithful epoch parent n t
      f = faithful m i hi

      up : epoch (parent (at t p).name) ≡ epoch_at t (parent_of t p)
      up = ap epoch (f.parents p pos h) ∙ f.epochs (parent_of t p) (omega (arith, parent_below t p pos))

  recorded : (m i : ℕ) → Honest n honest i → Recorded m i
  unfolding fresh table_at
  recorded zero i hi =
      record {
        log = [];
        fits = subst (Logged []) (sym (starts n i pr.some pr.most hi.0 run)) started;
        all = λ x c. absurd (omega (arith, c.before));
      }
    where
      started : Logged [] (fresh n i)
      started = subst (Sane 0 [] 1 0 0) (sym (fresh-epoch n i pr.some pr.most hi.0)) sane_start
  recorded (suc m) i hi = go (recorded m i hi) (next n i pr.some pr.most hi.0 run m)
    where
      s : State
      s = state_at n run m i

      t : List Block
      t = rows s

      r : List ℕ
      r = (event_at run m).bytes

      told : (w : Recorded m i) → state_at n run (suc m) i ≡ settled (effect s r) → Spoke w.log s r (effect s r) → Recorded (suc m) i
      told w e (silent k l) =
          quiet m i (λ x c z. not_both (kind_at c z) k) w (subst (Logged w.log) (sym e) l)
      told w e (spoke k pos within l) =
          record {
            log = vote_at t (picked s) ∷ w.log;
            fits = subst (Logged (vote_at t (picked s) ∷ w.log)) (sym e) l;
            all = λ x c.
                elim (dec_lt c.event m) [
                  | yes h ↦ Memᴰ.tail (w.all x (cast_later (suc m) m c h))
                  | no h ↦
                      let z : c.event ≡ m = omega (arith, c.before) in
                      Memᴰ.head (sym (ap vote_for (name-at c z (healthy m i hi).proper)) ∙ book-vote m i hi (picked s) pos within)
                ];
          }

      go : Recorded m i → Next n run m i → Recorded (suc m) i
      go w (stayed not_taken e) =
          quiet m i (λ x c z. not_both (taken_at c z) (not_taken (happened-at c z) (its-at c z))) w (subst (Logged w.log) (sym e) w.fits)
      go w (moved v) = told w v.later (did_spoke (healthy m i hi).proper w.fits v.did)

  -- a notarized name's voters are a quorum of the n
  enough_voters : {x : List ℕ} (w : Notarized x)
      → quorum n ≤ count n (λ j. has_voter (at (table_at n run w.moment w.by) w.place) j)
  unfolding votes
  enough_voters w =
      subst (λ k. quorum n ≤ k) (count_cut most_nodes n (λ j. has_voter b j) pr.most others)
      (notarized-votes n t w.place w.held.0 w.enough)
    where
      t : List Block
      t = table_at n run w.moment w.by

      b : Block
      b = at t w.place

      others : (j : ℕ) → n ≤ j → j < most_nodes → has_voter b j ≡ false
      others = block_voter n t w.place ((table_sound w.moment w.by w.honestly).block w.place w.held.0 w.held.1)

  -- a voter that an honest table shows had cast the vote
  voted : {x : List ℕ} (w : Notarized x) (j : ℕ) → Honest n honest j
      → has_voter (at (table_at n run w.moment w.by) w.place) j ≡ true → VotedFor j x
  voted w j hj v =
      record {
        honestly = hj;
        moment = w.moment;
        was = subst (Cast n run w.moment j) w.named (pr.cast w.moment w.by w.place j w.honestly hj w.held v);
      }

  -- a vote that was cast stands in the log of the whole run
  in_log : {i : ℕ} {x : List ℕ} (hi : Honest n honest i) → VotedFor i x → In (vote_for x) (recorded (length run) i hi).log
  in_log {i} {x} hi v =
      (recorded (length run) i hi).all x (cast_later v.moment (length run) v.was v.was.happened)

  -- what the votes of honest gateways keep to
  pub keeps : Keeps no_name epoch parent 0 VotedFor Notarized
  unfolding vote_for
  keeps =
      record {
        shares = λ {x} {y} a b.
            let (j, below, f, g, h) =
            overlap n (λ j. has_voter (at (table_at n run a.moment a.by) a.place) j)
            (λ j. has_voter (at (table_at n run b.moment b.by) b.place) j) honest
            (enough_voters a) (enough_voters b) pr.few_faulty in
            (j, voted a j (below, h) f, voted b j (below, h) g);
        once = λ {i} {x} {y} v w e.
            (recorded (length run) i v.honestly).fits.once (in_log v.honestly v) (in_log v.honestly w) e;
        monotone = λ {i} {x} {y} v w l.
            (recorded (length run) i v.honestly).fits.monotone (in_log v.honestly v) (in_log v.honestly w) l;
      }
