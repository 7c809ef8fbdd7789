-- A recording's taken records are a run of demand 3, and the hall has its gateways' states at every moment. Assumes nothing.
use Prim.Native.Nat.{ℕ, suc, ◌≤◌, ◌<◌}
use mathlib.Core.Bool.{Bool, true, false}
use mathlib.Core.List.{List, [], ◌∷◌}
use mathlib.Core.Logic.{◌⊎◌, inl, inr}
use mathlib.Core.Path.{◌≡◌, refl, sym, ap, subst, ◌∙◌}
use native.Mathlib.Decide.{dec_lt, ℕ_discrete}
use native.Mathlib.Omega.{arith}
use lib.ListN.{length, get_or, drop, length-drop, length-set}
use lib.Seq.{drop-cons}
use Rattle.table.specs.declared.State.{State}
use Rattle.table.specs.Scan.{pick}
use Rattle.table.proofs.Laws.{not_both, pick_yes, pick_no}
use Rattle.pala.specs.Answers.{taken}
use Rattle.pala.specs.Run.{lent}
use Rattle.pala.specs.Safety.{Event, Run, event_at, follow, state_at, Honest}
use Rattle.pala.specs.Step.{Outcome, step}
use Rattle.pala.proofs.Tests.{either}
use Rattle.pala.proofs.Demand.Runs.{call_at, Next, stayed, moved, next}
use Rattle.accord.specs.declared.Hall.{Hall}
use Rattle.accord.specs.Head.{most_gateways, nodes_of, in_set, fresh_hall, gateway, honest_in}
use Rattle.accord.specs.Rulings.{verdict, passes, seated, hall_after}
use Rattle.accord.specs.Text.{receiver_of, record_of, hall_played}
use Rattle.accord.proofs.Halls.{Head, Allowed, allowed, fresh-gateway, fresh_honest, honest_below, hall_moves, hall_stays, seated-same, seated_other}

-- a record of a recording as an event
abbrev pub event_of : List ℕ → Event
event_of x = record { to = receiver_of x; bytes = record_of x; buffer = lent }

-- the hall after it
abbrev pub hall_next : Hall → List ℕ → Hall
hall_next h x = hall_after h (receiver_of x) (record_of x)

abbrev takes : Hall → List ℕ → Bool
takes h x = passes (verdict h (receiver_of x) (record_of x))

-- what its receiver hands back
abbrev call : Hall → List ℕ → Outcome
call h x = step (gateway h (receiver_of x)) (record_of x) lent

-- the records that are taken
unfoldable pub events : Hall → List (List ℕ) → Run
unfolding pick passes verdict hall_after
events h [] = []
events h (x ∷ more) =
    pick (takes h x) (event_of x ∷ events (hall_next h x) more) (events (hall_next h x) more)

module _ (bytes : List ℕ) (head : Head bytes) (run : Run) where
  -- a hall at a moment of the run
  pub record Reached (h : Hall) (m : ℕ) : Type 0 where
    pub seats : length h.states ≡ most_gateways
    pub honests : h.honest ≡ (fresh_hall bytes).honest
    pub follows : (i : ℕ) → i < nodes_of bytes → gateway h i ≡ state_at (nodes_of bytes) run m i

  pub reached-start : Reached (fresh_hall bytes) 0
  unfolding fresh_hall state_at follow
  reached-start =
      record {
        seats = refl;
        honests = refl;
        follows = λ i l. fresh-gateway bytes i (omega (arith, head.most));
      }

  -- its honest gateways are the head's
  pub honest_in_lem : {h : Hall} {m : ℕ} → Reached h m → (i : ℕ) → i < most_gateways → honest_in h i ≡ in_set bytes i
  unfolding honest_in
  honest_in_lem w i l = ap (λ (b : List Bool). get_or b i false) w.honests ∙ fresh_honest bytes i l

  pub honest_of : {h : Hall} {m : ℕ} → Reached h m → (i : ℕ) → honest_in h i ≡ true → Honest (nodes_of bytes) (in_set bytes) i
  unfolding fresh_hall
  honest_of {h} w i k =
      let l : i < most_gateways = honest_below h i (ap length w.honests) k in
      let e : in_set bytes i ≡ true = sym (honest_in_lem w i l) ∙ k in
      (head.inside i l e, e)

  -- the state of a gateway after event m, which one gateway takes
  module _ {h : Hall} {m : ℕ} (x : List ℕ) (w : Reached h m) (within : m < length run) (same : event_at run m ≡ event_of x) (k : takes h x ≡ true) where
    now : Allowed h (receiver_of x) (record_of x)
    now = allowed h (receiver_of x) (record_of x) k

    -- what the event handed its receiver is what the hall seats
    call_is : (i : ℕ) → i < nodes_of bytes → i ≡ receiver_of x → call_at (nodes_of bytes) run m i ≡ call h x
    call_is i l e =
        ap (λ (v : Event). step (state_at (nodes_of bytes) run m i) v.bytes v.buffer) same
        ∙ ap (λ (s : State). step s (record_of x) lent) (sym (w.follows i l) ∙ ap (gateway h) e)

    took : (i : ℕ) → (l : i < nodes_of bytes) → i ≡ receiver_of x → Next (nodes_of bytes) run m i → (call h x).state ≡ state_at (nodes_of bytes) run (suc m) i
    took i l e (stayed idle _) =
        absurd
        (not_both (ap (λ (o : Outcome). taken o.answer) (call_is i l e) ∙ now.answered)
        (idle within (ap (λ (v : Event). v.to) same ∙ sym e)))
    took i l e (moved v) = ap (λ (o : Outcome). o.state) (sym (call_is i l e)) ∙ v.settles ∙ sym v.later

    others : (i : ℕ) → (i ≡ receiver_of x → ⊥) → Next (nodes_of bytes) run m i → state_at (nodes_of bytes) run m i ≡ state_at (nodes_of bytes) run (suc m) i
    others i d (stayed _ e) = sym e
    others i d (moved v) = absurd (d (sym v.its ∙ ap (λ (v : Event). v.to) same))

    reached_next : Reached (hall_next h x) (suc m)
    unfolding seated
    reached_next =
        subst (λ (z : Hall). Reached z (suc m)) (sym (hall_moves h (receiver_of x) (record_of x) k))
        (record {
          seats = length-set h.states (receiver_of x) (call h x).state ∙ w.seats;
          honests = w.honests;
          follows = λ i l.
              let turn = next (nodes_of bytes) i head.some (omega (arith, head.most)) l run m in
              elim (ℕ_discrete i (receiver_of x)) [
                | yes e ↦
                    ap (gateway (seated h (receiver_of x) (call h x).state)) e
                    ∙ seated-same h (receiver_of x) (call h x).state (omega (arith, w.seats, head.most))
                    ∙ took i l e turn
                | no d ↦ seated_other h (receiver_of x) (call h x).state i d ∙ w.follows i l ∙ others i d turn
              ];
        })

  -- the hall that put event k to its receiver
  pub record Hosted (k : ℕ) : Type 0 where
    pub hall : Hall
    pub reached : Reached hall k
    pub admits : Allowed hall (event_at run k).to (event_at run k).bytes

  -- a record is the next event, or is passed over
  data Turn (h : Hall) (x : List ℕ) (more : List (List ℕ)) (m : ℕ) : Type 0 where
    played : m < length run → Hosted m → Reached (hall_next h x) (suc m) → drop (suc m) run ≡ events (hall_next h x) more → Turn h x more m
    skipped : Reached (hall_next h x) m → drop m run ≡ events (hall_next h x) more → Turn h x more m

  turn : (h : Hall) (x : List ℕ) (more : List (List ℕ)) (m : ℕ) → Reached h m → drop m run ≡ events h (x ∷ more) → Turn h x more m
  unfolding events
  turn h x more m w e = go (either (takes h x))
    where
      rest : Run
      rest = events (hall_next h x) more

      go : (takes h x ≡ true) ⊎ (takes h x ≡ false) → Turn h x more m
      go (inr k) =
          skipped (subst (λ (z : Hall). Reached z m) (sym (hall_stays h (receiver_of x) (record_of x) k)) w) (e ∙ pick_no (takes h x) (event_of x ∷ rest) rest k)
      go (inl k) =
          let here : drop m run ≡ event_of x ∷ rest = e ∙ pick_yes (takes h x) (event_of x ∷ rest) rest k in
          let within : m < length run = omega (arith, length-drop m run, ap length here) in
          let split : event_at run m ∷ drop (suc m) run ≡ event_of x ∷ rest = sym (drop-cons run m (event_at [] 0) within) ∙ here in
          let same : event_at run m ≡ event_of x = cc in
          let left : drop (suc m) run ≡ rest = cc in
          played within
          (record {
            hall = h;
            reached = w;
            admits = subst (λ (v : Event). Allowed h v.to v.bytes) (sym same) (allowed h (receiver_of x) (record_of x) k);
          })
          (reached_next x w within same k) left

  -- at each event
  hosted_from : (xs : List (List ℕ)) (h : Hall) (m : ℕ) → Reached h m → drop m run ≡ events h xs → (k : ℕ) → m ≤ k → k < length run → Hosted k
  unfolding events
  hosted_from [] h m w e k l b = absurd (omega (arith, length-drop m run, ap length e))
  hosted_from (x ∷ more) h m w e k l b =
      elim (turn h x more m w e) [
        | played _ here later left ↦
            elim (dec_lt m k) [
              | yes z ↦ hosted_from more (hall_next h x) (suc m) later left k z b
              | no z ↦ let s : m ≡ k = omega arith in subst Hosted s here
            ]
        | skipped later left ↦ hosted_from more (hall_next h x) m later left k l b
      ]

  -- and at the end
  end_from : (xs : List (List ℕ)) (h : Hall) (m : ℕ) → Reached h m → m ≤ length run → drop m run ≡ events h xs → Reached (hall_played h xs) (length run)
  unfolding events hall_played
  end_from [] h m w l e = let s : m ≡ length run = omega (arith, length-drop m run, ap length e) in subst (Reached h) s w
  end_from (x ∷ more) h m w l e =
      elim (turn h x more m w e) [
        | played within _ later left ↦ end_from more (hall_next h x) (suc m) later within left
        | skipped later left ↦ end_from more (hall_next h x) m later l left
      ]

-- the run of a recording
module _ (bytes : List ℕ) (head : Head bytes) (xs : List (List ℕ)) where
  abbrev pub run_of : Run
  run_of = events (fresh_hall bytes) xs

  pub hosted : (k : ℕ) → k < length run_of → Hosted bytes head run_of k
  hosted k l = hosted_from bytes head run_of xs (fresh_hall bytes) 0 (reached-start bytes head run_of) refl k (omega arith) l

  pub reached_end : Reached bytes head run_of (hall_played (fresh_hall bytes) xs) (length run_of)
  reached_end = end_from bytes head run_of xs (fresh_hall bytes) 0 (reached-start bytes head run_of) (omega arith) refl
