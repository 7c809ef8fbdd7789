-- What a good head tells, what a taken record tells, and whose state it moves. Assumes nothing.
use Prim.Native.Nat.{ℕ, ◌≤◌, ◌<◌}
use mathlib.Core.Bool.{Bool, true, false, not, ◌&&◌, ◌||◌}
use mathlib.Core.List.{List, [], ◌∷◌, map}
use mathlib.Core.Logic.{◌≢◌, ◌⊎◌, inl, inr}
use mathlib.Core.Path.{◌≡◌, refl, ap, ◌∙◌}
use native.Mathlib.Decide.{dec_lt}
use native.Mathlib.Omega.{arith}
use lib.Dec.{eqb, ltb, leb}
use lib.ListN.{length, get_or, get_or-map, get_or-eq_default}
use lib.Seq.{get_or-set_same, get_or-set_other}
use borrow.Author.Tests.{leb-true, ltb-true, eqb-true, not-true, not-false}
use Rattle.table.specs.declared.State.{State}
use Rattle.table.specs.Scan.{pick, all_below}
use Rattle.table.specs.Rows.{all_zero}
use Rattle.table.proofs.Laws.{not_both, pick_yes, pick_no, get_d_any, all_below-at}
use Rattle.pala.specs.Answers.{taken}
use Rattle.pala.specs.Record.{record_bytes}
use Rattle.pala.specs.Run.{lent}
use Rattle.pala.specs.Step.{step, start}
use Rattle.pala.proofs.Tests.{and_l, and_r, or_cases}
use Rattle.accord.specs.declared.Hall.{Hall}
use Rattle.accord.specs.declared.Verdict.{Verdict}
use Rattle.accord.specs.Head.{most_gateways, gateways, nodes_of, in_set, good_head, fresh_hall, gateway, honest_in}
use Rattle.accord.specs.Rulings.{forged, clash, verdict, verdict_number, passes, seated, hall_after}

-- ---- the head

pub record Head (bytes : List ℕ) : Type 0 where
  pub some : 1 ≤ nodes_of bytes
  pub most : nodes_of bytes ≤ most_gateways
  pub inside : (i : ℕ) → i < most_gateways → in_set bytes i ≡ true → i < nodes_of bytes

pub good_head_lem : (bytes : List ℕ) → good_head bytes ≡ true → Head bytes
unfolding good_head
good_head_lem [] h = absurd (not_both h refl)
good_head_lem (n ∷ []) h = absurd (not_both h refl)
good_head_lem (n ∷ set ∷ more) h =
    let bits = all_below most_gateways (λ i. ltb i n || not (in_set (n ∷ set ∷ more) i)) in
    let a : leb 1 n ≡ true = search (and_l, and_r) in
    let b : leb n most_gateways ≡ true = search (and_l, and_r) in
    let c : bits ≡ true = search (and_l, and_r) in
    record {
      some = leb-true 1 n a;
      most = leb-true n most_gateways b;
      inside = λ i l k. go i k (or_cases (ltb i n) (not (in_set (n ∷ set ∷ more) i)) (all_below-at most_gateways (λ j. ltb j n || not (in_set (n ∷ set ∷ more) j)) c i l));
    }
  where
    go : (i : ℕ) → in_set (n ∷ set ∷ more) i ≡ true → (ltb i n ≡ true) ⊎ (not (in_set (n ∷ set ∷ more) i) ≡ true) → i < n
    go i k (inl e) = ltb-true i n e
    go i k (inr e) = absurd (not_both k (not-true (in_set (n ∷ set ∷ more) i) e))

-- ---- a fresh hall

-- what a list of something for each number has at a number
pub for_each : {A : Type 0} (f : ℕ → A) (d : A) (i : ℕ) → i < most_gateways → get_or (map f gateways) i d ≡ f i
unfolding all_below
for_each f d i h =
    get_d_any (map f gateways) i d (f 0) h
    ∙ get_or-map f gateways i 0
    ∙ ap f (eqb-true (get_or gateways i 0) i (all_below-at most_gateways (λ j. eqb (get_or gateways j 0) j) refl i h))

module _ (bytes : List ℕ) where
  pub fresh-gateway : (i : ℕ) → i < most_gateways → gateway (fresh_hall bytes) i ≡ (start (nodes_of bytes) i).state
  unfolding gateway fresh_hall
  fresh-gateway i h = for_each (λ j. (start (nodes_of bytes) j).state) all_zero i h

  pub fresh_honest : (i : ℕ) → i < most_gateways → honest_in (fresh_hall bytes) i ≡ in_set bytes i
  unfolding honest_in fresh_hall
  fresh_honest i h = for_each (in_set bytes) false i h

-- nobody is honest past the last number
pub honest_below : (h : Hall) (i : ℕ) → length h.honest ≡ most_gateways → honest_in h i ≡ true → i < most_gateways
unfolding honest_in
honest_below h i e k =
    elim (dec_lt i most_gateways) [
      | yes l ↦ l
      | no l ↦ absurd (not_both k (get_or-eq_default h.honest false (omega arith)))
    ]

-- ---- a taken record

-- the tests that it passed
pub record Allowed (h : Hall) (to : ℕ) (r : List ℕ) : Type 0 where
  pub honest : honest_in h to ≡ true
  pub genuine : (eqb (length r) record_bytes && forged h r) ≡ false
  pub single : (eqb (length r) record_bytes && clash h (gateway h to) r) ≡ false
  pub answered : taken (step (gateway h to) r lent).answer ≡ true

past : (b : Bool) (v w : Verdict) → passes v ≡ false → passes (pick b v w) ≡ true → (b ≡ false) × (passes w ≡ true)
unfolding pick
past true v w f k = absurd (not_both k f)
past false v w f k = (refl, k)

pub allowed : (h : Hall) (to : ℕ) (r : List ℕ) → passes (verdict h to r) ≡ true → Allowed h to r
unfolding verdict passes verdict_number taken
allowed h to r k =
    let a = past (not (honest_in h to)) Verdict.Receiver _ refl k in
    let b = past (eqb (length r) record_bytes && forged h r) Verdict.Forged _ refl a.1 in
    let c = past (eqb (length r) record_bytes && clash h (gateway h to) r) Verdict.Clash _ refl b.1 in
    record { honest = not-false (honest_in h to) a.0; genuine = b.0; single = c.0; answered = c.1 }

-- ---- the hall after a record

module _ (h : Hall) (to : ℕ) (r : List ℕ) where
  pub hall_moves : passes (verdict h to r) ≡ true → hall_after h to r ≡ seated h to (step (gateway h to) r lent).state
  unfolding hall_after
  hall_moves = pick_yes (passes (verdict h to r)) (seated h to (step (gateway h to) r lent).state) h

  pub hall_stays : passes (verdict h to r) ≡ false → hall_after h to r ≡ h
  unfolding hall_after
  hall_stays = pick_no (passes (verdict h to r)) (seated h to (step (gateway h to) r lent).state) h

-- one gateway's state is another, and those of the others are as they were
module _ (h : Hall) (i : ℕ) (s : State) where
  pub seated-same : i < length h.states → gateway (seated h i s) i ≡ s
  unfolding gateway seated
  seated-same l = get_or-set_same h.states i s all_zero l

  pub seated_other : (j : ℕ) → j ≢ i → gateway (seated h i s) j ≡ gateway h j
  unfolding gateway seated
  seated_other j d = get_or-set_other h.states i j s all_zero d
