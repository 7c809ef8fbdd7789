-- What the shape of a hall tells, and a hall with another state of one gateway. Assumes nothing.
use Prim.Native.Nat.{ℕ, suc, ◌+◌, ◌-◌, ◌≤◌, ◌<◌}
use mathlib.Core.Bool.{Bool, true, false, not, ◌&&◌, ◌||◌}
use mathlib.Core.List.{List, [], ◌∷◌}
use mathlib.Core.Logic.{◌⊎◌, inl, inr}
use mathlib.Core.Path.{◌≡◌, refl, sym, ap, subst, ◌∙◌}
use native.Mathlib.Decide.{dec_lt, ℕ_discrete}
use native.Mathlib.Omega.{arith}
use borrow.Author.Tests.{leb-true, le-leb, not-true}
use lib.Dec.{ltb, leb}
use lib.ListN.{length, get_or, take, drop, length-drop, length-set, get_or-eq_default}
use lib.Seq.{get_or-take, get_or-drop, length-take-le}
use Rattle.std.proofs.lemmas.List.Folds.{list_all_at}
use Rattle.std.specs.List.{list_all}
use Rattle.table.specs.declared.State.{State}
use Rattle.table.specs.Rows.{all_zero, capacity, plain}
use Rattle.table.specs.Scan.{all_below}
use Rattle.table.proofs.Laws.{fails, not_both, pick-case, same_test, get_d_any, all_below-at, all_below_all}
use Rattle.pala.specs.Counts.{nodes}
use Rattle.pala.specs.Run.{lent}
use Rattle.pala.specs.Shape.{well_shaped}
use Rattle.pala.specs.Step.{step}
use Rattle.pala.proofs.Playing.{step_playable}
use Rattle.pala.proofs.Tests.{and_l, and_r, and_both, either}
use Rattle.pala.proofs.Shapes
use Rattle.accord.specs.declared.Hall.{Hall}
use Rattle.accord.specs.Head.{most_gateways, gateway, honest_in, hall_shaped}
use Rattle.accord.specs.Rulings.{verdict, passes, seated, hall_after}
use Rattle.accord.specs.Text.{receiver_of, record_of, hall_played}
use Rattle.accord.proofs.Halls.{allowed, honest_below, seated-same, seated_other}

-- ---- a chain over a list, and a scan of its numbers

all_pass : {A : Type 0} (test : A → Bool) (d : A) (xs : List A) → ((i : ℕ) → i < length xs → test (get_or xs i d) ≡ true) → list_all test xs ≡ true
all_pass test d [] h = refl
all_pass test d (x ∷ xs) h = and_both (test x) (list_all test xs) (h 0 (omega arith)) (all_pass test d xs (λ i l. h (suc i) (omega arith)))

pub list_below :
    {A : Type 0} (test : A → Bool) (d : A) (xs : List A) (k : ℕ) (ok : ℕ → Bool) → length xs ≡ k
    → ((i : ℕ) → i < k → test (get_or xs i d) ≡ ok i) → list_all test xs ≡ all_below k ok
list_below test d xs k ok long each =
    same_test (list_all test xs) (all_below k ok)
    (λ h. all_below_all k ok (λ i l. sym (each i l) ∙ passes h i l (either (test (get_or xs i d)))))
    (λ h. all_pass test d xs (λ i l. each i (omega arith) ∙ all_below-at k ok h i (omega arith)))
  where
    passes : list_all test xs ≡ true → (i : ℕ) → i < k → (test (get_or xs i d) ≡ true) ⊎ (test (get_or xs i d) ≡ false) → test (get_or xs i d) ≡ true
    passes h i l (inl e) = e
    passes h i l (inr e) = absurd (not_both h (list_all_at test xs i d (omega arith) e))

-- ---- the shape of a hall

module _ (h : Hall) where
  -- no number at or above n is honest
  abbrev pub low_test : Bool
  low_test = all_below most_gateways (λ i. ltb i h.n || not (honest_in h i))

  -- every gateway's state is well shaped
  abbrev pub sound_test : Bool
  sound_test = all_below h.n (λ i. well_shaped (gateway h i))

  record Tests : Type 0 where
    some : leb 1 h.n ≡ true
    most : leb h.n most_gateways ≡ true
    low : low_test ≡ true
    sound : sound_test ≡ true

  tests : hall_shaped h ≡ true → Tests
  unfolding hall_shaped
  tests e =
      record {
        some = search (and_l, and_r);
        most = search (and_l, and_r);
        low = search (and_l, and_r);
        sound = search (and_l, and_r);
      }

  -- after the others the states tell
  pub hall_sound : 1 ≤ h.n → h.n ≤ most_gateways → low_test ≡ true → hall_shaped h ≡ sound_test
  unfolding hall_shaped
  hall_sound a b low =
      ap (λ (t : Bool). t && leb h.n most_gateways && low_test && sound_test) (le-leb 1 h.n a)
      ∙ ap (λ (t : Bool). t && low_test && sound_test) (le-leb h.n most_gateways b)
      ∙ ap (λ (t : Bool). t && sound_test) low

  -- what a well-shaped one has
  module _ (e : hall_shaped h ≡ true) where
    pub shaped_some : 1 ≤ h.n
    shaped_some = leb-true 1 h.n (tests e).some

    pub shaped_most : h.n ≤ most_gateways
    shaped_most = leb-true h.n most_gateways (tests e).most

    pub shaped_low : low_test ≡ true
    shaped_low = (tests e).low

    pub honest_low : (i : ℕ) → i < most_gateways → honest_in h i ≡ true → i < h.n
    honest_low i l y =
        elim (dec_lt i h.n) [
          | yes m ↦ m
          | no m ↦ absurd (not_both y (not-true (honest_in h i) (Shapes.from_at most_gateways h.n (λ j. not (honest_in h j)) shaped_low i (omega arith) l)))
        ]

    pub shaped_gateway : (i : ℕ) → i < h.n → well_shaped (gateway h i) ≡ true
    shaped_gateway = all_below-at h.n (λ i. well_shaped (gateway h i)) (tests e).sound

    -- it has a seat: the all-zero state, which is read past the last, is badly shaped
    pub seat_there : (i : ℕ) → i < h.n → i < length h.states
    unfolding gateway well_shaped all_zero plain nodes
    seat_there i l =
        elim (dec_lt i (length h.states)) [
          | yes m ↦ m
          | no m ↦ absurd (not_both (ap well_shaped (sym (get_or-eq_default h.states all_zero (omega arith))) ∙ shaped_gateway i l) refl)
        ]

    -- .. and what is read there is its state
    pub seat_read : (i : ℕ) (d : State) → i < h.n → get_or h.states i d ≡ gateway h i
    unfolding gateway
    seat_read i d l = get_d_any h.states i d all_zero (seat_there i l)

-- ---- the same as code reads it

-- the numbers from n on
pub list_from :
    (honest : List Bool) (n : ℕ) → length honest ≡ most_gateways → n ≤ most_gateways
    → list_all not (drop n honest) ≡ all_below most_gateways (λ i. ltb i n || not (get_or honest i false))
list_from honest n long most =
    let here : ℕ → Bool = λ i. not (get_or honest i false) in
    list_below not false (drop n honest) (most_gateways - n) (λ i. here (n + i)) (omega (arith, length-drop n honest)) (λ i l. ap not (get_or-drop n honest i false))
    ∙ same_test (all_below (most_gateways - n) (λ i. here (n + i))) (all_below most_gateways (λ i. ltb i n || here i))
    (λ h. Shapes.from_all most_gateways n here (λ i m l. moved h i m l (i - n) (omega arith)))
    (λ h. all_below_all (most_gateways - n) (λ i. here (n + i)) (λ i l. Shapes.from_at most_gateways n here h (n + i) (omega arith) (omega arith)))
  where
    moved :
        all_below (most_gateways - n) (λ i. not (get_or honest (n + i) false)) ≡ true → (i : ℕ) → n ≤ i → i < most_gateways → (j : ℕ) → n + j ≡ i
        → not (get_or honest i false) ≡ true
    moved h i m l j e = ap (λ (k : ℕ). not (get_or honest k false)) (sym e) ∙ all_below-at (most_gateways - n) (λ i. not (get_or honest (n + i) false)) h j (omega arith)

-- the states below n
pub list_sound : (states : List State) (n : ℕ) → n ≤ length states → list_all well_shaped (take n states) ≡ all_below n (λ i. well_shaped (get_or states i all_zero))
list_sound states n most =
    list_below well_shaped all_zero (take n states) n (λ i. well_shaped (get_or states i all_zero)) (length-take-le n states most)
    (λ i l. ap well_shaped (get_or-take n states i all_zero l))

-- ---- one gateway's state moved

-- what holds of the new state, and of a gateway before, holds of it after
seated_case : (P : State → Type 0) (h : Hall) (i : ℕ) (t : State) → i < length h.states → P t → (j : ℕ) → P (gateway h j) → P (gateway (seated h i t) j)
seated_case P h i t l new j old =
    elim (ℕ_discrete j i) [
      | yes e ↦ subst P (sym (ap (gateway (seated h i t)) e ∙ seated-same h i t l)) new
      | no d ↦ subst P (sym (seated_other h i t j d)) old
    ]

module _ (h : Hall) (e : hall_shaped h ≡ true) (i : ℕ) (l : i < h.n) (t : State) where
  pub shaped_seated : well_shaped t ≡ true → hall_shaped (seated h i t) ≡ true
  unfolding seated honest_in
  shaped_seated new =
      hall_sound (seated h i t) (shaped_some h e) (shaped_most h e) (shaped_low h e)
      ∙ all_below_all h.n (λ j. well_shaped (gateway (seated h i t) j))
      (λ j m. seated_case (λ s. well_shaped s ≡ true) h i t (seat_there h e i l) new j (shaped_gateway h e j m))

-- ---- a recording

-- eight seats, the honest numbers below n, and every gateway's state well shaped, with its 65 rows
pub record Kept (h : Hall) : Type 0 where
  pub seats : length h.states ≡ most_gateways
  pub flags : length h.honest ≡ most_gateways
  pub some : 1 ≤ h.n
  pub most : h.n ≤ most_gateways
  pub low : (i : ℕ) → honest_in h i ≡ true → i < h.n
  pub places : (i : ℕ) → i < h.n → length (gateway h i).blocks ≡ suc capacity
  pub shaped : (i : ℕ) → i < h.n → well_shaped (gateway h i) ≡ true

-- a well-shaped hall, in memory that has room for eight states of 65 rows
pub hall-kept : (h : Hall) → length h.states ≡ most_gateways
    → length h.honest ≡ most_gateways
    → ((i : ℕ) → i < h.n → length (gateway h i).blocks ≡ suc capacity)
    → hall_shaped h ≡ true
    → Kept h
hall-kept h seats flags places e =
    record {
      seats = seats;
      flags = flags;
      some = shaped_some h e;
      most = shaped_most h e;
      low = λ i y. honest_low h e i (honest_below h i flags y) y;
      places = places;
      shaped = shaped_gateway h e;
    }

module _ {h : Hall} (k : Kept h) where
  -- and the other way
  pub kept-shaped : hall_shaped h ≡ true
  kept-shaped =
      hall_sound h k.some k.most (Shapes.from_all most_gateways h.n (λ i. not (honest_in h i)) (λ i m _. ap not (fails (honest_in h i) (λ y. omega (arith, k.low i y)))))
      ∙ all_below_all h.n (λ i. well_shaped (gateway h i)) k.shaped

  pub kept-seated : (i : ℕ) → i < h.n → (t : State) → length t.blocks ≡ suc capacity → well_shaped t ≡ true → Kept (seated h i t)
  unfolding seated honest_in
  kept-seated i l t places shaped =
      let seat : i < length h.states = omega (arith, k.most, k.seats) in
      record {
        seats = length-set h.states i t ∙ k.seats;
        flags = k.flags;
        some = k.some;
        most = k.most;
        low = k.low;
        places = λ j m. seated_case (λ s. length s.blocks ≡ suc capacity) h i t seat places j (k.places j m);
        shaped = λ j m. seated_case (λ s. well_shaped s ≡ true) h i t seat shaped j (k.shaped j m);
      }

  -- a state that a gateway's step gives
  pub kept_step : (i : ℕ) → i < h.n → (r out : List ℕ) → Kept (seated h i (step (gateway h i) r out).state)
  kept_step i l r out =
      let next = step_playable (gateway h i) r out (record { places = k.places i l; shaped = k.shaped i l }) in
      kept-seated i l (step (gateway h i) r out).state next.places next.shaped

  -- the hall after a record, taken or not
  pub kept-after : (to : ℕ) (r : List ℕ) → Kept (hall_after h to r)
  unfolding hall_after
  kept-after to r =
      pick-case Kept (passes (verdict h to r)) (seated h to (step (gateway h to) r lent).state) h
      (λ e. kept_step to (k.low to (allowed h to r e).honest) r lent) (λ _. k)

-- what each record leaves true, all of them do
played_case :
    (P : Hall → Type 0) → ((h : Hall) (to : ℕ) (r : List ℕ) → P h → P (hall_after h to r))
    → (xs : List (List ℕ)) (h : Hall) → P h → P (hall_played h xs)
unfolding hall_played
played_case P on [] h p = p
played_case P on (x ∷ xs) h p = played_case P on xs (hall_after h (receiver_of x) (record_of x)) (on h (receiver_of x) (record_of x) p)

pub kept-played : {h : Hall} → Kept h → (xs : List (List ℕ)) → Kept (hall_played h xs)
kept-played {h} k xs = played_case Kept (λ g to r j. kept-after j to r) xs h k
