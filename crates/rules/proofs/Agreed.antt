-- The agreed clock, clock by clock. Assumes nothing.
use Prim.Native.Nat.{ℕ, zero, suc, ◌+◌, ◌-◌, ◌≤◌, ◌<◌, max, min}
use Rattle.std.specs.Int.{from_bool}
use Rattle.std.proofs.Common.{cond}
use mathlib.Core.Path.{fun_ext}
use Rattle.std.specs.List.{count_by, sum_by}
use Rattle.std.proofs.lemmas.List.{take_all, length-take, get_or-take}
use Rattle.std.proofs.lemmas.List.Sums.{count_by_more_yes, count_by_more_no}
use Rattle.std.proofs.lemmas.Bool.{cases_Bool}
use native.Mathlib.Decide.{dec_lt}
use mathlib.Core.Logic.{inl, inr}
use mathlib.Core.Bool.{Bool, true, false}
use mathlib.Core.List.{List}
use mathlib.Core.Path.{◌≡◌, refl, sym, ap, subst, ◌∙◌}
use native.Mathlib.Omega.{arith}
use borrow.Author.Tests.{lt-leb}
use lib.Dec.{leb}
use lib.ListN.{length, take, get_or, get_or-eq_default}
use Rattle.table.specs.declared.Epoch.{Epoch}
use Rattle.table.specs.Scan.{pick, count, greatest}
use Rattle.table.specs.Rows.{most_nodes}
use Rattle.table.proofs.Laws.{not_both, pick_yes, pick-case, count_no, count_yes, settles, greatest-step}
use Rattle.pala.specs.Counts.{quorum, clock_of}
use Rattle.pala.specs.Rules.{reached, shared, agreed}

-- ---- the clocks

-- what changes no more from m on is at k what it is at the lesser of the two
settled : (F : ℕ → ℕ) (m : ℕ) → ((i : ℕ) → m ≤ i → F (i + 1) ≡ F i) → (k : ℕ) → F (min k m) ≡ F k
settled F m same k = sym (settles F (min k m) k (omega arith) (λ i a b. same i (omega arith)))

-- a number past the clocks has the clock 0
pub clock-past : (clocks : List Epoch) → length clocks ≡ most_nodes → (i : ℕ) → most_nodes ≤ i → clock_of clocks i ≡ 0
unfolding clock_of
clock-past clocks held i h = ap (λ (e : Epoch). e.0) (get_or-eq_default clocks (record { 0 = 0 }) (omega arith))

-- a number past the clocks has none above 0: those held are enough to ask
pub shared-held : (clocks : List Epoch) → length clocks ≡ most_nodes → (n c : ℕ) → 0 < c → leb (quorum n) (count (min n most_nodes) (λ i. reached clocks c i)) ≡ shared n clocks c
unfolding shared reached
shared-held clocks held n c h =
    let has : ℕ → Bool = λ i. reached clocks c i in
    ap (leb (quorum n))
    (settled (λ (k : ℕ). count k has) most_nodes
    (λ i l. count_no i has (lt-leb c (clock_of clocks i) (omega (arith, clock-past clocks held i l)))) n)

module _ (n : ℕ) (clocks : List Epoch) where
  -- the greatest of the first k clocks that are shared
  abbrev pub best_in : ℕ → ℕ
  best_in k = greatest k (λ i. shared n clocks (clock_of clocks i)) (clock_of clocks)

  -- the nodes' clocks are enough: one past them is 0
  pub agreed-held : best_in (min n (length clocks)) ≡ agreed n clocks
  unfolding agreed clock_of
  agreed-held =
      settled best_in (length clocks)
      (λ i l.
      let z : clock_of clocks i ≡ 0 = ap (λ (e : Epoch). e.0) (get_or-eq_default clocks (record { 0 = 0 }) l) in
      greatest-step i (λ i. shared n clocks (clock_of clocks i)) (clock_of clocks)
      ∙ pick-case (λ (x : ℕ). max (best_in i) x ≡ best_in i) (shared n clocks (clock_of clocks i)) (clock_of clocks i) 0
      (λ e. omega arith) (λ e. omega arith)) n

  module _ (items : List Epoch) (of_nodes : items ≡ take n clocks) where
    pub agreed-of : best_in (length items) ≡ agreed n clocks
    agreed-of = ap best_in (ap length of_nodes ∙ length-take n clocks) ∙ agreed-held

    module _ (k : ℕ) (l : k < length items) where
      -- the clock at hand
      abbrev here : ℕ
      here = (get_or items k (record { 0 = 0 })).0

      clock-is : clock_of clocks k ≡ here
      unfolding clock_of
      clock-is =
          let below : k < n = omega (arith, ap length of_nodes, length-take n clocks) in
          sym
          (ap (λ (xs : List Epoch). (get_or xs k (record { 0 = 0 })).0) of_nodes
          ∙ ap (λ (e : Epoch). e.0) (get_or-take n clocks k (record { 0 = 0 }) below))

      module _ (start best : ℕ) (so_far : best ≡ max start (best_in k)) where
        turn : (next : ℕ) → next ≡ max best (pick (shared n clocks here) here 0) → next ≡ max start (best_in (k + 1))
        turn next e =
            let more = greatest-step k (λ i. shared n clocks (clock_of clocks i)) (clock_of clocks) in
            let now = ap (λ (c : ℕ). pick (shared n clocks c) c 0) clock-is in
            omega (arith, more, now)

        -- a clock that is above the best and shared is the best then; else the best stays
        above : best < here → shared n clocks (here - 1 + 1) ≡ shared n clocks here
        above h = let same : here - 1 + 1 ≡ here = omega arith in ap (shared n clocks) same

        pub turn_raised : best < here → shared n clocks (here - 1 + 1) ≡ true → here ≡ max start (best_in (k + 1))
        turn_raised h y = turn here (omega (arith, pick_yes (shared n clocks here) here 0 (sym (above h) ∙ y)))

        pub turn_stays : (best < here → shared n clocks (here - 1 + 1) ≡ false) → best ≡ max start (best_in (k + 1))
        turn_stays h =
            turn best
            (pick-case (λ (x : ℕ). best ≡ max best x) (shared n clocks here) here 0
            (λ y. elim (dec_lt best here) [ yes l ↦ absurd (not_both y (sym (above l) ∙ h l)) | no l ↦ omega arith ])
            (λ _. omega arith))

-- ---- a count over the clocks held is a count over the numbers

-- a number past a list has the element d, which doesn't pass
module _ (ok : Epoch → Bool) (l : List Epoch) (d : Epoch) (out : ok d ≡ false) where
  count_more : (k : ℕ) → count k (λ i. ok (get_or l i d)) ≡ count_by ok (take k l) → count (k + 1) (λ i. ok (get_or l i d)) ≡ count_by ok (take (k + 1) l)
  count_more k e =
      let has : ℕ → Bool = λ i. ok (get_or l i d) in
      elim (dec_lt k (length l)) [
        | no h ↦
            let past : get_or l k d ≡ d = get_or-eq_default l d (omega arith) in
            count_no k has (ap ok past ∙ out) ∙ e ∙ ap (count_by ok) (take_all k l (omega arith) ∙ sym (take_all (k + 1) l (omega arith)))
        | yes h ↦
            elim (cases_Bool (has k)) [
              | inl y ↦ count_yes k has y ∙ ap (λ (w : ℕ). w + 1) e ∙ sym (count_by_more_yes ok l k d h y)
              | inr n ↦ count_no k has n ∙ e ∙ sym (count_by_more_no ok l k d h n)
            ]
      ]

  pub count_list : (n : ℕ) → count n (λ i. ok (get_or l i d)) ≡ count_by ok (take n l)
  unfolding count
  count_list zero = refl
  count_list (suc n) =
      let e : n + 1 ≡ suc n = omega arith in
      subst (λ (m : ℕ). count m (λ i. ok (get_or l i d)) ≡ count_by ok (take m l)) e (count_more n (count_list n))

-- a sum of tests is a count
from_bool-is : (b : Bool) → from_bool b ≡ cond b 1 0
from_bool-is true = refl
from_bool-is false = refl

pub sum_count : (ok : Epoch → Bool) (l : List Epoch) → sum_by (λ e. from_bool (ok e)) l ≡ count_by ok l
sum_count ok l = ap (λ (f : Epoch → ℕ). sum_by f l) (fun_ext (λ e. from_bool-is (ok e)))
