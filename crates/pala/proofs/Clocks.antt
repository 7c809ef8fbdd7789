-- The agreed clock is what M-100 says of it, the q-th highest kept clock. Assumes nothing.
use Prim.Native.Nat.{ℕ, zero, suc, ◌+◌, ◌≤◌, ◌<◌, zero-le}
use mathlib.Core.Bool.{Bool, true, false}
use mathlib.Core.List.{List}
use mathlib.Core.Logic.{◌≢◌, ⊎_elim}
use mathlib.Core.Path.{◌≡◌, refl, sym}
use native.Mathlib.Decide.{dec_lt}
use native.Mathlib.Omega.{arith}
use borrow.Author.Tests.{eqb-true, eqb-false, leb-true, le-leb}
use lib.Dec.{eqb, leb}
use Rattle.table.specs.declared.Epoch.{Epoch}
use Rattle.table.specs.declared.State.{State}
use Rattle.table.specs.Scan.{count, lowest, greatest}
use Rattle.table.proofs.Laws.{not_both, fails, pick_yes, count-some, count_mono, lowest_hit, lowest_below, greatest_bounds, greatest-reached}
use Rattle.pala.specs.Counts.{quorum, clock_of}
use Rattle.pala.specs.Rules.{reached, shared, agreed}
use Rattle.pala.specs.Steps.{new_local}
use Rattle.pala.proofs.Counts.{quorum_enough, quorum_least}

-- how many nodes "have a kept clock of c or more", counted
abbrev pub having : ℕ → List Epoch → ℕ → ℕ
having n clocks c = count n (λ i. leb c (clock_of clocks i))

-- where each node that has c or more among the old clocks has d or more among the new, as many have it
as_many : (n : ℕ) (old new : List Epoch) (c d : ℕ) → ((i : ℕ) → i < n → c ≤ clock_of old i → d ≤ clock_of new i) → having n old c ≤ having n new d
as_many n old new c d keeps =
    count_mono n (λ i. leb c (clock_of old i)) (λ i. leb d (clock_of new i))
    (λ i l h. le-leb d (clock_of new i) (keeps i l (leb-true c (clock_of old i) h)))

-- every node has a clock of 0 or more
all_have : (n : ℕ) (clocks : List Epoch) → n ≤ having n clocks 0
unfolding count
all_have zero clocks = omega arith
all_have (suc k) clocks = omega (arith, all_have k clocks, pick_yes {A = ℕ} (leb 0 (clock_of clocks k)) 1 0 (le-leb 0 (clock_of clocks k) zero-le))

module _ (n : ℕ) (clocks : List Epoch) where
  shared_had : (c : ℕ) → shared n clocks c ≡ true → quorum n ≤ having n clocks c
  unfolding shared reached
  shared_had c h = leb-true (quorum n) (having n clocks c) h

  had_shared : (c : ℕ) → quorum n ≤ having n clocks c → shared n clocks c ≡ true
  unfolding shared reached
  had_shared c h = le-leb (quorum n) (having n clocks c) h

  -- "at least q nodes have a kept clock of c or more"
  pub agreed_had : quorum n ≤ having n clocks (agreed n clocks)
  unfolding agreed
  agreed_had =
      ⊎_elim (λ z. rw z (omega (arith, all_have n clocks, quorum_least n n (omega arith)))) (λ z. rw (sym z.3) (shared_had (clock_of clocks z.0) z.2))
      (greatest-reached n (λ i. shared n clocks (clock_of clocks i)) (clock_of clocks))

  -- what q nodes have or exceed is raised by one until it is somebody's clock, at most m times
  raise : (m c : ℕ) → 0 < n → ((i : ℕ) → i < n → clock_of clocks i < c + m) → quorum n ≤ having n clocks c → c ≤ agreed n clocks
  unfolding agreed
  raise zero c some below h =
      let (i, l, e) = count-some n (λ i. leb c (clock_of clocks i)) (omega (arith, quorum_enough n)) in
      absurd (omega (arith, leb-true c (clock_of clocks i) e, below i l))
  raise (suc m) c some below h =
      let is : ℕ → Bool = λ i. eqb (clock_of clocks i) c in
      let who = lowest n is in
      elim (dec_lt who n) [
        | yes l ↦
            let e : clock_of clocks who ≡ c = eqb-true (clock_of clocks who) c (lowest_hit n is l) in
            omega (arith, greatest_bounds n (λ i. shared n clocks (clock_of clocks i)) (clock_of clocks) who l (had_shared (clock_of clocks who) (rw e h)))
        | no l ↦
            let other : (i : ℕ) → i < n → clock_of clocks i ≢ c = λ i b. eqb-false (clock_of clocks i) c (lowest_below n is i (omega arith)) in
            let next = as_many n clocks clocks c (c + 1) (λ i b e. omega (arith, other i b)) in
            omega (arith, raise m (c + 1) some (λ i b. omega (arith, below i b)) (omega (arith, next)))
      ]

  -- "the greatest c": of all numbers
  pub agreed-greatest : (c : ℕ) → 0 < n → quorum n ≤ having n clocks c → c ≤ agreed n clocks
  agreed-greatest c some h =
      let top = greatest n (λ i. true) (clock_of clocks) in
      raise (top + 1) c some (λ i l. omega (arith, greatest_bounds n (λ i. true) (clock_of clocks) i l refl)) h

  -- c + 1 has fewer than q
  pub next_too_few : 0 < n → having n clocks (agreed n clocks + 1) < quorum n
  next_too_few some =
      elim (dec_lt (having n clocks (agreed n clocks + 1)) (quorum n)) [
        | yes l ↦ l
        | no l ↦ absurd (omega (arith, agreed-greatest (agreed n clocks + 1) some (omega arith)))
      ]

  -- where c + 1 isn't shared, no number above c is agreed
  pub unshared_above : (c : ℕ) → shared n clocks (c + 1) ≡ false → agreed n clocks ≤ c
  unshared_above c few =
      let top = agreed n clocks in
      elim (dec_lt c top) [
        | yes l ↦
            absurd (not_both (had_shared (c + 1) (omega (arith, agreed_had, as_many n clocks clocks top (c + 1) (λ i b e. omega arith)))) few)
        | no l ↦ omega arith
      ]

  -- and no other number is so
  pub agreed_only : (c : ℕ) → 0 < n → quorum n ≤ having n clocks c → having n clocks (c + 1) < quorum n → c ≡ agreed n clocks
  agreed_only c some h few =
      omega (arith, agreed-greatest c some h, unshared_above c (fails (shared n clocks (c + 1)) (λ y. absurd (omega (arith, shared_had (c + 1) y)))))

-- a node that moved on still counts: where no clock fell, the agreed one didn't
pub agreed_rises : (n : ℕ) (old new : List Epoch) → 0 < n → ((i : ℕ) → i < n → clock_of old i ≤ clock_of new i) → agreed n old ≤ agreed n new
agreed_rises n old new some up =
    let c = agreed n old in
    agreed-greatest n new c some (omega (arith, agreed_had n old, as_many n old new c c (λ i l h. omega (arith, up i l))))

-- no hall is stuck: where q nodes have a kept clock of c or more, step 3 leaves every epoch below c
pub leaves_below : (s : State) (c : ℕ) → 0 < s.n → quorum s.n ≤ having s.n s.clocks c → c ≤ new_local s
unfolding new_local
leaves_below s c some h = omega (arith, agreed-greatest s.n s.clocks c some h)
