-- "The rule reads down the ancestors, whose places fall": what a fall is, step by step, and what is asked along it. Assumes nothing.
use Prim.Native.Nat.{ℕ, zero, suc, ◌≤◌, ◌<◌, zero-le}
use mathlib.Core.Bool.{Bool, true, false, ◌&&◌, ◌||◌}
use mathlib.Core.List.{List, [], ◌∷◌}
use mathlib.Core.Path.{◌≡◌, refl, sym, ap, subst, ◌∙◌}
use native.Mathlib.Decide.{dec_le, dec_lt}
use native.Mathlib.Nat.{le_refl}
use native.Mathlib.Omega.{arith}
use lib.Dec.{eqb, ltb}
use borrow.Author.Tests.{lt-ltb, le-ltb, ne_eqb}
use Rattle.table.specs.Scan.{pick}
use Rattle.table.proofs.Laws.{pick_yes, pick_no}
use Rattle.pala.specs.Rules.{lower, fall_in, fall, every, among}

-- ---- the next place down

pub lower-is : (up : ℕ → ℕ) (p : ℕ) → up p < p → lower up p ≡ up p
unfolding lower
lower-is up p h = pick_yes (ltb (up p) p) (up p) 0 (lt-ltb (up p) p h)

-- a place that isn't lower counts as the genesis
pub lower-not : (up : ℕ → ℕ) (p : ℕ) → p ≤ up p → lower up p ≡ 0
unfolding lower
lower-not up p h = pick_no (ltb (up p) p) (up p) 0 (le-ltb (up p) p h)

pub lower-zero : (up : ℕ → ℕ) → lower up 0 ≡ 0
lower-zero up = lower-not up 0 zero-le

pub lower_below : (up : ℕ → ℕ) (p : ℕ) → 0 < p → lower up p < p
lower_below up p h =
    elim (dec_lt (up p) p) [
      | yes l ↦ omega (arith, lower-is up p l)
      | no l ↦ omega (arith, lower-not up p (omega arith))
    ]

pub lower-le : (up : ℕ → ℕ) (p : ℕ) → lower up p ≤ p
lower-le up p = elim (dec_lt 0 p) [ yes l ↦ omega (arith, lower_below up p l) | no l ↦ let e : p ≡ 0 = omega arith in rw e (omega (arith, lower-zero up)) ]

pub lower-same : (up low : ℕ → ℕ) (p : ℕ) → up p ≡ low p → lower up p ≡ lower low p
unfolding lower
lower-same up low p e = ap (λ (a : ℕ). pick (ltb a p) a 0) e

-- ---- steps: more of them than the place counts change nothing

fall_in_root : (up : ℕ → ℕ) (k : ℕ) → fall_in up k 0 ≡ 0 ∷ []
unfolding fall_in
fall_in_root up zero = refl
fall_in_root up (suc k) = refl

fall_in-step : (up : ℕ → ℕ) (k p : ℕ) → 0 < p → fall_in up (suc k) p ≡ p ∷ fall_in up k (lower up p)
unfolding fall_in
fall_in-step up k p h =
    ap (λ (b : Bool). elim b as (λ _. List ℕ) [ true ↦ p ∷ [] | false ↦ p ∷ fall_in up k (lower up p) ])
    (ne_eqb p 0 (λ e. omega arith))

pub fall_in_more : (up : ℕ → ℕ) (k j p : ℕ) → p ≤ k → p ≤ j → fall_in up k p ≡ fall_in up j p
fall_in_more up zero j p a b = let e : p ≡ 0 = omega arith in rw e (fall_in_root up zero ∙ sym (fall_in_root up j))
fall_in_more up (suc k) zero p a b = let e : p ≡ 0 = omega arith in rw e (fall_in_root up (suc k) ∙ sym (fall_in_root up zero))
fall_in_more up (suc k) (suc j) p a b =
    elim (dec_lt 0 p) [
      | yes h ↦
          let l = lower_below up p h in
          fall_in-step up k p h
          ∙ ap (λ (q : List ℕ). p ∷ q) (fall_in_more up k j (lower up p) (omega arith) (omega arith))
          ∙ sym (fall_in-step up j p h)
      | no h ↦ let e : p ≡ 0 = omega arith in rw e (fall_in_root up (suc k) ∙ sym (fall_in_root up (suc j)))
    ]

pub fall-zero : (up : ℕ → ℕ) → fall up 0 ≡ 0 ∷ []
unfolding fall
fall-zero up = fall_in_root up 0

pub fall_up : (up : ℕ → ℕ) (p : ℕ) → 0 < p → fall up p ≡ p ∷ fall up (lower up p)
unfolding fall
fall_up up zero h = absurd (omega arith)
fall_up up (suc p) h =
    let l = lower_below up (suc p) h in
    fall_in-step up p (suc p) h
    ∙ ap (λ (q : List ℕ). suc p ∷ q) (fall_in_more up p (lower up (suc p)) (lower up (suc p)) (omega arith) (le_refl (lower up (suc p))))

-- what holds of the genesis, and of a place where it holds of the next one down, holds of every place
climb_in : (up : ℕ → ℕ) (P : ℕ → Type 0) → P 0 → ((p : ℕ) → 0 < p → P (lower up p) → P p) → (k p : ℕ) → p ≤ k → P p
climb_in up P base step zero p h = subst P (omega arith) base
climb_in up P base step (suc k) p h =
    elim (dec_le p k) [
      | yes l ↦ climb_in up P base step k p l
      | no l ↦
          step p (omega arith) (climb_in up P base step k (lower up p) (omega (arith, lower_below up p (omega arith))))
    ]

pub climb : (up : ℕ → ℕ) (P : ℕ → Type 0) → P 0 → ((p : ℕ) → 0 < p → P (lower up p) → P p) → (p : ℕ) → P p
climb up P base step p = climb_in up P base step p p (le_refl p)

-- ---- what is asked along a fall

pub every-zero : (ok : ℕ → Bool) (up : ℕ → ℕ) → every ok (fall up 0) ≡ (ok 0 && true)
unfolding every
every-zero ok up = ap (every ok) (fall-zero up)

pub every_up : (ok : ℕ → Bool) (up : ℕ → ℕ) (p : ℕ) → 0 < p → every ok (fall up p) ≡ (ok p && every ok (fall up (lower up p)))
unfolding every
every_up ok up p h = ap (every ok) (fall_up up p h)

pub among-zero : (a : ℕ) (up : ℕ → ℕ) → among a (fall up 0) ≡ (eqb 0 a || false)
unfolding among
among-zero a up = ap (among a) (fall-zero up)

pub among_up : (a : ℕ) (up : ℕ → ℕ) (p : ℕ) → 0 < p → among a (fall up p) ≡ (eqb p a || among a (fall up (lower up p)))
unfolding among
among_up a up p h = ap (among a) (fall_up up p h)
