-- A block's line down to the genesis, firmness along it, and in a grown table. Assumes nothing.
use Prim.Native.Nat.{ℕ, zero, suc, ◌≤◌, ◌<◌}
use mathlib.Core.Bool.{true, false, ◌&&◌, ◌||◌, true≢false}
use mathlib.Core.List.{List, [], ◌∷◌}
use mathlib.Core.Logic.{◌⊎◌, inl, inr, ⊎_elim}
use mathlib.Core.Path.{◌≡◌, refl, sym, ap, subst, ◌∙◌}
use native.Mathlib.Nat.{le_trans}
use native.Mathlib.Omega.{arith}
use lib.Dec.{eqb, leb}
use borrow.Author.Tests.{eqb-true, eq-eqb, leb-true, le-leb}
use Rattle.table.specs.declared.Block.{Block}
use Rattle.table.specs.Rows.{size, at, has_voter, votes, most_nodes}
use Rattle.table.proofs.Laws.{count_mono}
use Rattle.pala.specs.Counts.{quorum}
use Rattle.pala.specs.Rules.{parent_of, line, every, among, notarized, firm}
use Rattle.pala.proofs.Tests.{and_l, and_r, and_both, or_cases, or_l, or_r}
use Rattle.pala.proofs.Falls as Falls
use Rattle.pala.proofs.Falls.{fall-zero, fall_up, every_up, among-zero, among_up}
use Rattle.pala.proofs.Grown.{Grown, grown_parent}
use Rattle.pala.proofs.Places.{parent_below, parent-lower}

-- what holds of the genesis, and of a block where it holds of its parent, holds at every place
pub climb : (t : List Block) (P : ℕ → Type 0) → P 0 → ((p : ℕ) → 0 < p → P (parent_of t p) → P p) → (p : ℕ) → P p
unfolding parent_of
climb t = Falls.climb (λ a. (at t a).parent.0)

pub line-zero : (t : List Block) → line t 0 ≡ 0 ∷ []
unfolding line
line-zero t = fall-zero (λ a. (at t a).parent.0)

-- a block, then its parent's line
pub line_up : (t : List Block) (p : ℕ) → 0 < p → line t p ≡ p ∷ line t (parent_of t p)
unfolding line parent_of
line_up t p h = fall_up (λ a. (at t a).parent.0) p h

-- a place on the line: the block or on its parent's line
on_step : (t : List Block) (p a : ℕ) → 0 < p → among a (line t p) ≡ (eqb p a || among a (line t (parent_of t p)))
unfolding line parent_of
on_step t p a h = among_up a (λ x. (at t x).parent.0) p h

pub on_self : (t : List Block) (p : ℕ) → among p (line t p) ≡ true
unfolding line parent_of
on_self t zero = among-zero 0 (λ a. (at t a).parent.0)
on_self t (suc p) =
    on_step t (suc p) (suc p) (omega arith)
    ∙ or_l (eqb (suc p) (suc p)) (among (suc p) (line t (parent_of t (suc p)))) (eq-eqb (suc p) (suc p) refl)

pub on_up : (t : List Block) (p a : ℕ) → 0 < p → among a (line t (parent_of t p)) ≡ true → among a (line t p) ≡ true
on_up t p a h e = on_step t p a h ∙ or_r (eqb p a) (among a (line t (parent_of t p))) e

pub on_zero : (t : List Block) (a : ℕ) → among a (line t 0) ≡ true → 0 ≡ a
unfolding line
on_zero t a e =
    ⊎_elim (λ x. eqb-true 0 a x) (λ x. absurd (true≢false (sym x)))
    (or_cases (eqb 0 a) false (sym (among-zero a (λ x. (at t x).parent.0)) ∙ e))

pub on_cases : (t : List Block) (p a : ℕ) → 0 < p → among a (line t p) ≡ true → (p ≡ a) ⊎ (among a (line t (parent_of t p)) ≡ true)
on_cases t p a h e =
    ⊎_elim (λ x. inl (eqb-true p a x)) (λ x. inr x) (or_cases (eqb p a) (among a (line t (parent_of t p))) (sym (on_step t p a h) ∙ e))

-- what passes from each block to its parent passes down the line
pub down : (t : List Block) (P : ℕ → Type 0) → ((p : ℕ) → 0 < p → P p → P (parent_of t p))
    → (p a : ℕ) → among a (line t p) ≡ true → P p → P a
down t P fall p = climb t (λ p. (a : ℕ) → among a (line t p) ≡ true → P p → P a) base step p
  where
    base : (a : ℕ) → among a (line t 0) ≡ true → P 0 → P a
    base a e h = subst P (on_zero t a e) h

    step : (p : ℕ) → 0 < p → ((a : ℕ) → among a (line t (parent_of t p)) ≡ true → P (parent_of t p) → P a)
        → (a : ℕ) → among a (line t p) ≡ true → P p → P a
    step p pos ih a e h = go (on_cases t p a pos e)
      where
        go : (p ≡ a) ⊎ (among a (line t (parent_of t p)) ≡ true) → P a
        go (inl x) = subst P x h
        go (inr x) = ih a x (fall p pos h)

pub on_lower : (t : List Block) (p a : ℕ) → among a (line t p) ≡ true → a ≤ p
on_lower t p a e = down t (λ x. x ≤ p) (λ x pos l. omega (arith, parent-lower t x)) p a e (omega arith)

-- "firm when it and every ancestor up to genesis is notarized"
pub firm-zero : (n : ℕ) (t : List Block) → firm n t 0 ≡ true
unfolding firm every notarized
firm-zero n t = ap (every (λ a. notarized n t a)) (line-zero t)

pub firm_up : (n : ℕ) (t : List Block) (p : ℕ) → 0 < p → firm n t p ≡ (notarized n t p && firm n t (parent_of t p))
unfolding firm line parent_of
firm_up n t p h = every_up (λ a. notarized n t a) (λ a. (at t a).parent.0) p h

pub firm-own : (n : ℕ) (t : List Block) (p : ℕ) → 0 < p → firm n t p ≡ true → notarized n t p ≡ true
firm-own n t p h e = and_l (notarized n t p) (firm n t (parent_of t p)) (sym (firm_up n t p h) ∙ e)

pub firm-parent : (n : ℕ) (t : List Block) (p : ℕ) → 0 < p → firm n t p ≡ true → firm n t (parent_of t p) ≡ true
firm-parent n t p h e = and_r (notarized n t p) (firm n t (parent_of t p)) (sym (firm_up n t p h) ∙ e)

pub firm_next : (n : ℕ) (t : List Block) (p : ℕ) → 0 < p → notarized n t p ≡ true → firm n t (parent_of t p) ≡ true → firm n t p ≡ true
firm_next n t p h a b = firm_up n t p h ∙ and_both (notarized n t p) (firm n t (parent_of t p)) a b

-- a block's votes reach the quorum
pub notarized-votes : (n : ℕ) (t : List Block) (p : ℕ) → 0 < p → notarized n t p ≡ true → quorum n ≤ votes (at t p)
unfolding notarized
notarized-votes n t p h e =
    ⊎_elim (λ x. absurd (omega (arith, eqb-true p 0 x))) (λ x. leb-true (quorum n) (votes (at t p)) x)
    (or_cases (eqb p 0) (leb (quorum n) (votes (at t p))) e)

-- a grown table keeps votes and firmness
module _ {t u : List Block} (g : Grown t u) where
  pub grown_votes : (p : ℕ) → p < size t → votes (at t p) ≤ votes (at u p)
  unfolding votes
  grown_votes p h =
      count_mono most_nodes (λ i. has_voter (at t p) i) (λ i. has_voter (at u p) i) (λ i l w. g.voters p i h w)

  pub grown_notarized : (n p : ℕ) → p < size t → notarized n t p ≡ true → notarized n u p ≡ true
  unfolding notarized
  grown_notarized n p h e = go (or_cases (eqb p 0) (leb (quorum n) (votes (at t p))) e)
    where
      go : (eqb p 0 ≡ true) ⊎ (leb (quorum n) (votes (at t p)) ≡ true) → notarized n u p ≡ true
      go (inl x) = or_l (eqb p 0) (leb (quorum n) (votes (at u p))) x
      go (inr x) =
          or_r (eqb p 0) (leb (quorum n) (votes (at u p)))
          (le-leb (quorum n) (votes (at u p)) (le_trans (leb-true (quorum n) (votes (at t p)) x) (grown_votes p h)))

  pub grown_firm : (n p : ℕ) → p < size t → firm n t p ≡ true → firm n u p ≡ true
  grown_firm n = climb t (λ p. p < size t → firm n t p ≡ true → firm n u p ≡ true) (λ h e. firm-zero n u) step
    where
      step : (p : ℕ) → 0 < p → (parent_of t p < size t → firm n t (parent_of t p) ≡ true → firm n u (parent_of t p) ≡ true)
          → p < size t → firm n t p ≡ true → firm n u p ≡ true
      step p pos ih h e =
          firm_next n u p pos
          (grown_notarized n p h (firm-own n t p pos e))
          (subst (λ q. firm n u q ≡ true) (sym (grown_parent g p h))
          (ih (omega (arith, parent_below t p pos)) (firm-parent n t p pos e)))
