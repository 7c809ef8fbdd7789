-- One step down a chain: firm, descent. Assumes nothing.
use Prim.Native.Nat.{ℕ, ◌<◌}
use mathlib.Core.Bool.{Bool, true, false, ◌&&◌, ◌||◌}
use mathlib.Core.Path.{◌≡◌, sym, ap, ap₂, ◌∙◌}
use native.Mathlib.Decide.{ℕ_discrete, dec_lt}
use native.Mathlib.Omega.{arith}
use borrow.Author.Tests.{ne_eqb, eq-eqb, lt-ltb, le-ltb}
use lib.Dec.{eqb, ltb}
use Rattle.table.specs.declared.Place.{Place}
use Rattle.pala.specs.Rules.{lower, fall, among}
use Rattle.pala.proofs.Falls.{climb, lower_below, every-zero, every_up, among-zero, among_up}
use Rattle.rules.specs.Columns.{firm_by}

-- from any place but the genesis's the next one down is lower
pub next_below : (up : ℕ → ℕ) (p t : ℕ) (q : Place) → p ≡ t → (p ≡ 0 → ⊥) → q ≡ record { 0 = lower up p } → q.0 < t
next_below up p t q e h n = omega (arith, lower_below up p (omega arith), ap (λ (x : Place). x.0) n)

pub firm_step : (up : ℕ → ℕ) (mark : ℕ → Bool) (p : ℕ) → firm_by up mark p ≡ (eqb p 0 || (mark p && firm_by up mark (lower up p)))
unfolding firm_by
firm_step up mark p =
    elim (ℕ_discrete p 0) [
      | yes e ↦ rw e (every-zero (λ a. eqb a 0 || mark a) up)
      | no h ↦
          every_up (λ a. eqb a 0 || mark a) up p (omega arith)
          ∙ ap (λ (b : Bool). (b || mark p) && firm_by up mark (lower up p)) (ne_eqb p 0 h)
          ∙ ap (λ (b : Bool). b || (mark p && firm_by up mark (lower up p))) (sym (ne_eqb p 0 h))
    ]

-- "places fall": none below a place descends from it
among_below : (up : ℕ → ℕ) (a p : ℕ) → p < a → among a (fall up p) ≡ false
among_below up a =
    climb up (λ p. p < a → among a (fall up p) ≡ false)
    (λ l. among-zero a up ∙ ap (λ (b : Bool). b || false) (ne_eqb 0 a (λ e. omega arith)))
    (λ p more below l.
    among_up a up p more
    ∙ ap (λ (b : Bool). b || among a (fall up (lower up p))) (ne_eqb p a (λ e. omega arith))
    ∙ below (omega (arith, lower_below up p more)))

among_here : (up : ℕ → ℕ) (p a : ℕ) → p ≡ a → among a (fall up p) ≡ true
among_here up p a e =
    elim (ℕ_discrete p 0) [
      | yes z ↦ rw z (among-zero a up ∙ ap (λ (b : Bool). b || false) (eq-eqb 0 a (omega arith)))
      | no z ↦ among_up a up p (omega arith) ∙ ap (λ (b : Bool). b || among a (fall up (lower up p))) (eq-eqb p a e)
    ]

pub among_step : (up : ℕ → ℕ) (p a : ℕ) → among a (fall up p) ≡ (eqb p a || (ltb a p && among a (fall up (lower up p))))
among_step up p a =
    elim (dec_lt a p) [
      | yes l ↦
          among_up a up p (omega arith)
          ∙ ap (λ (b : Bool). eqb p a || (b && among a (fall up (lower up p)))) (sym (lt-ltb a p l))
      | no l ↦
          elim (ℕ_discrete p a) [
            | yes e ↦ among_here up p a e ∙ sym (ap (λ (b : Bool). b || (ltb a p && among a (fall up (lower up p)))) (eq-eqb p a e))
            | no n ↦ among_below up a p (omega arith) ∙ sym (ap₂ (λ (b d : Bool). b || (d && among a (fall up (lower up p)))) (ne_eqb p a n) (le-ltb a p (omega arith)))
          ]
    ]
