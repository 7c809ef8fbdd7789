-- What tests joined by "and" and "or" tell. Assumes nothing.
use mathlib.Core.Bool.{Bool, true, false, ◌&&◌, ◌||◌, and-eq-true_iff, true≢false}
use mathlib.Core.Logic.{◌⊎◌, inl, inr}
use mathlib.Core.Path.{◌≡◌, refl, sym}

pub and_l : (a b : Bool) → (a && b) ≡ true → a ≡ true
and_l a b h = ((and-eq-true_iff a b).0 h).0

pub and_r : (a b : Bool) → (a && b) ≡ true → b ≡ true
and_r a b h = ((and-eq-true_iff a b).0 h).1

pub and_both : (a b : Bool) → a ≡ true → b ≡ true → (a && b) ≡ true
and_both a b h k = (and-eq-true_iff a b).1 (h, k)

pub or_cases : (a b : Bool) → (a || b) ≡ true → (a ≡ true) ⊎ (b ≡ true)
or_cases true b e = inl refl
or_cases false b e = inr e

pub or_l : (a b : Bool) → a ≡ true → (a || b) ≡ true
or_l true b e = refl
or_l false b e = absurd (true≢false (sym e))

pub or_r : (a b : Bool) → b ≡ true → (a || b) ≡ true
or_r true b e = refl
or_r false b e = e

-- neither of two: what a refused disjunction tells
pub nor_l : (a b : Bool) → (a || b) ≡ false → a ≡ false
nor_l true b e = e
nor_l false b e = refl

pub nor_r : (a b : Bool) → (a || b) ≡ false → b ≡ false
nor_r true b e = absurd (true≢false e)
nor_r false b e = e

-- a conjunction that fails where its first part holds
pub nand : (a b : Bool) → (a && b) ≡ false → a ≡ true → b ≡ false
nand true b e h = e
nand false b e h = absurd (true≢false (sym h))

pub either : (a : Bool) → (a ≡ true) ⊎ (a ≡ false)
either true = inl refl
either false = inr refl
