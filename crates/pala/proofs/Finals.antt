-- The names of a final list, one line of ancestors read upward. Assumes nothing.
use Prim.Native.Nat.{ℕ, ◌+◌, ◌≤◌, ◌<◌}
use mathlib.Core.List.{List, [], ◌∷◌, ◌++◌, map, reverse, reverse-cons, map-append}
use mathlib.Core.Path.{◌≡◌, refl, ap, ◌∙◌}
use native.Mathlib.Decide.{dec_le}
use native.Mathlib.Omega.{arith}
use lib.ListN.{length, drop, length-append, length-reverse}
use lib.Seq.{drop-append-le}
use Rattle.table.specs.declared.Block.{Block}
use Rattle.table.specs.declared.State.{State}
use Rattle.table.specs.Rows.{rows, at}
use Rattle.pala.specs.Lists.{final_names}
use Rattle.pala.specs.Rules.{parent_of, line}
use Rattle.pala.proofs.Places.{parent_below}
use Rattle.pala.proofs.Demand.Ancestors.{climb, line-zero, line_up}

-- the names along a line, from the first after the genesis
unfoldable pub names_to : List Block → ℕ → List (List ℕ)
names_to t p = map (λ q. (at t q).name) (drop 1 (reverse (line t p)))

pub finals_are : (s : State) → final_names s ≡ names_to (rows s) s.kept.0
unfolding final_names names_to
finals_are s = refl

pub names_zero : (t : List Block) → names_to t 0 ≡ []
unfolding names_to
names_zero t = ap (λ l. map (λ q. (at t q).name) (drop 1 (reverse l))) (line-zero t)

line-some : (t : List Block) (p : ℕ) → 0 < length (line t p)
line-some t p =
    elim (dec_le p 0) [
      | yes z ↦ let e : p ≡ 0 = omega arith in omega (arith, ap length (ap (line t) e ∙ line-zero t))
      | no z ↦ omega (arith, ap length (line_up t p (omega arith)))
    ]

-- one name more than up to the parent
pub names_up : (t : List Block) (p : ℕ) → 0 < p → names_to t p ≡ names_to t (parent_of t p) ++ ((at t p).name ∷ [])
unfolding names_to
names_up t p pos =
    ap (λ l. map name (drop 1 (reverse l))) (line_up t p pos)
    ∙ ap (λ l. map name (drop 1 l)) (reverse-cons p rest)
    ∙ ap (map name) (drop-append-le 1 (reverse rest) (p ∷ []) (omega (arith, length-reverse rest, line-some t (parent_of t p))))
    ∙ map-append name (drop 1 (reverse rest)) (p ∷ [])
  where
    name : ℕ → List ℕ
    name q = (at t q).name

    rest : List ℕ
    rest = line t (parent_of t p)

pub names_up_length : (t : List Block) (p : ℕ) → 0 < p → length (names_to t p) ≡ length (names_to t (parent_of t p)) + 1
names_up_length t p h = ap length (names_up t p h) ∙ length-append (names_to t (parent_of t p)) ((at t p).name ∷ [])

-- there are no more of them than the place counts
pub names_le : (t : List Block) (p : ℕ) → length (names_to t p) ≤ p
names_le t =
    climb t (λ (p : ℕ). length (names_to t p) ≤ p) (omega (arith, ap length (names_zero t)))
    (λ p h ih. omega (arith, names_up_length t p h, parent_below t p h))
