-- The theorem is not empty, and its bound is sharp: with a third faulty a recording of sixteen taken records says no. Assumes nothing.
use Prim.Native.Nat.{ℕ}
use mathlib.Core.Bool.{true, false}
use mathlib.Core.List.{List, [], ◌∷◌}
use mathlib.Core.Path.{◌≡◌, refl}
use native.Mathlib.Omega.{arith}
use Rattle.table.specs.Scan.{count, pick}
use Rattle.pala.specs.Cases.{letter, hear, vote, clock, A'}
use Rattle.pala.specs.Counts.{no_name}
use Rattle.pala.specs.Record.{message}
use Rattle.pala.proofs.States.{propose, cast_by, minute}
use Rattle.accord.specs.Head.{in_set, good_head, fresh_hall}
use Rattle.accord.specs.Words.{agree, list_of}
use Rattle.accord.specs.Text.{hall_played}
use Rattle.accord.specs.NeverNo.{FewHead}

-- four nodes with one faulty, eight with two
few_heads : FewHead (4 ∷ 7 ∷ []) × FewHead (8 ∷ 63 ∷ [])
unfolding good_head in_set count pick
few_heads = (record { good = refl; few = omega arith }, record { good = refl; few = omega arith })

abbrev B' : List ℕ
B' = letter 0x1B

abbrev X : List ℕ
X = letter 0x2A

abbrev Y : List ℕ
Y = letter 0x2B

-- three nodes, number 1 faulty: it votes for A' and B' at node 2, and for X and Y at node 0, which its clocks moved to epoch 3
unfoldable pub forking : List (List ℕ)
unfolding message
forking =
    (2 ∷ hear 1 1 A' no_name) ∷ (2 ∷ cast_by 2) ∷ (2 ∷ vote 1 A')
    ∷ (2 ∷ propose 2 B') ∷ (2 ∷ cast_by 2) ∷ (2 ∷ vote 1 B')
    ∷ (0 ∷ minute 0) ∷ (0 ∷ clock 1 2) ∷ (0 ∷ minute 0) ∷ (0 ∷ clock 1 3)
    ∷ (0 ∷ propose 0 X) ∷ (0 ∷ cast_by 0) ∷ (0 ∷ vote 1 X)
    ∷ (0 ∷ hear 1 4 Y X) ∷ (0 ∷ cast_by 0) ∷ (0 ∷ vote 1 Y)
    ∷ []

says_no_at_a_third :
    (good_head (3 ∷ 5 ∷ []) ≡ true)
    × (agree (hall_played (fresh_hall (3 ∷ 5 ∷ [])) forking) ≡ false)
    × (list_of (hall_played (fresh_hall (3 ∷ 5 ∷ [])) forking) 0 ≡ X)
    × (list_of (hall_played (fresh_hall (3 ∷ 5 ∷ [])) forking) 2 ≡ A')
unfolding good_head agree hall_played fresh_hall forking list_of
says_no_at_a_third = (refl, refl, refl, refl)
