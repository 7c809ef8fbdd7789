-- The quorum is what 01 says of it, and the site card's test is 01's. Assumes nothing.
use mathlib.Core.Bool.{Bool}
use mathlib.Core.Path.{◌≡◌, refl}
use mathlib.Core.List.{List, [], ◌∷◌, map}
use Prim.Native.Nat.{ℕ, ◌+◌, ◌*◌, ◌≤◌}
use native.Mathlib.Omega.{arith}
use borrow.Author.Tests.{leb-true, le-leb}
use lib.Dec.{leb}
use Rattle.table.specs.Scan.{lowest}
use Rattle.table.proofs.Laws.{same_test}
use Rattle.pala.specs.Counts.{quorum}

-- "the least q with 3q at least 2n"
pub quorum_enough : (n : ℕ) → 2 * n ≤ 3 * quorum n
unfolding quorum
quorum_enough n = omega arith

pub quorum_least : (n q : ℕ) → 2 * n ≤ 3 * q → quorum n ≤ q
unfolding quorum
quorum_least n q h = omega arith

-- the site card: "three times the votes, at least twice the nodes"
abbrev pub card : ℕ → ℕ → Bool
card votes nodes = leb (2 * nodes) (3 * votes)

-- the card's test and 01's, "(2n + 2) / 3 rounded down", agree for every count and every n
pub card_agrees : (votes n : ℕ) → card votes n ≡ leb (quorum n) votes
card_agrees votes n =
    same_test (card votes n) (leb (quorum n) votes)
    (λ h. le-leb (quorum n) votes (quorum_least n votes (leb-true (2 * n) (3 * votes) h)))
    (λ h. le-leb (2 * n) (3 * votes) (omega (arith, leb-true (quorum n) votes h, quorum_enough n)))

-- "n=1:1, 2:2, 3:2, 4:3, 5:4, 6:4, 7:5, 31:21, 32:22"
abbrev listed : List ℕ
listed = 1 ∷ 2 ∷ 3 ∷ 4 ∷ 5 ∷ 6 ∷ 7 ∷ 31 ∷ 32 ∷ []

abbrev listed_quorums : List ℕ
listed_quorums = 1 ∷ 2 ∷ 2 ∷ 3 ∷ 4 ∷ 4 ∷ 5 ∷ 21 ∷ 22 ∷ []

pub quorums : map (λ n. quorum n) listed ≡ listed_quorums
unfolding quorum
quorums = refl

-- the same table from the card: the lowest count, of n votes at most, that passes its test
pub card_quorums : map (λ n. lowest (n + 1) (λ votes. card votes n)) listed ≡ listed_quorums
unfolding lowest
card_quorums = refl
