-- 01, "What a taken record does": the rules that the rows and the five steps go by. They see a table only through `at` and `size`,
-- and the genesis's name and epoch through its row, place 0.
use Rattle.std.specs.Prelude.{ℕ, zero, suc, ◌+◌, Bool, true, false, not, ◌&&◌, ◌||◌, List, [], ◌∷◌, eqb, ltb, leb}
use Rattle.table.specs.declared.Block.{Block}
use Rattle.table.specs.declared.Epoch.{Epoch}
use Rattle.table.specs.Scan.{pick, count, lowest, highest, greatest}
use Rattle.table.specs.Rows.{size, at, votes}
use Rattle.pala.specs.Counts.{quorum, clock_of}

-- the epoch of the block at a place
unfoldable pub epoch_at : List Block → ℕ → ℕ
unfolding at
epoch_at t p = (at t p).epoch.0

-- "places fall": the next place down by `up`; one that isn't lower, which no well-shaped state has, counts as the genesis
unfoldable pub lower : (ℕ → ℕ) → ℕ → ℕ
unfolding pick
lower up p = pick (ltb (up p) p) (up p) 0

-- a place, the next one down and so on to the genesis, in at most k steps
unfoldable pub fall_in : (ℕ → ℕ) → ℕ → ℕ → List ℕ
unfolding lower
fall_in up zero p = p ∷ []
fall_in up (suc k) p = elim (eqb p 0) [ true ↦ p ∷ [] | false ↦ p ∷ fall_in up k (lower up p) ]

-- there are no more steps than the place counts
unfoldable pub fall : (ℕ → ℕ) → ℕ → List ℕ
unfolding fall_in
fall up p = fall_in up p p

-- the place of a block's parent
unfoldable pub parent_of : List Block → ℕ → ℕ
unfolding lower at
parent_of t p = lower (λ a. (at t a).parent.0) p

-- a block and "every ancestor up to genesis", from the block down
unfoldable pub line : List Block → ℕ → List ℕ
unfolding fall at
line t p = fall (λ a. (at t a).parent.0) p

-- does every number of the list pass; is one of them a
unfoldable pub every : (ℕ → Bool) → List ℕ → Bool
every ok [] = true
every ok (x ∷ l) = ok x && every ok l

unfoldable pub among : ℕ → List ℕ → Bool
among a [] = false
among a (x ∷ l) = eqb x a || among a l

-- "A block is notarized at q voters"; the genesis is "notarized by decree"
unfoldable pub notarized : ℕ → List Block → ℕ → Bool
unfolding quorum votes at
notarized n t p = eqb p 0 || leb (quorum n) (votes (at t p))

-- "firm when it and every ancestor up to genesis is notarized"
unfoldable pub firm : ℕ → List Block → ℕ → Bool
unfolding every notarized line
firm n t p = every (λ a. notarized n t a) (line t p)

-- "Freshest: the firm block of highest epoch; of equals the lowest place"
unfoldable pub freshest : ℕ → List Block → ℕ
unfolding highest firm epoch_at
freshest n t = highest (size t) (λ p. firm n t p) (λ p. epoch_at t p)

-- 02, M-100: a node has "a kept clock of c or more"
unfoldable pub reached : List Epoch → ℕ → ℕ → Bool
unfolding clock_of
reached clocks c i = leb c (clock_of clocks i)

-- "at least q nodes have a kept clock of c or more"
unfoldable pub shared : ℕ → List Epoch → ℕ → Bool
unfolding quorum count reached
shared n clocks c = leb (quorum n) (count n (λ i. reached clocks c i))

-- "the greatest c such that at least q nodes have a kept clock of c or more": one of the kept clocks, or 0
unfoldable pub agreed : ℕ → List Epoch → ℕ
unfolding greatest shared clock_of
agreed n clocks = greatest n (λ i. shared n clocks (clock_of clocks i)) (λ i. clock_of clocks i)

-- "A block may be voted for when its epoch is the local epoch, its parent is firm, the parent's epoch is at least the bar,
-- and the last epoch voted in isn't the local one"
unfoldable pub votable : ℕ → List Block → ℕ → ℕ → ℕ → ℕ → Bool
unfolding epoch_at parent_of firm
votable n t local bar voted p =
    ltb 0 p
    && eqb (epoch_at t p) local
    && firm n t (parent_of t p)
    && leb bar (epoch_at t (parent_of t p))
    && not (eqb voted local)

-- "the lowest place that may be voted for"; past the end where there is none
unfoldable pub ballot : ℕ → List Block → ℕ → ℕ → ℕ → ℕ
unfolding lowest votable
ballot n t local bar voted = lowest (size t) (λ p. votable n t local bar voted p)

-- "A block is normal when its epoch is its parent's plus 1"
unfoldable pub normal : List Block → ℕ → Bool
unfolding epoch_at parent_of
normal t p = eqb (epoch_at t p) (epoch_at t (parent_of t p) + 1)

-- 02, M-104: "the firm normal block of highest epoch, lowest place among equals"; where there is none the genesis, which isn't normal
unfoldable pub freshest_normal : ℕ → List Block → ℕ
unfolding highest firm normal epoch_at
freshest_normal n t = highest (size t) (λ p. firm n t p && normal t p) (λ p. epoch_at t p)

-- "Candidate in step 5 becomes the parent of" it; "genesis if none"
unfoldable pub candidate : ℕ → List Block → ℕ
unfolding parent_of freshest_normal
candidate n t = parent_of t (freshest_normal n t)

-- "the candidate is the kept final block or descends from it": p is a or descends from it
unfoldable pub descends : List Block → ℕ → ℕ → Bool
unfolding among line
descends t p a = among a (line t p)
