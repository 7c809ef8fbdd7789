-- What the definitions of `specs/` have to do with one another: the laws that proofs cite, here and in the crates above.
-- Scans first (`Scan`), then bytes (`Bytes`), then rows (`Rows`). Assumes nothing.
use Prim.Native.Nat.{ℕ, zero, suc, ◌+◌, ◌≤◌, ◌<◌, zero-le, max, min}
use mathlib.Core.Bool.{Bool, true, false, ◌&&◌, and-true, and-eq-true_iff, true≢false, false≢true}
use Rattle.std.proofs.Math.Bool.{and_assoc}
use Rattle.std.proofs.Common.{nat_eq, ◌++◌}
use Rattle.std.proofs.lemmas.List.{take_more}
use lib.ListN.{take}
use lib.Pointwise.{pointwise}
use mir.Val.{bool_byte}
use mathlib.Core.List.{List, [], ◌∷◌}
use mathlib.Core.Logic.{◌⊎◌, inl, inr, ⊎_elim}
use Rattle.std.specs.Prelude.{Some, None}
use mathlib.Core.Path.{◌≡◌, refl, sym, ap, ◌∙◌}
use native.Mathlib.Decide.{dec_le, dec_lt}
use native.Mathlib.Nat.{le_refl, not-suc-le-zero, le_of_suc-le-suc}
use native.Mathlib.Numerals.{add-one}
use native.Mathlib.Omega.{arith}
use borrow.Author.Count.{below_more}
use borrow.Author.Tests.{ltb-true, ltb-false, lt-ltb, le-ltb, le-leb, lt-leb, eqb-true, eq-eqb}
use lib.Dec.{ltb, leb, eqb}
use lib.ListN.{length, get_or, replicate, length-take, length-replicate, get_or-eq_default}
use lib.Seq.{ext_get_or, get_or-take, set_out}
use Rattle.table.specs.Scan.{pick, all_below, count, lowest, highest, greatest}
use Rattle.table.specs.Bytes.{same, zeros}
use Rattle.table.specs.Rows.{capacity, row_of, rows, at, size, blank, find, found, has_voter, with_voter, votes, most_nodes}
use Rattle.table.specs.declared.Block.{Block}
use Rattle.table.specs.declared.State.{State}

-- ---- promises

-- two outcomes that equal one and the same are equal: a promise that is an equation admits one
pub one-outcome {ℓ} : {A : Type ℓ} {x r q : A} → r ≡ x → q ≡ x → r ≡ q
one-outcome p h = p ∙ sym h

-- ---- tests

pub not_both : {b : Bool} → b ≡ true → b ≡ false → ⊥
not_both t f = true≢false (sym t ∙ f)

-- what does not pass fails
pub fails : (b : Bool) → (b ≡ true → ⊥) → b ≡ false
fails true h = absurd (h refl)
fails false h = refl

-- two tests that pass together are the same
pub same_test : (a b : Bool) → (a ≡ true → b ≡ true) → (b ≡ true → a ≡ true) → a ≡ b
same_test true b f g = sym (f refl)
same_test false true f g = g refl
same_test false false f g = refl

-- ---- pick

pub pick_yes {ℓ} : {A : Type ℓ} (b : Bool) (x y : A) → b ≡ true → pick b x y ≡ x
unfolding pick
pick_yes true x y e = refl
pick_yes false x y e = absurd (false≢true e)

pub pick_no {ℓ} : {A : Type ℓ} (b : Bool) (x y : A) → b ≡ false → pick b x y ≡ y
unfolding pick
pick_no true x y e = absurd (true≢false e)
pick_no false x y e = refl

-- what holds of the first where the test passes, and of the second where it fails, holds of the one picked
pub pick-case {ℓ} : {A : Type ℓ} (P : A → Type 0) (b : Bool) (x y : A) → (b ≡ true → P x) → (b ≡ false → P y) → P (pick b x y)
unfolding pick
pick-case P true x y f g = f refl
pick-case P false x y f g = g refl

-- ---- all below

pub all_below-step : (k : ℕ) (ok : ℕ → Bool) → all_below (k + 1) ok ≡ (all_below k ok && ok k)
unfolding all_below
all_below-step k ok = rw add-one

pub all_below-at : (k : ℕ) (ok : ℕ → Bool) → all_below k ok ≡ true → (i : ℕ) → i < k → ok i ≡ true
unfolding all_below
all_below-at zero ok h i l = absurd (not-suc-le-zero l)
all_below-at (suc k) ok h i l =
    let both = (and-eq-true_iff (all_below k ok) (ok k)).0 h in
    below_more (λ j. ok j ≡ true) k (all_below-at k ok both.0) both.1 i (omega arith)

pub all_below_all : (k : ℕ) (ok : ℕ → Bool) → ((i : ℕ) → i < k → ok i ≡ true) → all_below k ok ≡ true
unfolding all_below
all_below_all zero ok h = refl
all_below_all (suc k) ok h =
    (and-eq-true_iff (all_below k ok) (ok k)).1 (all_below_all k ok (λ i l. h i (omega arith)), h k (le_refl (suc k)))

pub all_below_same : (k : ℕ) (f g : ℕ → Bool) → ((i : ℕ) → i < k → f i ≡ g i) → all_below k f ≡ all_below k g
unfolding all_below
all_below_same zero f g e = refl
all_below_same (suc k) f g e = ap (λ (t : Bool). t && f k) (all_below_same k f g (λ i l. e i (omega arith))) ∙ ap (λ (t : Bool). all_below k g && t) (e k (omega arith))

-- ---- count

pub count-step : (k : ℕ) (ok : ℕ → Bool) → count (k + 1) ok ≡ count k ok + pick (ok k) 1 0
unfolding count
count-step k ok = rw add-one

pub count_yes : (k : ℕ) (ok : ℕ → Bool) → ok k ≡ true → count (k + 1) ok ≡ count k ok + 1
count_yes k ok h = count-step k ok ∙ ap (λ (n : ℕ). count k ok + n) (pick_yes (ok k) 1 0 h)

pub count_no : (k : ℕ) (ok : ℕ → Bool) → ok k ≡ false → count (k + 1) ok ≡ count k ok
count_no k ok h = omega (arith, count-step k ok, pick_no {A = ℕ} (ok k) 1 0 h)

pub count-le : (k : ℕ) (ok : ℕ → Bool) → count k ok ≤ k
unfolding count
count-le zero ok = zero-le
count-le (suc k) ok =
    pick-case (λ (n : ℕ). count k ok + n ≤ suc k) (ok k) 1 0 (λ e. omega (arith, count-le k ok)) (λ e. omega (arith, count-le k ok))

-- a number that counts passes
passes : (a : Bool) → 0 < pick a 1 0 → a ≡ true
unfolding pick
passes true h = refl
passes false h = absurd (omega arith)

-- a positive count has a number that passes
pub count-some : (k : ℕ) (ok : ℕ → Bool) → 0 < count k ok → (i : ℕ) × (i < k) × (ok i ≡ true)
unfolding count
count-some zero ok h = absurd (omega arith)
count-some (suc k) ok h =
    elim (dec_lt 0 (count k ok)) [
      | yes p ↦ let (i, below, e) = count-some k ok p in (i, omega arith, e)
      | no p ↦ (k, omega arith, passes (ok k) (omega arith))
    ]

-- a test that more numbers pass counts as many or more
pub count_mono : (k : ℕ) (f g : ℕ → Bool) → ((i : ℕ) → i < k → f i ≡ true → g i ≡ true) → count k f ≤ count k g
unfolding count
count_mono zero f g h = omega arith
count_mono (suc k) f g h =
    omega (arith, count_mono k f g (λ i l. h i (omega arith)), step (f k) (g k) (h k (omega arith)))
  where
    step : (a b : Bool) → (a ≡ true → b ≡ true) → pick a 1 0 ≤ pick b 1 0
    step true b w = rw (w refl) (omega arith)
    step false b w = omega arith

-- what changes no more from m on is settled there
pub settles : (F : ℕ → ℕ) (m k : ℕ) → m ≤ k → ((i : ℕ) → m ≤ i → i < k → F (i + 1) ≡ F i) → F k ≡ F m
settles F m zero l same = ap F (omega arith)
settles F m (suc k) l same =
    elim (dec_le m k) [
      | yes h ↦ ap F (sym (add-one k)) ∙ same k h (omega arith) ∙ settles F m k h (λ i a b. same i a (omega arith))
      | no h ↦ ap F (omega arith)
    ]

-- numbers from n on that don't pass add nothing
pub count_cut : (k n : ℕ) (ok : ℕ → Bool) → n ≤ k → ((i : ℕ) → n ≤ i → i < k → ok i ≡ false) → count k ok ≡ count n ok
count_cut k n ok l h = settles (λ i. count i ok) n k l (λ i a b. count_no i ok (h i a b))

-- ---- lowest

record Lowest (k : ℕ) (ok : ℕ → Bool) (w : ℕ) : Type 0 where
  within : w ≤ k
  hit : w < k → ok w ≡ true
  below : (i : ℕ) → i < w → ok i ≡ false

module _ (k : ℕ) (ok : ℕ → Bool) (w : ℕ) (ih : Lowest k ok w) where
  passed : w < k → Lowest (suc k) ok w
  passed l = record { within = omega (arith, ih.within); hit = λ m. ih.hit l; below = ih.below }

  here : k ≤ w → ok k ≡ true → Lowest (suc k) ok k
  here l y = record { within = omega arith; hit = λ m. y; below = λ i m. ih.below i (omega arith) }

  nowhere : k ≤ w → ok k ≡ false → Lowest (suc k) ok (suc k)
  nowhere l n =
      record {
        within = le_refl (suc k);
        hit = λ m. absurd (omega arith);
        below = λ i m. below_more (λ j. ok j ≡ false) k (λ j h. ih.below j (omega arith)) n i (omega arith);
      }

lowest-lowest : (k : ℕ) (ok : ℕ → Bool) → Lowest k ok (lowest k ok)
unfolding lowest
lowest-lowest zero ok =
    record { within = zero-le; hit = λ l. absurd (not-suc-le-zero l); below = λ i l. absurd (not-suc-le-zero l) }
lowest-lowest (suc k) ok =
    let w = lowest k ok in
    let ih = lowest-lowest k ok in
    let end = pick-case (Lowest (suc k) ok) (ok k) k (suc k) in
    pick-case (Lowest (suc k) ok) (ltb w k) w (pick (ok k) k (suc k)) (λ e. passed k ok w ih (ltb-true w k e))
    (λ e. end (here k ok w ih (ltb-false w k e)) (nowhere k ok w ih (ltb-false w k e)))

pub lowest-le : (k : ℕ) (ok : ℕ → Bool) → lowest k ok ≤ k
lowest-le k ok = (lowest-lowest k ok).within

pub lowest_hit : (k : ℕ) (ok : ℕ → Bool) → lowest k ok < k → ok (lowest k ok) ≡ true
lowest_hit k ok = (lowest-lowest k ok).hit

pub lowest_below : (k : ℕ) (ok : ℕ → Bool) (i : ℕ) → i < lowest k ok → ok i ≡ false
lowest_below k ok = (lowest-lowest k ok).below

-- the other way: a number that passes, with none below it that does, is the lowest; where none passes it is the bound
pub lowest-is : (k : ℕ) (ok : ℕ → Bool) (w : ℕ) → w < k → ok w ≡ true → ((i : ℕ) → i < w → ok i ≡ false) → lowest k ok ≡ w
lowest-is k ok w l h below =
    let up : lowest k ok < w → ⊥ = λ m. not_both (lowest_hit k ok (omega arith)) (below (lowest k ok) m) in
    let down : w < lowest k ok → ⊥ = λ m. not_both h (lowest_below k ok w m) in
    omega arith

pub lowest_none : (k : ℕ) (ok : ℕ → Bool) → ((i : ℕ) → i < k → ok i ≡ false) → lowest k ok ≡ k
lowest_none k ok none_below =
    let up : lowest k ok < k → ⊥ = λ m. not_both (lowest_hit k ok m) (none_below (lowest k ok) m) in
    omega (arith, lowest-le k ok)

-- ---- highest

-- w wins over i: it has a higher rank, or the same and is no higher itself
abbrev pub Wins : (ℕ → ℕ) → ℕ → ℕ → Type 0
Wins rank w i = (rank i < rank w) ⊎ ((rank i ≡ rank w) × (w ≤ i))

-- of two only one wins over the other
pub wins_once : (rank : ℕ → ℕ) (v w : ℕ) → Wins rank v w → Wins rank w v → v ≡ w
wins_once rank v w (inl x) (inl y) = omega arith
wins_once rank v w (inl x) (inr y) = omega arith
wins_once rank v w (inr x) (inl y) = omega arith
wins_once rank v w (inr x) (inr y) = omega arith

record Highest (k : ℕ) (ok : ℕ → Bool) (rank : ℕ → ℕ) (w : ℕ) : Type 0 where
  passes : (w ≡ 0) ⊎ ((w < k) × (ok w ≡ true))
  wins : (i : ℕ) → i < k → ok i ≡ true → Wins rank w i

module _ (k : ℕ) (ok : ℕ → Bool) (rank : ℕ → ℕ) (w : ℕ) (ih : Highest k ok rank w) where
  beaten : ok k ≡ true → rank w < rank k → Highest (suc k) ok rank k
  beaten y more =
      let old : (j : ℕ) → j < k → ok j ≡ true → Wins rank k j = λ j m h. ⊎_elim (λ x. inl (omega arith)) (λ x. inl (omega arith)) (ih.wins j m h) in
      record {
        passes = inr (le_refl (suc k), y);
        wins = λ i l. below_more (λ j. ok j ≡ true → Wins rank k j) k old (λ h. inr (refl, le_refl k)) i (omega arith);
      }

  unbeaten : (ok k ≡ true → rank k ≤ rank w) → Highest (suc k) ok rank w
  unbeaten less =
      let low : w ≤ k = ⊎_elim (λ z. omega arith) (λ z. omega arith) ih.passes in
      let new : rank k ≤ rank w → Wins rank w k = λ l. elim (dec_lt (rank k) (rank w)) [ yes s ↦ inl s | no s ↦ inr (omega arith, low) ] in
      record {
        passes = ⊎_elim (λ z. inl z) (λ z. inr (omega arith, z.1)) ih.passes;
        wins = λ i l. below_more (λ j. ok j ≡ true → Wins rank w j) k ih.wins (λ h. new (less h)) i (omega arith);
      }

highest-highest : (k : ℕ) (ok : ℕ → Bool) (rank : ℕ → ℕ) → Highest k ok rank (highest k ok rank)
unfolding highest
highest-highest zero ok rank = record { passes = inl refl; wins = λ i l. absurd (not-suc-le-zero l) }
highest-highest (suc k) ok rank =
    let w = highest k ok rank in
    let ih = highest-highest k ok rank in
    let both = and-eq-true_iff (ok k) (ltb (rank w) (rank k)) in
    pick-case (Highest (suc k) ok rank) (ok k && ltb (rank w) (rank k)) k w
    (λ e. beaten k ok rank w ih (both.0 e).0 (ltb-true (rank w) (rank k) (both.0 e).1))
    (λ e. unbeaten k ok rank w ih (λ h. ltb-false (rank w) (rank k) (rw h at e)))

pub highest-step : (k : ℕ) (ok : ℕ → Bool) (rank : ℕ → ℕ) → highest (k + 1) ok rank ≡ pick (ok k && ltb (rank (highest k ok rank)) (rank k)) k (highest k ok rank)
unfolding highest
highest-step k ok rank = rw add-one

-- the winner passes, unless it is 0, the start, which wins also where nothing passes
pub highest-passes : (k : ℕ) (ok : ℕ → Bool) (rank : ℕ → ℕ) → (highest k ok rank ≡ 0) ⊎ ((highest k ok rank < k) × (ok (highest k ok rank) ≡ true))
highest-passes k ok rank = (highest-highest k ok rank).passes

pub highest_in : (k : ℕ) (ok : ℕ → Bool) (rank : ℕ → ℕ) → 0 < k → highest k ok rank < k
highest_in k ok rank h =
    let b = highest k ok rank in
    ⊎_elim (λ (z : b ≡ 0). omega arith) (λ (z : (b < k) × (ok b ≡ true)). z.0) (highest-passes k ok rank)

pub highest_wins : (k : ℕ) (ok : ℕ → Bool) (rank : ℕ → ℕ) (i : ℕ) → i < k → ok i ≡ true → Wins rank (highest k ok rank) i
highest_wins k ok rank = (highest-highest k ok rank).wins

-- the other way, where 0 passes: a number that passes and wins over each that does is the winner
pub highest-is : (k : ℕ) (ok : ℕ → Bool) (rank : ℕ → ℕ) (w : ℕ) → ok 0 ≡ true → w < k → ok w ≡ true → ((i : ℕ) → i < k → ok i ≡ true → Wins rank w i) → highest k ok rank ≡ w
highest-is k ok rank w z l h wins =
    let b = highest k ok rank in
    let p : (b < k) × (ok b ≡ true) = ⊎_elim (λ e. (omega arith, ap ok e ∙ z)) (λ q. q) (highest-passes k ok rank) in
    wins_once rank b w (highest_wins k ok rank w l h) (wins b p.0 p.1)

-- ---- greatest

record Greatest (k : ℕ) (ok : ℕ → Bool) (value : ℕ → ℕ) (g : ℕ) : Type 0 where
  bounds : (i : ℕ) → i < k → ok i ≡ true → value i ≤ g
  reached : (g ≡ 0) ⊎ ((i : ℕ) × (i < k) × (ok i ≡ true) × (value i ≡ g))

module _ (k : ℕ) (ok : ℕ → Bool) (value : ℕ → ℕ) (g : ℕ) (ih : Greatest k ok value g) where
  -- a value that is no greater than the greatest so far leaves it as it is
  as_it_was : (x : ℕ) → x ≤ g → (max g x ≡ 0) ⊎ ((i : ℕ) × (i < suc k) × (ok i ≡ true) × (value i ≡ max g x))
  as_it_was x l = ⊎_elim (λ z. inl (omega arith)) (λ z. inr (z.0, omega arith, z.2, omega arith)) ih.reached

  more_bounds : (x : ℕ) → (ok k ≡ true → value k ≤ x) → (i : ℕ) → i < suc k → ok i ≡ true → value i ≤ max g x
  more_bounds x new i l =
      below_more (λ j. ok j ≡ true → value j ≤ max g x) k (λ j m h. omega (arith, ih.bounds j m h)) (λ h. omega (arith, new h)) i (omega arith)

greatest-greatest : (k : ℕ) (ok : ℕ → Bool) (value : ℕ → ℕ) → Greatest k ok value (greatest k ok value)
unfolding greatest
greatest-greatest zero ok value = record { bounds = λ i l. absurd (not-suc-le-zero l); reached = inl refl }
greatest-greatest (suc k) ok value =
    let g = greatest k ok value in
    let ih = greatest-greatest k ok value in
    let old = as_it_was k ok value g ih in
    let bounds = more_bounds k ok value g ih in
    pick-case (λ (x : ℕ). Greatest (suc k) ok value (max g x)) (ok k) (value k) 0
    (λ e.
    record {
      bounds = bounds (value k) (λ h. le_refl (value k));
      reached = elim (dec_le (value k) g) [ yes s ↦ old (value k) s | no s ↦ inr (k, le_refl (suc k), e, omega arith) ];
    })
    (λ e. record { bounds = bounds 0 (λ h. absurd (not_both h e)); reached = old 0 zero-le })

pub greatest-step : (k : ℕ) (ok : ℕ → Bool) (value : ℕ → ℕ) → greatest (k + 1) ok value ≡ max (greatest k ok value) (pick (ok k) (value k) 0)
unfolding greatest
greatest-step k ok value = rw add-one

pub greatest_bounds : (k : ℕ) (ok : ℕ → Bool) (value : ℕ → ℕ) (i : ℕ) → i < k → ok i ≡ true → value i ≤ greatest k ok value
greatest_bounds k ok value = (greatest-greatest k ok value).bounds

pub greatest-reached : (k : ℕ) (ok : ℕ → Bool) (value : ℕ → ℕ) → (greatest k ok value ≡ 0) ⊎ ((i : ℕ) × (i < k) × (ok i ≡ true) × (value i ≡ greatest k ok value))
greatest-reached k ok value = (greatest-greatest k ok value).reached

pub greatest-is : (k : ℕ) (ok : ℕ → Bool) (value : ℕ → ℕ) (g : ℕ) → ((i : ℕ) → i < k → ok i ≡ true → value i ≤ g) → (g ≡ 0) ⊎ ((i : ℕ) × (i < k) × (ok i ≡ true) × (value i ≡ g)) → greatest k ok value ≡ g
greatest-is k ok value g bounds reached =
    let m = greatest k ok value in
    let up : m ≤ g = ⊎_elim (λ z. omega arith) (λ z. omega (arith, bounds z.0 z.1 z.2)) (greatest-reached k ok value) in
    let down : g ≤ m = ⊎_elim (λ z. omega arith) (λ z. omega (arith, greatest_bounds k ok value z.0 z.1 z.2)) reached in
    omega arith

-- ---- lists

-- in range the default is never read
pub get_d_any {ℓ} : {A : Type ℓ} (l : List A) (i : ℕ) (d e : A) → i < length l → get_or l i d ≡ get_or l i e
get_d_any [] i d e h = absurd (not-suc-le-zero h)
get_d_any (x ∷ xs) zero d e h = refl
get_d_any (x ∷ xs) (suc i) d e h = get_d_any xs i d e (le_of_suc-le-suc h)

-- ---- bytes

pub same_refl : (a : List ℕ) → same a a ≡ true
unfolding same
same_refl [] = refl
same_refl (x ∷ xs) = (and-eq-true_iff (eqb x x) (same xs xs)).1 (eq-eqb x x refl, same_refl xs)

pub same_true : (a b : List ℕ) → same a b ≡ true → a ≡ b
unfolding same
same_true [] [] h = refl
same_true [] (y ∷ ys) h = absurd (false≢true h)
same_true (x ∷ xs) [] h = absurd (false≢true h)
same_true (x ∷ xs) (y ∷ ys) h =
    let both = (and-eq-true_iff (eqb x y) (same xs ys)).0 h in
    let head : x ≡ y = eqb-true x y both.0 in
    let tail : xs ≡ ys = same_true xs ys both.1 in
    cc

pub same_false : (a b : List ℕ) → (a ≡ b → ⊥) → same a b ≡ false
same_false a b h = fails (same a b) (λ e. h (same_true a b e))

-- by their bytes: one that differs, or none
pub same_differs : (a b : List ℕ) (i : ℕ) → (get_or a i 0 ≡ get_or b i 0 → ⊥) → same a b ≡ false
same_differs a b i h = same_false a b (λ e. h (ap (λ (l : List ℕ). get_or l i 0) e))

pub same_all : (a b : List ℕ) (n : ℕ) → length a ≡ n → length b ≡ n → ((i : ℕ) → i < n → get_or a i 0 ≡ get_or b i 0) → same a b ≡ true
same_all a b n p q h = ap (same a) (sym (ext_get_or 0 a b (p ∙ sym q) (λ i l. h i (omega arith)))) ∙ same_refl a

-- std's comparison of two lists, element by element
pub pointwise-same : (a b : List ℕ) → pointwise nat_eq a b ≡ same a b
unfolding same
pointwise-same [] [] = refl
pointwise-same [] (y ∷ ys) = refl
pointwise-same (x ∷ xs) [] = refl
pointwise-same (x ∷ xs) (y ∷ ys) = ap (λ (t : Bool). eqb x y && t) (pointwise-same xs ys)

pub zeros-append : (a b : List ℕ) → zeros (a ++ b) ≡ (zeros a && zeros b)
unfolding zeros
zeros-append [] b = refl
zeros-append (x ∷ a) b = ap (λ (t : Bool). eqb x 0 && t) (zeros-append a b) ∙ sym (and_assoc (eqb x 0) (zeros a) (zeros b))

-- one byte more
pub zeros-more : (a : List ℕ) (i : ℕ) → i < length a → zeros (take (i + 1) a) ≡ (zeros (take i a) && eqb (get_or a i 0) 0)
unfolding zeros
zeros-more a i h =
    ap zeros (take_more a i 0 h)
    ∙ zeros-append (take i a) (get_or a i 0 ∷ [])
    ∙ ap (λ (t : Bool). zeros (take i a) && t) (and-true (eqb (get_or a i 0) 0))

-- a list is all zero where it is the same as as many zeros
pub zeros-same : (a : List ℕ) (n : ℕ) → length a ≡ n → zeros a ≡ same a (replicate n 0)
unfolding zeros same
zeros-same [] n e = ap (λ (k : ℕ). same [] (replicate k 0)) e
zeros-same (x ∷ xs) n e = ap (λ (t : Bool). eqb x 0 && t) (zeros-same xs (length xs) refl) ∙ ap (λ (k : ℕ). same (x ∷ xs) (replicate k 0)) e

pub zeros_true : (a : List ℕ) → zeros a ≡ true → a ≡ replicate (length a) 0
zeros_true a h = same_true a (replicate (length a) 0) (sym (zeros-same a (length a) refl) ∙ h)

pub zeros-replicate : (n : ℕ) → zeros (replicate n 0) ≡ true
zeros-replicate n = zeros-same (replicate n 0) n (length-replicate n 0) ∙ same_refl (replicate n 0)

-- ---- rows

pub at_in : (t : List Block) (p : ℕ) (d : Block) → p < size t → at t p ≡ get_or t p d
unfolding at
at_in t p d h = get_d_any t p (get_or t 0 blank) d h

pub at_out : (t : List Block) (p : ℕ) → size t ≤ p → at t p ≡ at t 0
unfolding at
at_out [] p h = refl
at_out (x ∷ xs) p h = get_or-eq_default (x ∷ xs) x h

-- the row of a place within the capacity, and past it
pub row_in : (p : ℕ) → p ≤ capacity → row_of p ≡ p
unfolding row_of
row_in p h = pick_yes (leb p capacity) p 0 (le-leb p capacity h)

pub row-past : (p : ℕ) → capacity < p → row_of p ≡ 0
unfolding row_of
row-past p h = pick_no (leb p capacity) p 0 (lt-leb p capacity h)

pub row_low : (p k : ℕ) → k ≡ row_of p → k ≤ capacity
row_low p k e = elim (dec_le p capacity) [ yes h ↦ omega (arith, row_in p h) | no h ↦ omega (arith, row-past p (omega arith)) ]

pub size-rows : (s : State) → size (rows s) ≡ min (suc s.count) (length s.blocks)
unfolding rows
size-rows s = length-take (suc s.count) s.blocks

pub at_rows : (s : State) (p : ℕ) (d : Block) → p ≤ s.count → p < length s.blocks → at (rows s) p ≡ get_or s.blocks p d
unfolding rows
at_rows s p d h l = at_in (rows s) p d (omega (arith, size-rows s)) ∙ get_or-take (suc s.count) s.blocks p d (omega arith)

pub at-past : (s : State) (p : ℕ) (d : Block) → 0 < length s.blocks → size (rows s) ≤ p → at (rows s) p ≡ get_or s.blocks 0 d
at-past s p d l h = at_out (rows s) p h ∙ at_rows s 0 d zero-le l

-- a table's place for a name: the first row that has it, or the end where none has
pub find-is : (t : List Block) (name : List ℕ) (w : ℕ) → w < size t → same (at t w).name name ≡ true → ((i : ℕ) → i < w → same (at t i).name name ≡ false) → find t name ≡ w
unfolding find
find-is t name w l h below = lowest-is (size t) (λ p. same (at t p).name name) w l h below

pub find_none : (t : List Block) (name : List ℕ) → ((i : ℕ) → i < size t → same (at t i).name name ≡ false) → find t name ≡ size t
unfolding find
find_none t name none_has = lowest_none (size t) (λ p. same (at t p).name name) none_has

-- .. and as an Option
pub found_is : (t : List Block) (name : List ℕ) (p : ℕ) → find t name ≡ p → found t name ≡ pick (ltb p (size t)) (Some (record { 0 = p })) None
unfolding found
found_is t name p e = ap (λ (w : ℕ). pick (ltb w (size t)) (Some (record { 0 = w })) None) e

pub found_at : (t : List Block) (name : List ℕ) (p : ℕ) → p < size t → same (at t p).name name ≡ true → ((i : ℕ) → i < p → same (at t i).name name ≡ false) → found t name ≡ Some (record { 0 = p })
found_at t name p l here below = found_is t name p (find-is t name p l here below) ∙ pick_yes (ltb p (size t)) _ _ (lt-ltb p (size t) l)

pub found_none : (t : List Block) (name : List ℕ) → ((i : ℕ) → i < size t → same (at t i).name name ≡ false) → found t name ≡ None
found_none t name none_has =
    found_is t name (size t) (find_none t name none_has) ∙ pick_no (ltb (size t) (size t)) _ _ (le-ltb (size t) (size t) (le_refl (size t)))

-- ---- voters

pub voter_past : (b : Block) (i n : ℕ) → length b.voters ≡ n → n ≤ i → has_voter b i ≡ false
unfolding has_voter
voter_past b i n e h = get_or-eq_default b.voters false (omega arith)

pub with_voter-past : (b : Block) (i n : ℕ) → length b.voters ≡ n → n ≤ i → with_voter b i ≡ b
unfolding with_voter
with_voter-past b i n e h =
    ap
    (λ (v : List Bool). record {
      name = b.name;
      payload = b.payload;
      voters = v;
      epoch = b.epoch;
      parent = b.parent;
    })
    (set_out b.voters i true (omega arith))

-- a flag as a byte
pub flag-byte : (b : Bool) → bool_byte b ≡ pick b 1 0
unfolding pick
flag-byte true = refl
flag-byte false = refl

pub votes-count : (b : Block) (k : ℕ) → k ≡ most_nodes → count k (has_voter b) ≡ votes b
unfolding votes
votes-count b k e = ap (λ (j : ℕ). count j (has_voter b)) e
