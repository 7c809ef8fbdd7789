-- What a well-shaped state has, clause by clause of 01's "A state is well shaped when ..", as plain facts; and the other way. Assumes nothing.
use Prim.Native.Nat.{ℕ, zero, suc, ◌≤◌, ◌<◌, zero-le}
use mathlib.Core.Bool.{Bool, true, false, not, ◌&&◌, ◌||◌, and-false, true≢false, false≢true}
use mathlib.Core.List.{List, [], ◌∷◌}
use mathlib.Core.Logic.{◌⊎◌, inl, inr, ⊎_elim}
use mathlib.Core.Path.{◌≡◌, refl, sym, ap, ◌∙◌}
use native.Mathlib.Decide.{dec_le, dec_lt}
use native.Mathlib.Omega.{arith}
use borrow.Author.Tests.{ltb-true, ltb-false, leb-true, eqb-true, lt-ltb, le-ltb, le-leb, lt-leb, eq-eqb, not-true}
use lib.Dec.{ltb, leb, eqb}
use lib.ListN.{length, get_or, take, replicate}
use Rattle.table.specs.declared.Block.{Block}
use Rattle.table.specs.declared.Epoch.{Epoch}
use Rattle.table.specs.declared.State.{State}
use Rattle.table.specs.Scan.{all_below}
use Rattle.table.specs.Bytes.{same, zeros}
use Rattle.table.specs.Rows.{capacity, most_nodes, name_bytes, payload_bytes, blank, rows, at, has_voter}
use Rattle.table.proofs.Laws.{pick_yes, pick_no, all_below-at, all_below_all, zeros_true}
use Rattle.pala.specs.Counts.{top_epoch, block_epoch, clock_of, nodes}
use Rattle.pala.specs.Rules.{epoch_at}
use Rattle.pala.specs.Shape.{name_ok, parent_ok, voters_ok, block_ok, no_voters, is_blank, place_ok, table_ok, clocks_ok, well_shaped}
pub use Rattle.pala.proofs.Tests.{and_l, and_r, and_both}

-- ---- tests

-- of two where the first fails the second holds
pub or_r : (a b : Bool) → (a || b) ≡ true → a ≡ false → b ≡ true
or_r true b h e = absurd (true≢false e)
or_r false b h e = h

pub or_of : (a b : Bool) → (a ≡ false → b ≡ true) → (a || b) ≡ true
or_of true b f = refl
or_of false b f = f refl

-- what is asked of the numbers from n on, and of those below it nothing
pub from_at : (k n : ℕ) (ok : ℕ → Bool) → all_below k (λ i. ltb i n || ok i) ≡ true → (i : ℕ) → n ≤ i → i < k → ok i ≡ true
from_at k n ok h i l m = or_r (ltb i n) (ok i) (all_below-at k (λ j. ltb j n || ok j) h i m) (le-ltb i n l)

pub from_all : (k n : ℕ) (ok : ℕ → Bool) → ((i : ℕ) → n ≤ i → i < k → ok i ≡ true) → all_below k (λ i. ltb i n || ok i) ≡ true
from_all k n ok h =
    all_below_all k (λ j. ltb j n || ok j) (λ i m. or_of (ltb i n) (ok i) (λ e. h i (omega (arith, ltb-false i n e)) m))

-- ---- the nodes

-- "n is 1 to 32, own number below n"
pub nodes_are : (n own : ℕ) → nodes n own ≡ true → (0 < n) × (n ≤ most_nodes) × (own < n)
unfolding nodes
nodes_are n own h =
    let a : ltb 0 n ≡ true = search (and_l, and_r) in
    let b : leb n most_nodes ≡ true = search (and_l, and_r) in
    let c : ltb own n ≡ true = search (and_l, and_r) in
    (ltb-true 0 n a, leb-true n most_nodes b, ltb-true own n c)

pub nodes_of_lem : (n own : ℕ) → (0 < n) × (n ≤ most_nodes) × (own < n) → nodes n own ≡ true
unfolding nodes
nodes_of_lem n own h =
    let a = lt-ltb 0 n h.0 in
    let b = le-leb n most_nodes h.1 in
    let c = lt-ltb own n h.2 in
    search and_both

-- ---- the clocks

pub clocks_are : (n : ℕ) (clocks : List Epoch) → clocks_ok n clocks ≡ true → (i : ℕ) → n ≤ i → i < most_nodes → clock_of clocks i ≡ 0
unfolding clocks_ok
clocks_are n clocks h i l m = eqb-true (clock_of clocks i) 0 (from_at most_nodes n (λ j. eqb (clock_of clocks j) 0) h i l m)

pub clocks_of : (n : ℕ) (clocks : List Epoch) → ((i : ℕ) → n ≤ i → i < most_nodes → clock_of clocks i ≡ 0) → clocks_ok n clocks ≡ true
unfolding clocks_ok
clocks_of n clocks h = from_all most_nodes n (λ i. eqb (clock_of clocks i) 0) (λ i l m. eq-eqb (clock_of clocks i) 0 (h i l m))

-- ---- a block in order

pub voters_of : (n : ℕ) (b : Block) → ((i : ℕ) → n ≤ i → i < most_nodes → has_voter b i ≡ false) → voters_ok n b ≡ true
unfolding voters_ok
voters_of n b h = from_all most_nodes n (λ i. not (has_voter b i)) (λ i l m. ap not (h i l m))

module _ (n : ℕ) (t : List Block) (p : ℕ) where
  record Block-tests : Type 0 where
    name : name_ok t p ≡ true
    parent : parent_ok t p ≡ true
    epoch : block_epoch (epoch_at t p) ≡ true
    voters : voters_ok n (at t p) ≡ true

  block_tests : block_ok n t p ≡ true → Block-tests
  unfolding block_ok
  block_tests h =
      record { name = search (and_l, and_r); parent = search (and_l, and_r); epoch = search (and_l, and_r); voters = search (and_l, and_r) }

  module _ (h : block_ok n t p ≡ true) where
    -- "no block name all zero"
    pub block-name : zeros (at t p).name ≡ false
    unfolding name_ok
    block-name = not-true (zeros (at t p).name) (and_l (not (zeros (at t p).name)) (all_below p (λ q. not (same (at t q).name (at t p).name))) (block_tests h).name)

    -- "and no two alike"
    pub block_apart : (q : ℕ) → q < p → same (at t q).name (at t p).name ≡ false
    unfolding name_ok
    block_apart q l =
        let below : ℕ → Bool = λ r. not (same (at t r).name (at t p).name) in
        not-true (same (at t q).name (at t p).name) (all_below-at p below (and_r (not (zeros (at t p).name)) (all_below p below) (block_tests h).name) q l)

    -- "each block's parent at a lower place"
    pub block-parent : (at t p).parent.0 < p
    unfolding parent_ok
    block-parent = ltb-true (at t p).parent.0 p (and_l (ltb (at t p).parent.0 p) (ltb (epoch_at t (at t p).parent.0) (epoch_at t p)) (block_tests h).parent)

    -- "and of a smaller epoch"
    pub block-parent-epoch : epoch_at t (at t p).parent.0 < epoch_at t p
    unfolding parent_ok
    block-parent-epoch =
        ltb-true (epoch_at t (at t p).parent.0) (epoch_at t p)
        (and_r (ltb (at t p).parent.0 p) (ltb (epoch_at t (at t p).parent.0) (epoch_at t p)) (block_tests h).parent)

    -- "each block epoch in range"
    pub block-epoch : (0 < epoch_at t p) × (epoch_at t p < top_epoch)
    unfolding block_epoch
    block-epoch =
        let e = epoch_at t p in
        (ltb-true 0 e (and_l (ltb 0 e) (ltb e top_epoch) (block_tests h).epoch), ltb-true e top_epoch (and_r (ltb 0 e) (ltb e top_epoch) (block_tests h).epoch))

    -- "voters only below n"
    pub block_voters : voters_ok n (at t p) ≡ true
    block_voters = (block_tests h).voters

    pub block_voter : (i : ℕ) → n ≤ i → i < most_nodes → has_voter (at t p) i ≡ false
    unfolding voters_ok
    block_voter i l m = not-true (has_voter (at t p) i) (from_at most_nodes n (λ j. not (has_voter (at t p) j)) (block_tests h).voters i l m)

  -- the other way
  pub block_of : zeros (at t p).name ≡ false
      → ((q : ℕ) → q < p → same (at t q).name (at t p).name ≡ false)
      → (at t p).parent.0 < p
      → epoch_at t (at t p).parent.0 < epoch_at t p
      → epoch_at t p < top_epoch
      → voters_ok n (at t p) ≡ true
      → block_ok n t p ≡ true
  unfolding block_ok name_ok parent_ok block_epoch
  block_of name apart parent up top voters =
      let named : not (zeros (at t p).name) ≡ true = ap not name in
      let alone = all_below_all p (λ r. not (same (at t r).name (at t p).name)) (λ q l. ap not (apart q l)) in
      let low = lt-ltb (at t p).parent.0 p parent in
      let earlier = lt-ltb (epoch_at t (at t p).parent.0) (epoch_at t p) up in
      let some = lt-ltb 0 (epoch_at t p) (omega arith) in
      let below = lt-ltb (epoch_at t p) top_epoch top in
      search and_both

-- ---- a row of zeros

no_voters_true : (l : List Bool) → no_voters l ≡ true → l ≡ replicate (length l) false
unfolding no_voters
no_voters_true [] h = refl
no_voters_true (true ∷ l) h = absurd (false≢true h)
no_voters_true (false ∷ l) h = ap (λ (k : List Bool). false ∷ k) (no_voters_true l h)

no_voters-replicate : (n : ℕ) → no_voters (replicate n false) ≡ true
unfolding no_voters
no_voters-replicate zero = refl
no_voters-replicate (suc n) = no_voters-replicate n

module _ (b : Block) where
  pub record Blank-tests : Type 0 where
    pub name : zeros b.name ≡ true
    pub payload : zeros b.payload ≡ true
    pub voters : no_voters b.voters ≡ true
    pub epoch : b.epoch.0 ≡ 0
    pub parent : b.parent.0 ≡ 0

  pub blank_tests : is_blank b ≡ true → Blank-tests
  unfolding is_blank
  blank_tests h =
      let y : eqb b.epoch.0 0 ≡ true = search (and_l, and_r) in
      let z : eqb b.parent.0 0 ≡ true = search (and_l, and_r) in
      record {
        name = search (and_l, and_r);
        payload = search (and_l, and_r);
        voters = search (and_l, and_r);
        epoch = eqb-true b.epoch.0 0 y;
        parent = eqb-true b.parent.0 0 z;
      }

  pub blank_of : Blank-tests → is_blank b ≡ true
  unfolding is_blank
  blank_of t =
      let y = eq-eqb b.epoch.0 0 t.epoch in
      let z = eq-eqb b.parent.0 0 t.parent in
      search and_both

  -- a row of zeros, of a row's length, is the blank one
  pub blank-is : is_blank b ≡ true → length b.name ≡ name_bytes → length b.payload ≡ payload_bytes → length b.voters ≡ most_nodes → b ≡ blank
  unfolding blank
  blank-is h ln lp lv =
      let t = blank_tests h in
      let name : b.name ≡ replicate name_bytes 0 = zeros_true b.name t.name ∙ ap (λ (k : ℕ). replicate k 0) ln in
      let payload : b.payload ≡ replicate payload_bytes 0 = zeros_true b.payload t.payload ∙ ap (λ (k : ℕ). replicate k 0) lp in
      let voters : b.voters ≡ replicate most_nodes false = no_voters_true b.voters t.voters ∙ ap (λ (k : ℕ). replicate k false) lv in
      let epoch : b.epoch.0 ≡ 0 = t.epoch in
      let parent : b.parent.0 ≡ 0 = t.parent in
      let fields : ◌≡◌ {A = Block} (record { name = b.name; payload = b.payload; voters = b.voters; epoch = record { 0 = b.epoch.0 }; parent = record { 0 = b.parent.0 } }) blank = cc in
      fields

pub blank-blank : is_blank blank ≡ true
unfolding is_blank blank zeros no_voters
blank-blank = refl

-- ---- a place of the table, and the whole of it

module _ (n held : ℕ) (t blocks : List Block) (p : ℕ) where
  pub place_held : 0 < p → p ≤ held → place_ok n held t blocks p ≡ block_ok n t p
  unfolding place_ok
  place_held l m =
      pick_yes (ltb 0 p && leb p held) (block_ok n t p) (is_blank (get_or blocks p blank)) (and_both (ltb 0 p) (leb p held) (lt-ltb 0 p l) (le-leb p held m))

  pub place_unused : (p ≡ 0) ⊎ (held < p) → place_ok n held t blocks p ≡ is_blank (get_or blocks p blank)
  unfolding place_ok
  place_unused h =
      pick_no (ltb 0 p && leb p held) (block_ok n t p) (is_blank (get_or blocks p blank))
      (⊎_elim (λ z. ap (λ (t : Bool). t && leb p held) (le-ltb 0 p (omega arith)))
      (λ m. ap (λ (t : Bool). ltb 0 p && t) (lt-leb p held m) ∙ and-false (ltb 0 p)) h)

-- the places that hold a block, and the others
pub held_or_unused : (held p : ℕ) → ((0 < p) × (p ≤ held)) ⊎ ((p ≡ 0) ⊎ (held < p))
held_or_unused held p =
    elim (dec_le p held) [ yes m ↦ elim (dec_lt 0 p) [ yes l ↦ inl (l, m) | no l ↦ inr (inl (omega arith)) ] | no m ↦ inr (inr (omega arith)) ]

-- ---- the state

-- the root is the row at place 0, whatever the blocks
root_row : (s : State) → at (rows s) 0 ≡ get_or s.blocks 0 blank
unfolding at rows
root_row s = first s.blocks
  where
    first : (l : List Block) → get_or (take (suc s.count) l) 0 (get_or (take (suc s.count) l) 0 blank) ≡ get_or l 0 blank
    first [] = refl
    first (b ∷ l) = refl

module _ (s : State) where
  record Tests : Type 0 where
    numbers : nodes s.n s.own.0 ≡ true
    count : leb s.count capacity ≡ true
    kept : leb s.kept.0 s.count ≡ true
    local : ltb 0 s.local.0 ≡ true
    clocks : clocks_ok s.n s.clocks ≡ true
    table : table_ok s ≡ true

  tests : well_shaped s ≡ true → Tests
  unfolding well_shaped
  tests h =
      record {
        numbers = search (and_l, and_r);
        count = search (and_l, and_r);
        kept = search (and_l, and_r);
        local = search (and_l, and_r);
        clocks = search (and_l, and_r);
        table = search (and_l, and_r);
      }

  module _ (h : well_shaped s ≡ true) where
    -- "n is 1 to 32, own number below n"
    pub shaped_numbers : nodes s.n s.own.0 ≡ true
    shaped_numbers = (tests h).numbers

    pub shaped-nodes : (0 < s.n) × (s.n ≤ most_nodes) × (s.own.0 < s.n)
    shaped-nodes = nodes_are s.n s.own.0 (tests h).numbers

    -- "at most 64 blocks"
    pub shaped-count : s.count ≤ capacity
    shaped-count = leb-true s.count capacity (tests h).count

    -- "the kept final place no higher than the number of blocks"
    pub shaped-kept : s.kept.0 ≤ s.count
    shaped-kept = leb-true s.kept.0 s.count (tests h).kept

    -- "local epoch at least 1"
    pub shaped_local : 0 < s.local.0
    shaped_local = ltb-true 0 s.local.0 (tests h).local

    -- "the clocks of numbers at or above n all zero"
    pub shaped_clocks : clocks_ok s.n s.clocks ≡ true
    shaped_clocks = (tests h).clocks

    pub shaped-clock : (i : ℕ) → s.n ≤ i → i < most_nodes → clock_of s.clocks i ≡ 0
    shaped-clock = clocks_are s.n s.clocks (tests h).clocks

    shaped_place : (p : ℕ) → p ≤ capacity → place_ok s.n s.count (rows s) s.blocks p ≡ true
    unfolding table_ok
    shaped_place p l = all_below-at (suc capacity) (place_ok s.n s.count (rows s) s.blocks) (tests h).table p (omega arith)

    -- each block held is in order
    pub shaped-block : (p : ℕ) → 0 < p → p ≤ s.count → block_ok s.n (rows s) p ≡ true
    shaped-block p l m = sym (place_held s.n s.count (rows s) s.blocks p l m) ∙ shaped_place p (omega (arith, shaped-count))

    -- "unused table places" and the genesis's are all zero
    pub shaped-blank : (p : ℕ) → (p ≡ 0) ⊎ (s.count < p) → p ≤ capacity → is_blank (get_or s.blocks p blank) ≡ true
    shaped-blank p u l = sym (place_unused s.n s.count (rows s) s.blocks p u) ∙ shaped_place p l

    -- the genesis's row is all zero
    pub shaped_root : is_blank (at (rows s) 0) ≡ true
    shaped_root = ap is_blank (root_row s) ∙ shaped-blank 0 (inl refl) zero-le

    -- no row's epoch, the genesis's included, is as high as the highest local epoch
    pub shaped-epoch : (p : ℕ) → p ≤ s.count → epoch_at (rows s) p < top_epoch
    unfolding epoch_at
    shaped-epoch p l =
        elim (dec_lt 0 p) [
          | yes m ↦ (block-epoch s.n (rows s) p (shaped-block p m l)).1
          | no m ↦
              let root : (at (rows s) p).epoch.0 ≡ 0 = ap (λ (q : ℕ). (at (rows s) q).epoch.0) (omega arith) ∙ (blank_tests (at (rows s) 0) shaped_root).epoch in
              omega arith
        ]

  -- the other way
  pub shaped_of : (0 < s.n) × (s.n ≤ most_nodes) × (s.own.0 < s.n)
      → s.count ≤ capacity
      → s.kept.0 ≤ s.count
      → 0 < s.local.0
      → ((i : ℕ) → s.n ≤ i → i < most_nodes → clock_of s.clocks i ≡ 0)
      → ((p : ℕ) → 0 < p → p ≤ s.count → block_ok s.n (rows s) p ≡ true)
      → ((p : ℕ) → (p ≡ 0) ⊎ (s.count < p) → p ≤ capacity → is_blank (get_or s.blocks p blank) ≡ true)
      → well_shaped s ≡ true
  unfolding well_shaped table_ok
  shaped_of numbers count kept local clocks block unused =
      let place = place_ok s.n s.count (rows s) s.blocks in
      let at_place : (p : ℕ) → p < suc capacity → place p ≡ true =
      λ p l. ⊎_elim (λ z. place_held s.n s.count (rows s) s.blocks p z.0 z.1 ∙ block p z.0 z.1)
      (λ z. place_unused s.n s.count (rows s) s.blocks p z ∙ unused p z (omega arith)) (held_or_unused s.count p) in
      let a = nodes_of_lem s.n s.own.0 numbers in
      let b = le-leb s.count capacity count in
      let c = le-leb s.kept.0 s.count kept in
      let d = lt-ltb 0 s.local.0 local in
      let e = clocks_of s.n s.clocks clocks in
      let f = all_below_all (suc capacity) place at_place in
      search and_both
