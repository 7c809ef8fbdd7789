-- What the in-between forms have to do with the definitions of the shape, and the loops with their scans. Assumes nothing.
use Prim.Native.Nat.{ℕ, zero, suc, ◌+◌, ◌-◌, ◌%◌, ◌≤◌, ◌<◌, zero-le}
use mathlib.Core.Bool.{Bool, true, false, not, ◌&&◌, ◌||◌, and_assoc, and-true, or-true, true≢false}
use mathlib.Core.List.{List, [], ◌∷◌, map}
use mathlib.Core.Logic.{◌⊎◌, inl, inr, ⊎_elim}
use mathlib.Core.Path.{◌≡◌, refl, sym, ap, ◌∙◌}
use native.Mathlib.Decide.{ℕ_discrete}
use native.Mathlib.Numerals.{add-one}
use native.Mathlib.Omega.{arith}
use borrow.Author.Count.{below_more}
use borrow.Author.Tests.{ltb-true, leb-true, lt-ltb, le-ltb, le-leb, eq-eqb, ne_eqb, not-true}
use Rattle.std.proofs.lemmas.Bool.Decides.{nat_tests}
use lib.Dec.{ltb, leb, eqb}
use Rattle.std.proofs.lemmas.List.FromFn.{get_or-range_with_len, length-range_with_len}
use Rattle.std.proofs.lemmas.List.Folds.{list_any_at, list_any-append}
use Rattle.std.specs.List.{list_all, list_any, range_with_len}
use Rattle.std.proofs.lemmas.List.Recursion.{and_at, and_from_places}
use lib.ListN.{length, drop, take, length-map, get_or, set, get_or-map, length-drop}
use lib.Seq.{take-add, get_or-drop, get_or-take, length-take-le, get_or-set_other, get_or-set_same}
use Rattle.table.specs.declared.Block.{Block}
use Rattle.table.specs.declared.State.{State}
use Rattle.std.proofs.Common.{Some, None}
use Rattle.table.specs.Scan.{all_below, pick}
use Rattle.table.specs.Bytes.{same, zeros}
use Rattle.table.specs.Rows.{capacity, most_nodes, blank, rows, at, has_voter}
use Rattle.table.proofs.Laws.{fails, not_both, same_test, all_below-at, all_below_all, same_true, at_rows, all_below_same}
use Rattle.pala.specs.Counts.{top_epoch, block_epoch, nodes}
use Rattle.pala.specs.Rules.{epoch_at}
use Rattle.pala.specs.Shape.{voters_ok, block_ok, no_voters, is_blank, clocks_ok, well_shaped}
use Rattle.pala.proofs.Shapes
use Rattle.shape.specs.Parts.{in_order, row_ok, held_ok, unused_ok, apart, names_apart, key}

-- ---- scans

-- the first one taken by itself
all_below_front : (k : ℕ) (ok : ℕ → Bool) → all_below (suc k) ok ≡ (ok 0 && all_below k (λ i. ok (suc i)))
unfolding all_below
all_below_front zero ok = sym (and-true (ok 0))
all_below_front (suc k) ok = ap (λ (t : Bool). t && ok (suc k)) (all_below_front k ok) ∙ and_assoc (ok 0) (all_below k (λ i. ok (suc i))) (ok (suc k))

-- scans of the numbers in turn, from k on and from 0 on, and those by tests that answer alike
range_from : (ok : ℕ → Bool) (k p : ℕ) → list_all ok (range_with_len k (p - k)) ≡ all_below p (λ i. ltb i k || ok i)
range_from ok k p =
    let numbers = range_with_len k (p - k) in
    let number : (i : ℕ) → i < p - k → get_or numbers i 0 ≡ k + i = λ i l. get_or-range_with_len k (p - k) i 0 l in
    same_test (list_all ok numbers) (all_below p (λ i. ltb i k || ok i))
    (λ h.
    Shapes.from_all p k ok
    (λ i l m. ap ok (sym (number (i - k) (omega arith) ∙ omega arith)) ∙ and_at (list_all ok) ok refl (λ _ _. refl) numbers (i - k) 0 (omega (arith, length-range_with_len k (p - k))) h))
    (λ h.
    and_from_places (list_all ok) ok refl (λ _ _. refl) numbers 0
    (λ i l. let m : i < p - k = omega (arith, length-range_with_len k (p - k)) in ap ok (number i m) ∙ Shapes.from_at p k ok h (k + i) (omega arith) (omega arith)))

range_below : (ok : ℕ → Bool) (p : ℕ) → list_all ok (range_with_len 0 p) ≡ all_below p ok
range_below ok p =
    ap (λ (n : ℕ). list_all ok (range_with_len 0 n)) (omega arith)
    ∙ range_from ok 0 p
    ∙ all_below_same p (λ i. ltb i 0 || ok i) ok (λ i l. ap (λ (t : Bool). t || ok i) (le-ltb i 0 zero-le))

no_voters_below : (l : List Bool) → no_voters l ≡ all_below (length l) (λ i. not (get_or l i false))
unfolding no_voters all_below
no_voters_below [] = refl
no_voters_below (x ∷ l) = ap (λ (t : Bool). not x && t) (no_voters_below l) ∙ sym (all_below_front (length l) (λ i. not (get_or (x ∷ l) i false)))

-- ---- rows

-- no voter from number 0 on is no voter at all
pub voters_none : (b : Block) → length b.voters ≡ most_nodes → voters_ok 0 b ≡ no_voters b.voters
unfolding voters_ok has_voter
voters_none b e =
    let ok : ℕ → Bool = λ i. not (get_or b.voters i false) in
    let whole : all_below most_nodes ok ≡ no_voters b.voters = ap (λ (k : ℕ). all_below k ok) (sym e) ∙ sym (no_voters_below b.voters) in
    same_test (all_below most_nodes (λ i. ltb i 0 || ok i)) (no_voters b.voters)
    (λ h. sym whole ∙ all_below_all most_nodes ok (λ i m. Shapes.from_at most_nodes 0 ok h i zero-le m))
    (λ h. Shapes.from_all most_nodes 0 ok (λ i l m. all_below-at most_nodes ok (whole ∙ h) i m))

module _ (n up : ℕ) (b : Block) where
  pub record Order-tests : Type 0 where
    pub name : zeros b.name ≡ false
    pub parent : up < b.epoch.0
    pub epoch : b.epoch.0 < top_epoch
    pub voters : voters_ok n b ≡ true

  pub order_tests : in_order n up b ≡ true → Order-tests
  unfolding in_order block_epoch
  order_tests h =
      let e = b.epoch.0 in
      let v = not (zeros b.name) in
      let w = ltb up e in
      let x = ltb 0 e && ltb e top_epoch in
      let y = voters_ok n b in
      let vwx = Shapes.and_l (v && w && x) y h in
      let vw = Shapes.and_l (v && w) x vwx in
      record {
        name = not-true (zeros b.name) (Shapes.and_l v w vw);
        parent = ltb-true up e (Shapes.and_r v w vw);
        epoch = ltb-true e top_epoch (Shapes.and_r (ltb 0 e) (ltb e top_epoch) (Shapes.and_r (v && w) x vwx));
        voters = Shapes.and_r (v && w && x) y h;
      }

  pub order_of : Order-tests → in_order n up b ≡ true
  unfolding in_order block_epoch
  order_of t =
      let e = b.epoch.0 in
      let v = not (zeros b.name) in
      let w = ltb up e in
      let x = ltb 0 e && ltb e top_epoch in
      let y = voters_ok n b in
      Shapes.and_both (v && w && x) y
      (Shapes.and_both (v && w) x (Shapes.and_both v w (ap not t.name) (lt-ltb up e t.parent))
      (Shapes.and_both (ltb 0 e) (ltb e top_epoch) (lt-ltb 0 e (omega (arith, t.parent))) (lt-ltb e top_epoch t.epoch)))
      t.voters

-- of a block whose parent is lower its row and its parent's epoch tell
module _ (n : ℕ) (t : List Block) (p : ℕ) (b : Block) (is : b ≡ at t p) where
  pub row_order : (e : ℕ) → e ≡ epoch_at t b.parent.0 → b.parent.0 < p → row_ok n t p ≡ in_order n e b
  unfolding row_ok
  row_order e up l =
      let yes : ltb b.parent.0 p ≡ true = lt-ltb b.parent.0 p l in
      ap (λ (x : Block). ltb x.parent.0 p && in_order n (epoch_at t x.parent.0) x) (sym is)
      ∙ ap (λ (x : Bool). x && in_order n (epoch_at t b.parent.0) b) yes
      ∙ ap (λ (x : ℕ). in_order n x b) (sym up)

pub row_tests : (n : ℕ) (t : List Block) (p : ℕ) → row_ok n t p ≡ true → ((at t p).parent.0 < p) × Order-tests n (epoch_at t (at t p).parent.0) (at t p)
unfolding row_ok
row_tests n t p h =
    let b = at t p in
    let e = epoch_at t b.parent.0 in
    (ltb-true b.parent.0 p (Shapes.and_l (ltb b.parent.0 p) (in_order n e b) h), order_tests n e b (Shapes.and_r (ltb b.parent.0 p) (in_order n e b) h))

positive : (p : ℕ) → eqb p 0 ≡ false → 0 < p
positive zero e = absurd (true≢false (sym (eq-eqb 0 0 refl) ∙ e))
positive (suc p) e = omega arith

module _ (s : State) where
  pub held_at : held_ok s ≡ true → (p : ℕ) → 0 < p → p ≤ s.count → row_ok s.n (rows s) p ≡ true
  unfolding held_ok
  held_at h p l m =
      Shapes.or_r (eqb p 0) (row_ok s.n (rows s) p) (all_below-at (suc s.count) (λ i. eqb i 0 || row_ok s.n (rows s) i) h p (omega arith))
      (ne_eqb p 0 (λ e. omega arith))

  pub held_all : ((p : ℕ) → 0 < p → p ≤ s.count → row_ok s.n (rows s) p ≡ true) → held_ok s ≡ true
  unfolding held_ok
  held_all h =
      all_below_all (suc s.count) (λ i. eqb i 0 || row_ok s.n (rows s) i)
      (λ p m. Shapes.or_of (eqb p 0) (row_ok s.n (rows s) p) (λ e. h p (omega (arith, positive p e)) (omega arith)))

  pub held-is : list_all (λ p. eqb p 0 || row_ok s.n (rows s) p) (range_with_len 0 (s.count + 1)) ≡ held_ok s
  unfolding held_ok
  held-is =
      let ok : ℕ → Bool = λ p. eqb p 0 || row_ok s.n (rows s) p in
      range_below ok (s.count + 1) ∙ ap (λ (k : ℕ). all_below k ok) (add-one s.count)

  pub unused_at : unused_ok s ≡ true → (p : ℕ) → (p ≡ 0) ⊎ (s.count < p) → p ≤ capacity → is_blank (get_or s.blocks p blank) ≡ true
  unfolding unused_ok
  unused_at h p u l =
      Shapes.or_r (ltb 0 p && leb p s.count) (is_blank (get_or s.blocks p blank))
      (all_below-at (suc capacity) (λ i. ltb 0 i && leb i s.count || is_blank (get_or s.blocks i blank)) h p (omega arith))
      (fails (ltb 0 p && leb p s.count) (λ y. not-held p u (ltb-true 0 p (Shapes.and_l (ltb 0 p) (leb p s.count) y)) (leb-true p s.count (Shapes.and_r (ltb 0 p) (leb p s.count) y))))
    where
      not-held : (p : ℕ) → (p ≡ 0) ⊎ (s.count < p) → 0 < p → p ≤ s.count → ⊥
      not-held p (inl z) l m = omega arith
      not-held p (inr z) l m = omega arith

  pub unused_all : ((p : ℕ) → (p ≡ 0) ⊎ (s.count < p) → p ≤ capacity → is_blank (get_or s.blocks p blank) ≡ true) → unused_ok s ≡ true
  unfolding unused_ok
  unused_all h =
      all_below_all (suc capacity) (λ i. ltb 0 i && leb i s.count || is_blank (get_or s.blocks i blank))
      (λ p m. Shapes.or_of (ltb 0 p && leb p s.count) (is_blank (get_or s.blocks p blank))
      (λ e. ⊎_elim (λ z. absurd (not_both (Shapes.and_both (ltb 0 p) (leb p s.count) (lt-ltb 0 p z.0) (le-leb p s.count z.1)) e)) (λ z. h p z (omega arith)) (Shapes.held_or_unused s.count p)))

  pub unused_fails : (p : ℕ) → (p ≡ 0) ⊎ (s.count < p) → p ≤ capacity → is_blank (get_or s.blocks p blank) ≡ false → unused_ok s ≡ false
  unused_fails p u l f = fails (unused_ok s) (λ h. not_both (unused_at h p u l) f)

  -- the places above the number of blocks, as a part of the array
  pub unused_rest : length s.blocks ≡ suc capacity → is_blank (get_or s.blocks 0 blank) ≡ true → list_all is_blank (drop (s.count + 1) s.blocks) ≡ unused_ok s
  unused_rest held root =
      let rest = drop (s.count + 1) s.blocks in
      same_test (list_all is_blank rest) (unused_ok s)
      (λ h.
      unused_all
      (λ p u l.
      ⊎_elim (λ z. ap (λ (k : ℕ). is_blank (get_or s.blocks k blank)) z ∙ root)
      (λ z.
      let e : s.count + 1 + (p - (s.count + 1)) ≡ p = omega arith in
      ap (λ (k : ℕ). is_blank (get_or s.blocks k blank)) (sym e)
      ∙ ap is_blank (sym (get_or-drop (s.count + 1) s.blocks (p - (s.count + 1)) blank))
      ∙ and_at (list_all is_blank) is_blank refl (λ _ _. refl) rest (p - (s.count + 1)) blank (omega (arith, length-drop (s.count + 1) s.blocks)) h) u))
      (λ h.
      and_from_places (list_all is_blank) is_blank refl (λ _ _. refl) rest blank
      (λ i m. ap is_blank (get_or-drop (s.count + 1) s.blocks i blank) ∙ unused_at h (s.count + 1 + i) (inr (omega arith)) (omega (arith, length-drop (s.count + 1) s.blocks))))

-- ---- names

-- none of the first n passes, and none of the m after them
pub none_more : (ok : ℕ → Bool) (l : List ℕ) (n m k : ℕ) → n + m ≡ k → list_any ok (take n l) ≡ false → list_any ok (take m (drop n l)) ≡ false → list_any ok (take k l) ≡ false
none_more ok l n m k e before here =
    ap (λ (x : ℕ). list_any ok (take x l)) (sym e)
    ∙ ap (list_any ok) (take-add n m l)
    ∙ list_any-append ok (take n l) (take m (drop n l))
    ∙ ap (λ (t : Bool). t || list_any ok (take m (drop n l))) before
    ∙ here

-- names that have not one key are not alike
keys_differ : (a b : List ℕ) → (key a ≡ key b → ⊥) → same a b ≡ false
keys_differ a b f = fails (same a b) (λ h. f (ap key (same_true a b h)))

pub key-at : (s : State) (keys : List ℕ) → keys ≡ map (λ b. key b.name) s.blocks → (i : ℕ) → get_or keys i 0 ≡ key (get_or s.blocks i blank).name
unfolding key blank
key-at s keys e i = ap (λ (l : List ℕ). get_or l i 0) e ∙ get_or-map (λ b. key b.name) s.blocks i blank

module _ (s : State) where
  pub names_at : names_apart s ≡ true → (p q : ℕ) → p ≤ s.count → q < p → same (at (rows s) q).name (at (rows s) p).name ≡ false
  unfolding names_apart apart
  names_at h p q l m =
      let below : ℕ → Bool = λ r. not (same (at (rows s) r).name (at (rows s) p).name) in
      not-true (same (at (rows s) q).name (at (rows s) p).name) (all_below-at p below (all_below-at (suc s.count) (λ i. apart (rows s) i) h p (omega arith)) q m)

  pub names_all : ((p q : ℕ) → p ≤ s.count → q < p → same (at (rows s) q).name (at (rows s) p).name ≡ false) → names_apart s ≡ true
  unfolding names_apart apart
  names_all h =
      all_below_all (suc s.count) (λ i. apart (rows s) i)
      (λ p l. all_below_all p (λ r. not (same (at (rows s) r).name (at (rows s) p).name)) (λ q m. ap not (h p q (omega arith) m)))

  pub names_fail : (p : ℕ) → p ≤ s.count → apart (rows s) p ≡ false → names_apart s ≡ false
  unfolding names_apart
  names_fail p l f = fails (names_apart s) (λ h. not_both (all_below-at (suc s.count) (λ i. apart (rows s) i) h p (omega arith)) f)

  pub names_each : ((p : ℕ) → p ≤ s.count → apart (rows s) p ≡ true) → names_apart s ≡ true
  unfolding names_apart
  names_each h = all_below_all (suc s.count) (λ i. apart (rows s) i) (λ p l. h p (omega arith))

-- the names that stand in the blocks are those of the rows
names_of_rows : (s : State) (i j : ℕ) (d e : Block) → i ≤ s.count → j ≤ s.count → s.count < length s.blocks
    → same (get_or s.blocks i d).name (get_or s.blocks j e).name ≡ same (at (rows s) i).name (at (rows s) j).name
names_of_rows s i j d e l m k =
    ap (λ (b : Block). same b.name (get_or s.blocks j e).name) (sym (at_rows s i d l (omega arith)))
    ∙ ap (λ (b : Block). same (at (rows s) i).name b.name) (sym (at_rows s j e m (omega arith)))

-- the keys tell names apart
module _ (s : State) (keys : List ℕ) (column : keys ≡ map (λ b. key b.name) s.blocks) (p : ℕ) (l : p ≤ s.count) (m : s.count < length s.blocks) where
  differ : (i : ℕ) → i ≤ p → (get_or keys i 0 ≡ get_or keys p 0 → ⊥) → same (at (rows s) i).name (at (rows s) p).name ≡ false
  differ i k f =
      let named : (j : ℕ) → j ≤ p → get_or keys j 0 ≡ key (at (rows s) j).name =
      λ j n. key-at s keys column j ∙ ap (λ (b : Block). key b.name) (sym (at_rows s j blank (omega arith) (omega arith))) in
      keys_differ (at (rows s) i).name (at (rows s) p).name (λ e. f (named i k ∙ e ∙ sym (named p (omega arith))))

  -- of the first k, which have not p's key, none has its name; of the others the keys tell, or the names
  asked : (k : ℕ) → k ≤ p → list_any (λ x. eqb x (get_or keys p 0)) (take k keys) ≡ false → (i : ℕ) → i < p
      → (ltb i k || (not (eqb (get_or keys i 0) (get_or keys p 0)) || not (same (at (rows s) i).name (at (rows s) p).name))) ≡ not (same (at (rows s) i).name (at (rows s) p).name)
  asked k n none i o =
      let a = get_or keys i 0 in
      let b = get_or keys p 0 in
      let x = not (same (at (rows s) i).name (at (rows s) p).name) in
      let passed : i < k → a ≡ b → ⊥ =
      λ h e. not_both (list_any_at (λ y. eqb y b) (take k keys) i 0 (omega (arith, length-take-le k keys (omega (arith, long)))) (ap (λ y. eqb y b) (get_or-take k keys i 0 h) ∙ eq-eqb a b e)) none in
      elim (ℕ_discrete a b) [
        | yes e ↦ ap (λ (t : Bool). t || (not (eqb a b) || x)) (fails (ltb i k) (λ h. passed (ltb-true i k h) e)) ∙ ap (λ (t : Bool). not t || x) (eq-eqb a b e)
        | no f ↦ ap (λ (t : Bool). ltb i k || (not t || x)) (ne_eqb a b f) ∙ or-true (ltb i k) ∙ sym (ap not (differ i (omega arith) f))
      ]
    where
      long : length keys ≡ length s.blocks
      long = ap length column ∙ length-map s.blocks (λ b. key b.name)

  -- where none below p has its key, none has its name
  pub apart-new : list_any (λ k. eqb k (get_or keys p 0)) (take p keys) ≡ false → apart (rows s) p ≡ true
  unfolding apart
  apart-new none =
      all_below_all p (λ q. not (same (at (rows s) q).name (at (rows s) p).name))
      (λ i o. let x = not (eqb (get_or keys i 0) (get_or keys p 0)) || not (same (at (rows s) i).name (at (rows s) p).name) in
      sym (asked p (omega arith) none i o) ∙ ap (λ (t : Bool). t || x) (lt-ltb i p o))

  -- the names alone tell
  pub apart-is : (d : Block) → list_all (λ q. not (same (get_or s.blocks q d).name (get_or s.blocks p d).name)) (range_with_len 0 p) ≡ apart (rows s) p
  unfolding apart
  apart-is d =
      let ok : ℕ → Bool = λ q. not (same (get_or s.blocks q d).name (get_or s.blocks p d).name) in
      range_below ok p ∙ all_below_same p ok (λ q. not (same (at (rows s) q).name (at (rows s) p).name)) (λ i k. ap not (names_of_rows s i p d d (omega arith) l m))

  -- .. and so they do where keys are asked before them, and the first k not at all
  pub apart-asked : (d : Block) (k : ℕ) → k ≤ p → list_any (λ x. eqb x (get_or keys p 0)) (take k keys) ≡ false
      → list_all (λ q. not (eqb (get_or keys q 0) (get_or keys p 0)) || not (same (get_or s.blocks q d).name (get_or s.blocks p d).name)) (range_with_len k (p - k)) ≡ apart (rows s) p
  unfolding apart
  apart-asked d k n none =
      let ok : ℕ → Bool = λ q. not (eqb (get_or keys q 0) (get_or keys p 0)) || not (same (get_or s.blocks q d).name (get_or s.blocks p d).name) in
      range_from ok k p
      ∙ all_below_same p (λ i. ltb i k || ok i) (λ q. not (same (at (rows s) q).name (at (rows s) p).name))
      (λ i o. ap (λ (t : Bool). ltb i k || (not (eqb (get_or keys i 0) (get_or keys p 0)) || not t)) (names_of_rows s i p d d (omega arith) l m) ∙ asked k n none i o)

-- a mark is set for each key seen
abbrev pub marks : ℕ
marks = 251

abbrev pub Marked : List Bool → List ℕ → ℕ → Type 0
Marked seen keys p = (i : ℕ) → i < p → get_or seen (get_or keys i 0 % marks) false ≡ true

-- a key with no mark is none of those seen
unmarked : (seen : List Bool) (keys : List ℕ) (p : ℕ) → Marked seen keys p → get_or seen (get_or keys p 0 % marks) false ≡ false → (i : ℕ) → i < p → get_or keys i 0 ≡ get_or keys p 0 → ⊥
unmarked seen keys p all none i l e = not_both (all i l) (ap (λ (k : ℕ). get_or seen (k % marks) false) e ∙ none)

-- so a row whose key has no mark has no row of its name below it
pub apart_new : (s : State) (keys : List ℕ) → keys ≡ map (λ b. key b.name) s.blocks → (p : ℕ) → p ≤ s.count → s.count < length s.blocks
    → (seen : List Bool) → Marked seen keys p → get_or seen (get_or keys p 0 % marks) false ≡ false → apart (rows s) p ≡ true
unfolding apart
apart_new s keys column p l m seen all none =
    all_below_all p (λ q. not (same (at (rows s) q).name (at (rows s) p).name))
    (λ i k. ap not (differ s keys column p l m i (omega arith) (unmarked seen keys p all none i k)))

-- a mark that is set stays
set_stays : (seen : List Bool) (k j : ℕ) → k < length seen → get_or seen j false ≡ true → get_or (set seen k true) j false ≡ true
set_stays seen k j l h = elim (ℕ_discrete j k) [ yes e ↦ ap (λ (x : ℕ). get_or (set seen k true) x false) e ∙ get_or-set_same seen k true false l | no e ↦ get_or-set_other seen k j true false e ∙ h ]

pub marked : (seen : List Bool) (keys : List ℕ) (p : ℕ) → length seen ≡ marks → Marked seen keys p → Marked (set seen (get_or keys p 0 % marks) true) keys (p + 1)
marked seen keys p e all =
    let k = get_or keys p 0 % marks in
    let l : k < length seen = omega arith in
    below_more _ p (λ i m. set_stays seen k (get_or keys i 0 % marks) l (all i m)) (get_or-set_same seen k true false l)

-- ---- the whole

module _ (s : State) (h : well_shaped s ≡ true) where
  pub shaped_unused : unused_ok s ≡ true
  shaped_unused = unused_all s (Shapes.shaped-blank s h)

  pub shaped-held : held_ok s ≡ true
  unfolding epoch_at
  shaped-held =
      held_all s
      (λ p l m.
      let t = rows s in
      let ok = Shapes.shaped-block s h p l m in
      row_order s.n t p (at t p) refl (epoch_at t (at t p).parent.0) refl (Shapes.block-parent s.n t p ok)
      ∙ order_of s.n (epoch_at t (at t p).parent.0) (at t p)
      (record {
        name = Shapes.block-name s.n t p ok;
        parent = Shapes.block-parent-epoch s.n t p ok;
        epoch = (Shapes.block-epoch s.n t p ok).1;
        voters = Shapes.block_voters s.n t p ok;
      }))

  pub shaped_names : names_apart s ≡ true
  shaped_names = names_all s (λ p q l m. Shapes.block_apart s.n (rows s) p (Shapes.shaped-block s h p (omega arith) l) q m)

-- a state of which all but the names has been seen is well shaped where the names are apart
pub shaped_by_names : (s : State)
    → nodes s.n s.own.0 ≡ true
    → s.count ≤ capacity
    → s.kept.0 ≤ s.count
    → 0 < s.local.0
    → clocks_ok s.n s.clocks ≡ true
    → unused_ok s ≡ true
    → held_ok s ≡ true
    → names_apart s ≡ well_shaped s
unfolding epoch_at
shaped_by_names s numbers count kept local clocks unused held =
    let t = rows s in
    same_test (names_apart s) (well_shaped s)
    (λ names.
    Shapes.shaped_of s (Shapes.nodes_are s.n s.own.0 numbers) count kept local (Shapes.clocks_are s.n s.clocks clocks)
    (λ p l m. held-block p l m (held_at s held p l m) (names_at s names p)) (unused_at s unused))
    (λ h. shaped_names s h)
  where
    held-block : (p : ℕ)
        → 0 < p
        → p ≤ s.count
        → row_ok s.n (rows s) p ≡ true
        → ((q : ℕ) → p ≤ s.count → q < p → same (at (rows s) q).name (at (rows s) p).name ≡ false)
        → block_ok s.n (rows s) p ≡ true
    held-block p l m row names =
        let t = rows s in
        let b = at t p in
        let tests = row_tests s.n t p row in
        Shapes.block_of s.n t p tests.1.name (λ q k. names q m k) tests.0 tests.1.parent tests.1.epoch tests.1.voters

-- the tests in the order of the code
pub shaped_parts : (s : State)
    → well_shaped s ≡ (nodes s.n s.own.0 && leb s.count capacity && leb s.kept.0 s.count && ltb 0 s.local.0 && clocks_ok s.n s.clocks && unused_ok s && held_ok s && names_apart s)
shaped_parts s =
    let all = nodes s.n s.own.0 && leb s.count capacity && leb s.kept.0 s.count && ltb 0 s.local.0 && clocks_ok s.n s.clocks && unused_ok s && held_ok s && names_apart s in
    same_test (well_shaped s) all
    (λ h.
    let numbers = Shapes.shaped_numbers s h in
    let count = Shapes.shaped-count s h in
    let kept = Shapes.shaped-kept s h in
    let local = Shapes.shaped_local s h in
    let clocks = Shapes.shaped_clocks s h in
    let unused = shaped_unused s h in
    let held = shaped-held s h in
    let names = shaped_names s h in
    grind (arith, nat_tests))
    (λ h.
    let count : s.count ≤ capacity = grind (arith, nat_tests) in
    let kept : s.kept.0 ≤ s.count = grind (arith, nat_tests) in
    let local : 0 < s.local.0 = grind (arith, nat_tests) in
    let by = shaped_by_names s (grind (arith, nat_tests)) count kept local (grind (arith, nat_tests)) (grind (arith, nat_tests)) (grind (arith, nat_tests)) in
    sym by ∙ grind (arith, nat_tests))

-- ---- what `Shaped::new` answers tells of the state

some_of : {A : Type 0} (b : Bool) (x y : A) → Some x ≡ pick b (Some y) None → (b ≡ true) × (x ≡ y)
unfolding pick
some_of true x y e = (refl, cc)
some_of false x y e = cc

none_of : {A : Type 0} (b : Bool) (y : A) → None ≡ pick b (Some y) None → b ≡ false
unfolding pick
none_of true y e = cc
none_of false y e = refl

pub shaped_some : (s t : State) → Some t ≡ pick (well_shaped s) (Some s) None → (well_shaped s ≡ true) × (t ≡ s)
shaped_some s t = some_of (well_shaped s) t s

pub shaped_none : (s : State) → None ≡ pick (well_shaped s) (Some s) None → well_shaped s ≡ false
shaped_none s = none_of (well_shaped s) s
