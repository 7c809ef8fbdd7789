-- Two final lists side by side: how many names agree, the relation, the tail. Assumes nothing.
use Rattle.std.proofs.lemmas.Bool.{true_from_ne_false}
use Rattle.std.proofs.Common.{Option, Some, None}
use Prim.Native.Nat.{ℕ, zero, suc, ◌+◌, ◌-◌, ◌*◌, ◌/◌, ◌%◌, ◌≤◌, ◌<◌, min, zero-le}
use mathlib.Core.Bool.{true, false, not, ◌&&◌, and-eq-true_iff}
use mathlib.Core.List.{List, [], ◌++◌, append-nil}
use mathlib.Core.Logic.{◌⊎◌, inl, inr}
use mathlib.Core.Path.{◌≡◌, refl, sym, ap, subst, ◌∙◌}
use native.Mathlib.Decide.{dec_lt}
use native.Mathlib.Omega.{arith}
use borrow.Author.Tests.{ltb-true, ltb-false, lt-ltb, le-ltb, eq-eqb, ne_eqb, eqb-true, eqb-false, not-false}
use lib.Dec.{eqb, ltb}
use lib.ListN.{length, take, drop, length-drop, take-append-drop}
use lib.Seq.{length-take-le, take-add, take_all, take-length, take-append-le, drop-append-le}
use Rattle.table.specs.Scan.{pick}
use Rattle.table.specs.Bytes.{same}
use Rattle.table.specs.Rows.{name_bytes}
use Rattle.table.specs.declared.Relation.{Relation}
use Rattle.table.proofs.Laws.{pick_yes, pick_no, pick-case, not_both, lowest-is, lowest_none, lowest-le, lowest_below, same_refl, same_true}
use Rattle.pala.specs.Lists.{name_at, agreeing, broken, relation, relation_number, relation_index, tail, tail_of}
use Rattle.pala.specs.Safety.{Begins}
use Rattle.lists.specs.Tails.{past, tail_start}

-- ---- a name in a list of names

abbrev pub name_from : List ℕ → ℕ → List ℕ
name_from a from = take name_bytes (drop from a)

pub name-length : (a : List ℕ) (k : ℕ) → name_bytes * k + name_bytes ≤ length a → length (name_at a k) ≡ name_bytes
unfolding name_at
name-length a k l = length-take-le name_bytes (drop (name_bytes * k) a) (omega (arith, length-drop (name_bytes * k) a))

-- ---- how many names agree

-- the whole names that both lists have
abbrev pub in_both : List ℕ → List ℕ → ℕ
in_both a b = min (length a / name_bytes) (length b / name_bytes)

pub agreeing-is : (a b : List ℕ) (k : ℕ) → k < in_both a b → same (name_from a (name_bytes * k)) (name_from b (name_bytes * k)) ≡ false → ((i : ℕ) → i < k → same (name_from a (name_bytes * i)) (name_from b (name_bytes * i)) ≡ true) → agreeing a b ≡ k
unfolding agreeing name_at
agreeing-is a b k l differ agree =
    lowest-is (in_both a b) (λ i. not (same (name_at a i) (name_at b i))) k l (ap not differ) (λ i m. ap not (agree i m))

pub agreeing_all : (a b : List ℕ) → ((i : ℕ) → i < in_both a b → same (name_from a (name_bytes * i)) (name_from b (name_bytes * i)) ≡ true) → agreeing a b ≡ in_both a b
unfolding agreeing name_at
agreeing_all a b agree =
    lowest_none (in_both a b) (λ i. not (same (name_at a i) (name_at b i))) (λ i m. ap not (agree i m))

pub agreeing-le : (a b : List ℕ) → agreeing a b ≤ in_both a b
unfolding agreeing
agreeing-le a b = lowest-le (in_both a b) (λ i. not (same (name_at a i) (name_at b i)))

-- what a search for the first name that differs finds: one that does ..
pub fork_at : (a b : List ℕ) (k : ℕ) → k < in_both a b → same (name_at a k) (name_at b k) ≡ false → ((i : ℕ) → i < k → same (name_at a i) (name_at b i) ≡ true) → Some k ≡ pick (ltb (agreeing a b) (in_both a b)) (Some (agreeing a b)) None
unfolding name_at
fork_at a b k l differ agree =
    let here : agreeing a b ≡ k = agreeing-is a b k l differ agree in
    ap (λ (i : ℕ). Some i) (sym here) ∙ sym (pick_yes (ltb (agreeing a b) (in_both a b)) (Some (agreeing a b)) None (lt-ltb (agreeing a b) (in_both a b) (omega arith)))

-- .. or none
pub no_fork : (a b : List ℕ) → ((i : ℕ) → i < in_both a b → same (name_at a i) (name_at b i) ≡ true) → None ≡ pick (ltb (agreeing a b) (in_both a b)) (Some (agreeing a b)) None
unfolding name_at
no_fork a b agree =
    let all : agreeing a b ≡ in_both a b = agreeing_all a b agree in
    sym (pick_no (ltb (agreeing a b) (in_both a b)) (Some (agreeing a b)) None (le-ltb (agreeing a b) (in_both a b) (omega arith)))

-- and what it tells
pub fork_some : (g n k : ℕ) → Some k ≡ pick (ltb g n) (Some g) None → (g ≡ k) × (k < n)
fork_some g n k h = pick-case (λ (r : Option ℕ). Some k ≡ r → (g ≡ k) × (k < n)) (ltb g n) (Some g) None (λ l e. let s : g ≡ k = cc in (s, omega (arith, ltb-true g n l))) (λ l e. cc) h

pub fork_none : (g n : ℕ) → None ≡ pick (ltb g n) (Some g) None → n ≤ g
fork_none g n h = pick-case (λ (r : Option ℕ). None ≡ r → n ≤ g) (ltb g n) (Some g) None (λ l e. cc) (λ l e. ltb-false g n l) h

-- the names that agree are the same bytes
agreeing_names : (a b : List ℕ) (i : ℕ) → i < agreeing a b → name_from a (name_bytes * i) ≡ name_from b (name_bytes * i)
unfolding agreeing name_at
agreeing_names a b i l =
    same_true (name_at a i) (name_at b i) (not-false (same (name_at a i) (name_at b i)) (lowest_below (in_both a b) (λ k. not (same (name_at a k) (name_at b k))) i l))

agreeing-bytes : (a b : List ℕ) (m : ℕ) → m ≤ agreeing a b → take (name_bytes * m) a ≡ take (name_bytes * m) b
agreeing-bytes a b zero h = refl
agreeing-bytes a b (suc m) h =
    let e : name_bytes * suc m ≡ name_bytes * m + name_bytes = omega arith in
    let before : take (name_bytes * m) a ≡ take (name_bytes * m) b = agreeing-bytes a b m (omega arith) in
    let here : name_from a (name_bytes * m) ≡ name_from b (name_bytes * m) = agreeing_names a b m h in
    ap (λ (n : ℕ). take n a) e
    ∙ take-add (name_bytes * m) name_bytes a
    ∙ ap (λ (l : List ℕ). l ++ name_from a (name_bytes * m)) before
    ∙ ap (λ (l : List ℕ). take (name_bytes * m) b ++ l) here
    ∙ sym (take-add (name_bytes * m) name_bytes b)
    ∙ ap (λ (n : ℕ). take n b) (sym e)

-- ---- the relation

-- both lists are made of whole names
abbrev pub Whole : List ℕ → List ℕ → Type 0
Whole a b = (length a % name_bytes ≡ 0) × (length b % name_bytes ≡ 0)

-- the names that both have agree
abbrev pub Agree : List ℕ → List ℕ → Type 0
Agree a b = Whole a b × (agreeing a b ≡ in_both a b)

-- what each relation says of two lists
abbrev pub Says : List ℕ → List ℕ → Relation → Type 0
Says a b Relation.Equal = Agree a b × (length a ≡ length b)
Says a b Relation.FirstLonger = Agree a b × (length b < length a)
Says a b Relation.SecondLonger = Agree a b × (length a < length b)
Says a b (Relation.Fork k) = Whole a b × (agreeing a b ≡ k) × (k < in_both a b)
Says a b Relation.Broken = Whole a b → ⊥

whole_not_broken : (a b : List ℕ) → Whole a b → broken a b ≡ false
unfolding broken
whole_not_broken a b w = rw (eq-eqb (length a % name_bytes) 0 w.0, eq-eqb (length b % name_bytes) 0 w.1)

not_broken_whole : (a b : List ℕ) → broken a b ≡ false → Whole a b
unfolding broken
not_broken_whole a b h =
    let both = (and-eq-true_iff (eqb (length a % name_bytes) 0) (eqb (length b % name_bytes) 0)).0 (not-false (eqb (length a % name_bytes) 0 && eqb (length b % name_bytes) 0) h) in
    (eqb-true (length a % name_bytes) 0 both.0, eqb-true (length b % name_bytes) 0 both.1)

-- the relation says what it says of its two lists ..
pub relation-says : (a b : List ℕ) → Says a b (relation a b)
unfolding relation
relation-says a b =
    let P = Says a b in
    let both : broken a b ≡ false → in_both a b ≤ agreeing a b → Agree a b = λ w l. (not_broken_whole a b w, omega (arith, agreeing-le a b)) in
    pick-case P (broken a b) Relation.Broken _ (λ h w. not_both h (whole_not_broken a b w))
    (λ w.
    pick-case P (ltb (agreeing a b) (in_both a b)) (Relation.Fork (agreeing a b)) _
    (λ f. (not_broken_whole a b w, refl, ltb-true (agreeing a b) (in_both a b) f))
    (λ f.
    let m : in_both a b ≤ agreeing a b = ltb-false (agreeing a b) (in_both a b) f in
    pick-case P (eqb (length a) (length b)) Relation.Equal _ (λ e. (both w m, eqb-true (length a) (length b) e))
    (λ e.
    pick-case P (ltb (length b) (length a)) Relation.FirstLonger Relation.SecondLonger (λ l. (both w m, ltb-true (length b) (length a) l))
    (λ l.
    let n : length a ≡ length b → ⊥ = eqb-false (length a) (length b) e in
    let k : length a ≤ length b = ltb-false (length b) (length a) l in
    (both w m, omega arith)))))

-- .. and it is the only one that does
module _ (a b : List ℕ) where
  agree-relation : Agree a b → relation a b ≡ pick (eqb (length a) (length b)) Relation.Equal (pick (ltb (length b) (length a)) Relation.FirstLonger Relation.SecondLonger)
  unfolding relation
  agree-relation h =
      pick_no (broken a b) _ _ (whole_not_broken a b h.0)
      ∙ pick_no (ltb (agreeing a b) (in_both a b)) _ _ (le-ltb (agreeing a b) (in_both a b) (omega arith))

  pub relation-is : (x : Relation) → Says a b x → relation a b ≡ x
  unfolding relation
  relation-is Relation.Equal h = agree-relation h.0 ∙ pick_yes _ _ _ (eq-eqb (length a) (length b) h.1)
  relation-is Relation.FirstLonger h =
      agree-relation h.0
      ∙ pick_no _ _ _ (ne_eqb (length a) (length b) (λ e. omega arith))
      ∙ pick_yes _ _ _ (lt-ltb (length b) (length a) h.1)
  relation-is Relation.SecondLonger h =
      agree-relation h.0
      ∙ pick_no _ _ _ (ne_eqb (length a) (length b) (λ e. omega arith))
      ∙ pick_no _ _ _ (le-ltb (length b) (length a) (omega arith))
  relation-is (Relation.Fork k) h =
      pick_no (broken a b) _ _ (whole_not_broken a b h.0)
      ∙ pick_yes (ltb (agreeing a b) (in_both a b)) _ _ (lt-ltb (agreeing a b) (in_both a b) (omega arith))
      ∙ ap (λ (i : ℕ). Relation.Fork i) h.1
  relation-is Relation.Broken h =
      pick_yes (broken a b) _ _ (true_from_ne_false (broken a b) (λ e. h (not_broken_whole a b e)))

  -- an index is below the names that both lists have
  pub relation_index_lem : relation_index (relation a b) ≤ in_both a b
  unfolding relation_index
  relation_index_lem = index (relation a b) (relation-says a b)
    where
      index : (x : Relation) → Says a b x → relation_index x ≤ in_both a b
      index Relation.Equal h = zero-le
      index Relation.FirstLonger h = zero-le
      index Relation.SecondLonger h = zero-le
      index (Relation.Fork k) h = omega arith
      index Relation.Broken h = zero-le

-- ---- lists that begin with one another

-- the names that both have are the same bytes
alike : (a b : List ℕ) → Agree a b → (n : ℕ) → n ≡ name_bytes * in_both a b → take n a ≡ take n b
alike a b h n e =
    ap (λ (k : ℕ). take k a) e ∙ agreeing-bytes a b (in_both a b) (omega arith) ∙ ap (λ (k : ℕ). take k b) (sym e)

-- a list that begins another has its names
begins-name : (a b rest : List ℕ) → a ++ rest ≡ b → (i : ℕ) → name_bytes * i + name_bytes ≤ length a → name_from a (name_bytes * i) ≡ name_from b (name_bytes * i)
begins-name a b rest e i l =
    let k = name_bytes * i in
    sym (take-append-le name_bytes (drop k a) rest (omega (arith, length-drop k a)))
    ∙ ap (λ (l : List ℕ). take name_bytes l) (sym (drop-append-le k a rest (omega arith)))
    ∙ ap (λ (l : List ℕ). name_from l k) e

module _ (a b : List ℕ) where
  said : (x : Relation) → relation a b ≡ x → Says a b x
  said x e = subst (Says a b) e (relation-says a b)

  pub first_longer : relation a b ≡ Relation.FirstLonger → length b < length a
  first_longer r = (said Relation.FirstLonger r).1

  pub second_longer : relation a b ≡ Relation.SecondLonger → length a < length b
  second_longer r = (said Relation.SecondLonger r).1

  -- the lists are equal, or the longer is the shorter and then the tail
  pub equal_same : relation a b ≡ Relation.Equal → a ≡ b
  equal_same r =
      let h = said Relation.Equal r in
      sym (take-length a) ∙ alike a b h.0 (length a) (omega arith) ∙ take_all (length a) b (omega arith)

  pub first_longer_tail : relation a b ≡ Relation.FirstLonger → b ++ tail a b ≡ a
  unfolding tail tail_of
  first_longer_tail r =
      let h = said Relation.FirstLonger r in
      ap (λ (x : Relation). b ++ tail_of x a b) r
      ∙ ap (λ (l : List ℕ). l ++ drop (length b) a) (sym (alike a b h.0 (length b) (omega arith) ∙ take-length b))
      ∙ take-append-drop (length b) a

  pub second_longer_tail : relation a b ≡ Relation.SecondLonger → a ++ tail a b ≡ b
  unfolding tail tail_of
  second_longer_tail r =
      let h = said Relation.SecondLonger r in
      ap (λ (x : Relation). a ++ tail_of x a b) r
      ∙ ap (λ (l : List ℕ). l ++ drop (length a) b) (sym (take-length a) ∙ alike a b h.0 (length a) (omega arith))
      ∙ take-append-drop (length a) b

  -- where the names that both have agree, the relation is 0, 1 or 2
  agree-number : Agree a b → relation_number (relation a b) ≤ 2
  unfolding relation_number
  agree-number h =
      elim (dec_lt (length a) (length b)) [
        | yes s ↦ rw (relation-is a b Relation.SecondLonger (h, s)) (omega arith)
        | no s ↦
            elim (dec_lt (length b) (length a)) [
              | yes l ↦ rw (relation-is a b Relation.FirstLonger (h, l)) (omega arith)
              | no l ↦ rw (relation-is a b Relation.Equal (h, omega arith)) (omega arith)
            ]
      ]

  alike-agree : Whole a b → ((i : ℕ) → i < in_both a b → name_from a (name_bytes * i) ≡ name_from b (name_bytes * i)) → Agree a b
  alike-agree w e = (w, agreeing_all a b (λ i m. ap (λ (x : List ℕ). same x (name_from b (name_bytes * i))) (e i m) ∙ same_refl (name_from b (name_bytes * i))))

  -- of two lists of whole names one of which begins with the other the relation is 0, 1 or 2 ..
  pub begins_no_fork : Whole a b → Begins a b ⊎ Begins b a → relation_number (relation a b) ≤ 2
  begins_no_fork w (inl (rest, e)) = agree-number (alike-agree w (λ i m. begins-name a b rest e i (omega arith)))
  begins_no_fork w (inr (rest, e)) = agree-number (alike-agree w (λ i m. sym (begins-name b a rest e i (omega arith))))

  -- .. and only of such
  pub no_fork_begins : relation_number (relation a b) ≤ 2 → Begins a b ⊎ Begins b a
  unfolding relation_number
  no_fork_begins h = found (relation a b) refl h
    where
      found : (x : Relation) → relation a b ≡ x → relation_number x ≤ 2 → Begins a b ⊎ Begins b a
      found Relation.Equal r l = inl ([], append-nil a ∙ equal_same r)
      found Relation.FirstLonger r l = inr (tail a b, first_longer_tail r)
      found Relation.SecondLonger r l = inl (tail a b, second_longer_tail r)
      found (Relation.Fork k) r l = absurd (omega arith)
      found Relation.Broken r l = absurd (omega arith)

-- ---- the tail, and where it starts, by a relation that was found

module _ (a b : List ℕ) (p q : ℕ × ℕ) (y : Relation) (found : y ≡ relation a b) where
  abbrev pub TailIs : List ℕ → ℕ × ℕ → Type 0
  TailIs l start = (l ≡ tail a b) × (start ≡ tail_start (relation a b) a b p q)

  tail-is : (x : Relation) → y ≡ x → TailIs (tail_of x a b) (tail_start x a b p q)
  unfolding tail
  tail-is x e = (ap (λ (z : Relation). tail_of z a b) (sym e ∙ found), ap (λ (z : Relation). tail_start z a b p q) (sym e ∙ found))

  pub empty_tail : (y ≡ Relation.Equal) ⊎ (((k : ℕ) × (y ≡ Relation.Fork k)) ⊎ (y ≡ Relation.Broken)) → TailIs [] p
  unfolding tail_of tail_start
  empty_tail (inl e) = tail-is Relation.Equal e
  empty_tail (inr (inl (k, e))) = tail-is (Relation.Fork k) e
  empty_tail (inr (inr e)) = tail-is Relation.Broken e

  pub first_tail : y ≡ Relation.FirstLonger → TailIs (take (length a - length b) (drop (length b) a)) (past p (length b))
  unfolding tail_of tail_start
  first_tail e =
      (take_all (length a - length b) (drop (length b) a) (omega (arith, length-drop (length b) a)) ∙ (tail-is Relation.FirstLonger e).0, (tail-is Relation.FirstLonger e).1)

  pub second_tail : y ≡ Relation.SecondLonger → TailIs (take (length b - length a) (drop (length a) b)) (past q (length a))
  unfolding tail_of tail_start
  second_tail e =
      (take_all (length b - length a) (drop (length a) b) (omega (arith, length-drop (length a) b)) ∙ (tail-is Relation.SecondLonger e).0, (tail-is Relation.SecondLonger e).1)
