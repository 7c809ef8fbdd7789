-- In a well-shaped table one block at most has a name, so what is asked of all is asked of it. Assumes nothing.
use Rattle.std.proofs.lemmas.Bool.{true_from_ne_false}
use Prim.Native.Nat.{ℕ, ◌<◌}
use mathlib.Core.Bool.{Bool, true, false, ◌&&◌, and-false, and_assoc}
use mathlib.Core.List.{List}
use mathlib.Core.Path.{◌≡◌, refl, sym, ap, ap₂, subst, ◌∙◌}
use native.Mathlib.Omega.{arith}
use borrow.Author.Tests.{ltb-true, lt-ltb}
use lib.Dec.{eqb, ltb}
use lib.ListN.{get_or}
use lib.Pointwise.{pointwise}
use Rattle.std.proofs.Common.{Option, Some, None, MatchOption}
use Rattle.std.specs.List.{list_any, range_with_len}
use Rattle.std.proofs.lemmas.List.Folds.{Any-from_list_any, list_any_at}
use Rattle.std.proofs.lemmas.List.FromFn.{get_or-range_with_len, length-range_with_len}
use Rattle.std.proofs.lemmas.Option.{none-some, same_Some}
use Rattle.std.specs.Bool.{then_some}
use Rattle.table.specs.declared.Block.{Block}
use Rattle.table.specs.declared.Place.{Place}
use Rattle.table.specs.declared.State.{State}
use Rattle.table.specs.Scan.{pick}
use Rattle.table.specs.Bytes.{same}
use Rattle.table.specs.Rows.{rows, size, at, find}
use Rattle.table.proofs.Laws.{not_both, pointwise-same, same_test, same_refl, same_true, size-rows, find-is}
use Rattle.pala.specs.Shape.{well_shaped}
use Rattle.pala.proofs.Places.{find-named}
use Rattle.pala.proofs.Shapes.{block_apart, shaped-block}
use Rattle.pala.proofs.Tests.{and_both, and_l, and_r}
use Rattle.accord.specs.Rulings.{Content, alike, any_below, named}
use Rattle.hall.specs.Named.{block_named}
use Rattle.accord.proofs.Scans.{any_hit, any_none}

-- ---- what is told of the value in an `Option`

-- what an answer with a value tells, and one with none
pub pick_some : {A : Type 0} (b : Bool) (x : A) {y : A} → Some y ≡ pick b (Some x) None → (b ≡ true) × (y ≡ x)
unfolding pick
pick_some true x e = (refl, same_Some _ x e)
pick_some false x e = absurd (none-some _ (sym e))

pub pick_none : {A : Type 0} (b : Bool) (x : A) → None ≡ pick b (Some x) None → b ≡ false
unfolding pick
pick_none true x e = absurd (none-some x e)
pick_none false x e = refl

pub some_and :
    {A : Type 0} (b : Bool) (x : A) (test : A → Bool) {o : Option A} {r : Bool} (Told : A → Type 0)
    → o ≡ pick b (Some x) None → MatchOption o (r ≡ false) Told → ((y : A) → Told y → r ≡ test y) → r ≡ (b && test x)
unfolding pick
some_and true x test {r = r} Told e m told = told x (subst (λ p. MatchOption p (r ≡ false) Told) e m)
some_and false x test {r = r} Told e m told = subst (λ p. MatchOption p (r ≡ false) Told) e m

pub filtered :
    {A : Type 0} (b : Bool) (x : A) (test : A → Bool) {o r : Option A} (Told : A → Bool → Type 0)
    → o ≡ pick b (Some x) None → MatchOption o (r ≡ None) (λ y. (k : Bool) × Told y k × (r ≡ then_some k y)) → ((y : A) (k : Bool) → Told y k → k ≡ test y)
    → r ≡ pick (test x && b) (Some x) None
unfolding pick
filtered true x test {r = r} Told e m told =
    let (k, t, f) = subst (λ p. MatchOption p (r ≡ None) (λ y. (k : Bool) × Told y k × (r ≡ then_some k y))) e m in
    f ∙ ap (λ (j : Bool). then_some j x) (told x k t) ∙ given (test x) x
  where
    given : {A : Type 0} (j : Bool) (x : A) → then_some j x ≡ pick (j && true) (Some x) None
    given true x = refl
    given false x = refl
filtered false x test {r = r} Told e m told =
    subst (λ p. MatchOption p (r ≡ None) (λ y. (k : Bool) × Told y k × (r ≡ then_some k y))) e m ∙ ap (λ (j : Bool). pick j (Some x) None) (sym (and-false (test x)))

-- ---- a number that passes

pub any_yes : (n k : ℕ) (ok : ℕ → Bool) → k < n → ok k ≡ true → any_below n ok ≡ true
any_yes n k ok l h = true_from_ne_false (any_below n ok) (λ e. not_both h (any_none n ok e k l))

-- `any` over the numbers below k
pub any_range : (k : ℕ) (ok : ℕ → Bool) → list_any ok (range_with_len 0 k) ≡ any_below k ok
any_range k ok =
    same_test (list_any ok (range_with_len 0 k)) (any_below k ok)
    (λ y. let (i, x, l, e, t) = Any-from_list_any ok (range_with_len 0 k) y in
    let here : x ≡ i = omega (arith, e, get_or-range_with_len 0 k i x (omega (arith, length-range_with_len 0 k))) in
    any_yes k i ok (omega (arith, length-range_with_len 0 k)) (ap ok (sym here) ∙ t))
    (λ y.
    let (i, l, e) = any_hit k ok y in
    list_any_at ok (range_with_len 0 k) i 0 (omega (arith, length-range_with_len 0 k)) (ap ok (let here : get_or (range_with_len 0 k) i 0 ≡ i = omega (arith, get_or-range_with_len 0 k i 0 l) in here) ∙ e))

-- ---- a table's only block of a name

module _ (s : State) (h : well_shaped s ≡ true) (name : List ℕ) (test : ℕ → Bool) where
  abbrev t : List Block
  t = rows s

  abbrev f : ℕ
  f = find t name

  -- whoever has the name stands where it is found
  only : (p : ℕ) → p < size t → named t name p ≡ true → f ≡ p
  unfolding named
  only p l e =
      let pos : 0 < p = ltb-true 0 p (and_l (ltb 0 p) (same (at t p).name name) e) in
      let here : (at t p).name ≡ name = same_true (at t p).name name (and_r (ltb 0 p) (same (at t p).name name) e) in
      find-is t name p l (and_r (ltb 0 p) (same (at t p).name name) e)
      (λ i m. ap (same (at t i).name) (sym here) ∙ block_apart s.n t p (shaped-block s h p pos (omega (arith, size-rows s))) i m)

  found_named : 0 < f → f < size t → named t name f ≡ true
  unfolding named
  found_named pos l = and_both (ltb 0 f) (same (at t f).name name) (lt-ltb 0 f pos) (ap (λ (x : List ℕ). same x name) (find-named t name l) ∙ same_refl name)

  pub one_named : any_below (size t) (λ p. named t name p && test p) ≡ (ltb 0 f && ltb f (size t) && test f)
  unfolding named
  one_named =
      same_test (any_below (size t) (λ p. named t name p && test p)) (ltb 0 f && ltb f (size t) && test f)
      (λ y.
      let (p, l, z) = any_hit (size t) (λ q. named t name q && test q) y in
      let e = only p l (and_l (named t name p) (test p) z) in
      let pos : 0 < p = named_above p (and_l (named t name p) (test p) z) in
      and_both (ltb 0 f && ltb f (size t)) (test f) (and_both (ltb 0 f) (ltb f (size t)) (lt-ltb 0 f (omega arith)) (lt-ltb f (size t) (omega arith)))
      (ap test e ∙ and_r (named t name p) (test p) z))
      (λ y.
      let there : (ltb 0 f && ltb f (size t)) ≡ true = and_l (ltb 0 f && ltb f (size t)) (test f) y in
      let l : f < size t = ltb-true f (size t) (and_r (ltb 0 f) (ltb f (size t)) there) in
      any_yes (size t) f (λ q. named t name q && test q) l
      (and_both (named t name f) (test f) (found_named (ltb-true 0 f (and_l (ltb 0 f) (ltb f (size t)) there)) l) (and_r (ltb 0 f && ltb f (size t)) (test f) y)))
    where
      named_above : (p : ℕ) → named t name p ≡ true → 0 < p
      named_above p e = ltb-true 0 p (and_l (ltb 0 p) (same (at t p).name name) e)

-- ---- found or not

module _ (t : List Block) (name : List ℕ) where
  abbrev pub there : Bool
  there = ltb 0 (find t name) && ltb (find t name) (size t)

  pub named_some : {p : Place} → Some p ≡ block_named t name → (there ≡ true) × (find t name ≡ p.0)
  unfolding block_named
  named_some e = let (y, q) = pick_some there (record { 0 = find t name }) e in (y, ap (λ (p : Place). p.0) (sym q))

  pub named_none : None ≡ block_named t name → there ≡ false
  unfolding block_named
  named_none e = pick_none there (record { 0 = find t name }) e

-- ---- what a name stands for, compared by its parts

pub alike_is :
    (a b : Content) → (eqb a.epoch b.epoch && (pointwise eqb a.parent b.parent && pointwise eqb a.payload b.payload)) ≡ alike a b
unfolding alike
alike_is a b =
    ap₂ (λ (x y : Bool). eqb a.epoch b.epoch && (x && y)) (pointwise-same a.parent b.parent) (pointwise-same a.payload b.payload)
    ∙ sym (and_assoc (eqb a.epoch b.epoch) (same a.parent b.parent) (same a.payload b.payload))
