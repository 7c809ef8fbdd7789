-- A table whose blocks are the book's, seen as names: its lines, firm blocks and kept blocks are those of `Chains`. Assumes nothing.
use Prim.Native.Nat.{ℕ, ◌<◌}
use mathlib.Core.Bool.{true}
use mathlib.Core.List.{List}
use mathlib.Core.Logic.{◌⊎◌, inl, inr}
use mathlib.Core.Path.{◌≡◌, refl, sym, ap, subst, ◌∙◌}
use native.Mathlib.Omega.{arith}
use Rattle.table.specs.declared.Block.{Block}
use Rattle.table.specs.Rows.{size, at}
use Rattle.pala.specs.Counts.{no_name}
use Rattle.pala.specs.Rules.{epoch_at, parent_of, line, among, notarized, firm, descends}
use Rattle.pala.proofs.Demand.Chains as Chains
use Rattle.pala.proofs.Places.{parent_below}
use Rattle.pala.proofs.Demand.Chains.{On, here, up, Chain, none, more, Firm, decreed, next, normal_final}
use Rattle.pala.proofs.Demand.Ancestors.{climb, on_self, on_up, on_lower, firm-own, firm-parent}
use Rattle.pala.proofs.Demand.Freshest.{Kept}
use Rattle.pala.proofs.Finals.{names_to, names_zero, names_up}
use Rattle.pala.proofs.Demand.Sound.{Sound, parent_earlier, one_place}

module _ (epoch : List ℕ → ℕ) (parent : List ℕ → List ℕ) where
  -- every block of the table is the book's
  pub record Faithful (n : ℕ) (t : List Block) : Type 0 where
    pub sound : Sound n t
    pub epochs : (p : ℕ) → p < size t → epoch (at t p).name ≡ epoch_at t p
    pub parents : (p : ℕ) → 0 < p → p < size t → parent (at t p).name ≡ (at t (parent_of t p)).name

  -- on a name: it is the name, or its parent is on it
  on_cases_of : {a x : List ℕ} → On no_name epoch parent a x
      → (a ≡ x) ⊎ ((epoch (parent x) < epoch x) × On no_name epoch parent a (parent x))
  on_cases_of here = inl refl
  on_cases_of (up l o) = inr (l, o)

  module _ {n : ℕ} {t : List Block} (f : Faithful n t) where
    below : (p : ℕ) → 0 < p → p < size t → parent_of t p < size t
    below p pos h = omega (arith, parent_below t p pos)

    -- the parent's epoch is smaller, by the book
    guard : (p : ℕ) → 0 < p → p < size t → epoch (parent (at t p).name) < epoch (at t p).name
    guard p pos h =
        omega (
          arith,
          ap epoch (f.parents p pos h),
          f.epochs (parent_of t p) (below p pos h),
          f.epochs p h,
          parent_earlier f.sound p pos h,
        )

    pub chain_of : (p : ℕ) → p < size t → Chain no_name epoch parent (at t p).name (names_to t p)
    chain_of = climb t (λ p. p < size t → Chain no_name epoch parent (at t p).name (names_to t p)) base step
      where
        base : 0 < size t → Chain no_name epoch parent (at t 0).name (names_to t 0)
        base h =
            subst (λ x. Chain no_name epoch parent x (names_to t 0)) (sym f.sound.root_name)
            (subst (Chain no_name epoch parent no_name) (sym (names_zero t)) none)

        step : (p : ℕ) → 0 < p
            → (parent_of t p < size t → Chain no_name epoch parent (at t (parent_of t p)).name (names_to t (parent_of t p)))
            → p < size t → Chain no_name epoch parent (at t p).name (names_to t p)
        step p pos ih h =
            subst (Chain no_name epoch parent (at t p).name) (sym (names_up t p pos))
            (more (guard p pos h)
            (subst (λ x. Chain no_name epoch parent x (names_to t (parent_of t p))) (sym (f.parents p pos h)) (ih (below p pos h))))

    -- what the table's firm blocks are, where its notarized ones are
    module _ {Notarized : List ℕ → Type 0} (known : (p : ℕ) → 0 < p → p < size t → notarized n t p ≡ true → Notarized (at t p).name) where
      pub firm_of : (p : ℕ) → p < size t → firm n t p ≡ true → Firm no_name epoch parent Notarized (at t p).name
      firm_of = climb t (λ p. p < size t → firm n t p ≡ true → Firm no_name epoch parent Notarized (at t p).name) base step
        where
          base : 0 < size t → firm n t 0 ≡ true → Firm no_name epoch parent Notarized (at t 0).name
          base h e = subst (Firm no_name epoch parent Notarized) (sym f.sound.root_name) decreed

          step : (p : ℕ) → 0 < p
              → (parent_of t p < size t → firm n t (parent_of t p) ≡ true → Firm no_name epoch parent Notarized (at t (parent_of t p)).name)
              → p < size t → firm n t p ≡ true → Firm no_name epoch parent Notarized (at t p).name
          step p pos ih h e =
              next (guard p pos h) (known p pos h (firm-own n t p pos e))
              (subst (Firm no_name epoch parent Notarized) (sym (f.parents p pos h)) (ih (below p pos h) (firm-parent n t p pos e)))

      pub kept_of : (c : ℕ) → Kept n t c → Chains.Kept no_name epoch parent 0 Notarized (at t c).name
      kept_of c (inl e) = inl (ap (λ p. (at t p).name) e ∙ f.sound.root_name)
      kept_of c (inr w) = inr (subst (λ p. Chains.Final no_name epoch parent 0 Notarized (at t p).name) w.parent it)
        where
          up_in : parent_of t w.child < size t
          up_in = below w.child w.above w.within

          it : Chains.Final no_name epoch parent 0 Notarized (at t (parent_of t w.child)).name
          it =
              normal_final no_name epoch parent
              (firm_of (parent_of t w.child) up_in (firm-parent n t w.child w.above w.firmly))
              (known w.child w.above w.within (firm-own n t w.child w.above w.firmly))
              (f.parents w.child w.above w.within)
              (omega (arith, f.epochs w.child w.within, f.epochs (parent_of t w.child) up_in, w.next))

    -- a name that a block is on stands on its line
    pub on_line : (p : ℕ) → p < size t → (x : List ℕ) → On no_name epoch parent x (at t p).name
        → (a : ℕ) × (among a (line t p) ≡ true) × ((at t a).name ≡ x)
    on_line = climb t (λ p. p < size t → (x : List ℕ) → On no_name epoch parent x (at t p).name → Above x p) base step
      where
        Above : List ℕ → ℕ → Type 0
        Above x p = (a : ℕ) × (among a (line t p) ≡ true) × ((at t a).name ≡ x)

        base : 0 < size t → (x : List ℕ) → On no_name epoch parent x (at t 0).name → Above x 0
        base h x o = go (on_cases_of o)
          where
            go : (x ≡ (at t 0).name) ⊎ ((epoch (parent (at t 0).name) < epoch (at t 0).name) × On no_name epoch parent x (parent (at t 0).name)) → Above x 0
            go (inl e) = (0, on_self t 0, sym e)
            go (inr (l, _)) = absurd (omega (arith, f.epochs 0 h, f.sound.root_epoch))

        step : (p : ℕ) → 0 < p → (parent_of t p < size t → (x : List ℕ) → On no_name epoch parent x (at t (parent_of t p)).name → Above x (parent_of t p))
            → p < size t → (x : List ℕ) → On no_name epoch parent x (at t p).name → Above x p
        step p pos ih h x o = go (on_cases_of o)
          where
            go : (x ≡ (at t p).name) ⊎ ((epoch (parent (at t p).name) < epoch (at t p).name) × On no_name epoch parent x (parent (at t p).name)) → Above x p
            go (inl e) = (p, on_self t p, sym e)
            go (inr (_, w)) =
                let (a, on, e) = ih (below p pos h) x (subst (On no_name epoch parent x) (f.parents p pos h) w) in
                (a, on_up t p a pos on, e)

    -- .. at its one place
    pub on_place : (p a : ℕ) → p < size t → a < size t → On no_name epoch parent (at t a).name (at t p).name → descends t p a ≡ true
    unfolding descends
    on_place p a h k o =
        let (b, on, e) = on_line p h (at t a).name o in
        let z : b ≡ a = one_place f.sound b a (omega (arith, on_lower t p b on)) k e in
        subst (λ q. among q (line t p) ≡ true) z on
