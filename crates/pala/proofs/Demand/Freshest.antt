-- The freshest block, and what may be kept: the genesis, or the parent of a firm normal block, as the candidate is. Assumes nothing.
use Prim.Native.Nat.{ℕ, ◌+◌, ◌≤◌, ◌<◌}
use mathlib.Core.Bool.{Bool, true, ◌&&◌}
use mathlib.Core.List.{List}
use mathlib.Core.Logic.{◌⊎◌, inl, inr, ⊎_elim}
use mathlib.Core.Path.{◌≡◌, refl, sym, ap, ◌∙◌}
use native.Mathlib.Decide.{ℕ_discrete}
use native.Mathlib.Omega.{arith}
use borrow.Author.Tests.{eqb-true, eq-eqb}
use Rattle.table.specs.declared.Block.{Block}
use Rattle.table.specs.Rows.{size}
use Rattle.pala.specs.Rules.{epoch_at, parent_of, firm, freshest, normal, freshest_normal, candidate}
use Rattle.table.proofs.Laws.{Wins, highest-passes, highest_wins}
use Rattle.pala.proofs.Tests.{and_l, and_r, and_both}
use Rattle.pala.proofs.Grown.{Grown, grown_parent, grown_epoch}
use Rattle.pala.proofs.Places.{parent_below, parent-zero, freshest_in}
use Rattle.pala.proofs.Demand.Ancestors.{firm-zero, grown_firm}

-- "Freshest: the firm block of highest epoch"
module _ (n : ℕ) (t : List Block) where
  pub freshest-firm : firm n t (freshest n t) ≡ true
  unfolding freshest
  freshest-firm =
      ⊎_elim (λ e. ap (firm n t) e ∙ firm-zero n t) (λ e. e.1) (highest-passes (size t) (λ p. firm n t p) _)

  pub freshest_best : (p : ℕ) → p < size t → firm n t p ≡ true → epoch_at t p ≤ epoch_at t (freshest n t)
  unfolding freshest
  freshest_best p h e =
      ⊎_elim (λ l. omega arith) (λ l. omega arith) (highest_wins (size t) (λ p. firm n t p) (λ p. epoch_at t p) p h e)

-- a grown table's freshest epoch is no lower
pub freshest_grows : {t u : List Block} → Grown t u → (n : ℕ) → 0 < size t → epoch_at t (freshest n t) ≤ epoch_at u (freshest n u)
freshest_grows {t} {u} g n h =
    let f : freshest n t < size t = freshest_in n t h in
    let e : epoch_at u (freshest n t) ≡ epoch_at t (freshest n t) = grown_epoch g (freshest n t) f in
    let b : epoch_at u (freshest n t) ≤ epoch_at u (freshest n u) =
    freshest_best n u (freshest n t) (omega (arith, g.longer)) (grown_firm g n (freshest n t) f (freshest-firm n t)) in
    omega arith

-- c is the parent of a firm normal block
pub record FinalBy (n : ℕ) (t : List Block) (c : ℕ) : Type 0 where
  pub child : ℕ
  pub above : 0 < child
  pub within : child < size t
  pub firmly : firm n t child ≡ true
  pub next : epoch_at t child ≡ epoch_at t (parent_of t child) + 1
  pub parent : parent_of t child ≡ c

-- the genesis, or the parent of a firm normal block
abbrev pub Kept : ℕ → List Block → ℕ → Type 0
Kept n t c = (c ≡ 0) ⊎ FinalBy n t c

pub grown_final : {t u : List Block} → Grown t u → {n c : ℕ} → FinalBy n t c → FinalBy n u c
grown_final {t} {u} g {n} {c} f =
    record {
      child = f.child;
      above = f.above;
      within = omega (arith, f.within, g.longer);
      firmly = grown_firm g n f.child f.within f.firmly;
      next = grown_epoch g f.child f.within ∙ f.next ∙ ap (λ e. e + 1) (sym (grown_epoch g (parent_of t f.child) in_t) ∙ ap (epoch_at u) (sym same-parent));
      parent = same-parent ∙ f.parent;
    }
  where
    same-parent : parent_of u f.child ≡ parent_of t f.child
    same-parent = grown_parent g f.child f.within

    in_t : parent_of t f.child < size t
    in_t = omega (arith, f.within, parent_below t f.child f.above)

pub grown_kept : {t u : List Block} → Grown t u → {n c : ℕ} → Kept n t c → Kept n u c
grown_kept g (inl e) = inl e
grown_kept g (inr f) = inr (grown_final g f)

pub kept_in : {t : List Block} {n c : ℕ} → 0 < size t → Kept n t c → c < size t
kept_in h (inl e) = rw e h
kept_in {t} h (inr f) = omega (arith, f.within, f.parent, parent_below t f.child f.above)

-- 02, M-104: "the parent of the firm normal block of highest epoch .."; no other parent of a firm normal block is later
module _ (n : ℕ) (t : List Block) where
  -- is a block firm and normal
  abbrev both : ℕ → Bool
  both p = firm n t p && normal t p

  top : ℕ
  top = freshest_normal n t

  found : (top ≡ 0) ⊎ ((top < size t) × (both top ≡ true))
  unfolding top freshest_normal
  found = highest-passes (size t) both _

  normal_next : (p : ℕ) → both p ≡ true → epoch_at t p ≡ epoch_at t (parent_of t p) + 1
  unfolding normal
  normal_next p e = eqb-true (epoch_at t p) (epoch_at t (parent_of t p) + 1) (and_r (firm n t p) (normal t p) e)

  -- ".. lowest place among equals"
  normal_wins : (p : ℕ) → p < size t → both p ≡ true → Wins (epoch_at t) top p
  unfolding top freshest_normal
  normal_wins p h o = highest_wins (size t) both _ p h o

  normal_best : (p : ℕ) → p < size t → firm n t p ≡ true → epoch_at t p ≡ epoch_at t (parent_of t p) + 1 → epoch_at t p ≤ epoch_at t top
  unfolding normal
  normal_best p h f e =
      ⊎_elim (λ l. omega arith) (λ l. omega arith)
      (normal_wins p h (and_both (firm n t p) (normal t p) f (eq-eqb (epoch_at t p) (epoch_at t (parent_of t p) + 1) e)))

  candidate_next : epoch_at t top ≤ epoch_at t (candidate n t) + 1
  unfolding candidate top
  candidate_next =
      ⊎_elim (λ z. omega (arith, ap (λ p. epoch_at t (parent_of t p)) z ∙ ap (epoch_at t) (parent-zero t), ap (epoch_at t) z))
      (λ w. omega (arith, normal_next top w.1)) found

  pub candidate_latest : {c : ℕ} → FinalBy n t c → epoch_at t c ≤ epoch_at t (candidate n t)
  candidate_latest f =
      omega (arith, normal_best f.child f.within f.firmly f.next, candidate_next, f.next, ap (epoch_at t) f.parent)

  pub candidate-kept : Kept n t (candidate n t)
  unfolding candidate top
  candidate-kept = go found
    where
      go : (top ≡ 0) ⊎ ((top < size t) × (both top ≡ true)) → Kept n t (parent_of t top)
      go (inl z) = inl (ap (parent_of t) z ∙ parent-zero t)
      go (inr (h, o)) =
          elim (ℕ_discrete top 0) [
            | yes z ↦ inl (ap (parent_of t) z ∙ parent-zero t)
            | no z ↦
                inr
                (record {
                  child = top;
                  above = omega arith;
                  within = h;
                  firmly = and_l (firm n t top) (normal t top) o;
                  next = normal_next top o;
                  parent = refl;
                })
          ]
