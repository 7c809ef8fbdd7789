-- The columns, place by place: each is made by one call, and read at its place. Assumes nothing.
use Rattle.std.proofs.Common.{ℕ, zero, suc, ◌≡◌, ◌+◌, ◌≤◌, ◌<◌, List, map, subst, arith}
use Rattle.std.specs.Array.{IsElementAt, IsFromFnResult, IsFromFnResultFrom}
use Rattle.std.specs.Fn.{Called}
use Rattle.std.specs.List.{range_with_len}
use Rattle.std.proofs.lemmas.List.FromFn.{fill_by_all}
use denote.Param.Members.{Mut}
use native.Mathlib.Decide.{ℕ_discrete}

-- what calls gave that change nothing of what they capture
module _ {F B : Type 0} (g : Mut F (ℕ × Unit {0}) B) (f : F) (ys : List B) (spec : ℕ → B) (call : (i : ℕ) (y : B) (q : F) → Called g f (i, tt) y q → (q ≡ f) × (y ≡ spec i)) where
  each_is : (n i : ℕ) → IsFromFnResultFrom g f ys i n → (k : ℕ) → i ≤ k → k < i + n → IsElementAt ys k (spec k)
  each_is zero i h k a b = absurd (omega arith)
  each_is (suc n) i h k a b =
      let one = call i h.1 h.0 h.3 in
      elim (ℕ_discrete i k) [
        | yes e ↦ rw (← e) (subst (IsElementAt ys i) one.1 h.2)
        | no e ↦ each_is n (i + 1) (subst (λ (q : F). IsFromFnResultFrom g q ys (i + 1) n) one.0 h.4) k (omega arith) (omega arith)
      ]

  pub made_by : (n : ℕ) → IsFromFnResult g f ys n → ys ≡ map spec (range_with_len 0 n)
  made_by n h = fill_by_all spec ys n (spec 0) h.long (λ k l. (each_is n 0 h.each k (omega arith) (omega arith)).1 (spec 0))
