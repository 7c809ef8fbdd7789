-- yes means that of any two honest final lists one begins the other. Assumes nothing.
use Prim.Native.Nat.{ℕ, ◌<◌}
use mathlib.Core.Bool.{Bool, true, false, not, ◌&&◌, ◌||◌}
use mathlib.Core.List.{List, [], ◌++◌, append-nil}
use mathlib.Core.Logic.{◌⊎◌, inl, inr}
use mathlib.Core.Path.{◌≡◌, sym, ap, subst, ◌∙◌}
use native.Mathlib.Decide.{dec_lt}
use native.Mathlib.Omega.{arith}
use lib.ListN.{length, take, drop, take-append-drop}
use lib.Seq.{take-append_seam}
use Rattle.table.specs.Scan.{all_below}
use Rattle.table.specs.Bytes.{same}
use Rattle.table.proofs.Laws.{same_refl, same_true, all_below-at, all_below_all}
use Rattle.pala.specs.Safety.{Begins, OneBegins}
use Rattle.pala.proofs.Shapes as Shapes
use Rattle.pala.proofs.Tests.{and_l, and_r, and_both, or_l, or_r, or_cases, either}
use Rattle.accord.specs.declared.Hall.{Hall}
use Rattle.accord.specs.Head.{most_gateways, honest_in}
use Rattle.accord.specs.Words.{list_of, begins, one_begins, agree}
use Rattle.accord.specs.NeverNo.{YesMeans}

-- ---- one begins the other

begins_rest : (a b : List ℕ) → begins a b ≡ true → Begins a b
unfolding begins
begins_rest a b h =
    (drop (length a) b, ap (λ (l : List ℕ). l ++ drop (length a) b) (same_true a (take (length a) b) h) ∙ take-append-drop (length a) b)

rest_begins : (a b : List ℕ) → Begins a b → begins a b ≡ true
unfolding begins
rest_begins a b (rest, e) =
    ap (same a) (ap (take (length a)) (sym e) ∙ take-append_seam a rest) ∙ same_refl a

one-begins : (a b : List ℕ) → one_begins a b ≡ true → OneBegins a b
unfolding one_begins
one-begins a b h = go (or_cases (begins a b) (begins b a) h)
  where
    go : (begins a b ≡ true) ⊎ (begins b a ≡ true) → OneBegins a b
    go (inl e) = inl (begins_rest a b e)
    go (inr e) = inr (begins_rest b a e)

begins-one : (a b : List ℕ) → OneBegins a b → one_begins a b ≡ true
unfolding one_begins
begins-one a b (inl w) = or_l (begins a b) (begins b a) (rest_begins a b w)
begins-one a b (inr w) = or_r (begins a b) (begins b a) (rest_begins b a w)

turned : {a b : List ℕ} → OneBegins a b → OneBegins b a
turned (inl w) = inr w
turned (inr w) = inl w

-- ---- of any two

module _ (h : Hall) where
  both : ℕ → ℕ → Bool
  both i j = honest_in h i && honest_in h j

  fits : ℕ → ℕ → Bool
  fits i j = one_begins (list_of h i) (list_of h j)

  -- a pair in which the second number is lower
  agree_pair : agree h ≡ true → (i j : ℕ) → i < most_gateways → j < i → honest_in h i ≡ true → honest_in h j ≡ true → OneBegins (list_of h i) (list_of h j)
  unfolding agree both fits
  agree_pair e i j l m hi hj =
      one-begins (list_of h i) (list_of h j)
      (Shapes.or_r (not (both i j)) (fits i j)
      (all_below-at i (λ b. not (both i b) || fits i b)
      (all_below-at most_gateways (λ a. all_below a (λ b. not (both a b) || fits a b)) e i l) j m)
      (ap not (and_both (honest_in h i) (honest_in h j) hi hj)))

  pub agree_any : agree h ≡ true
      → (i j : ℕ) → i < most_gateways → j < most_gateways → honest_in h i ≡ true → honest_in h j ≡ true → OneBegins (list_of h i) (list_of h j)
  agree_any e i j l m hi hj =
      elim (dec_lt j i) [
        | yes b ↦ agree_pair e i j l b hi hj
        | no b ↦
            elim (dec_lt i j) [
              | yes a ↦ turned (agree_pair e j i m a hj hi)
              | no a ↦ let z : i ≡ j = omega arith in subst (λ k. OneBegins (list_of h i) (list_of h k)) z (inl ([], append-nil (list_of h i)))
            ]
      ]

  pub any_agree :
      ((i j : ℕ) → i < most_gateways → j < most_gateways → honest_in h i ≡ true → honest_in h j ≡ true → OneBegins (list_of h i) (list_of h j))
      → agree h ≡ true
  unfolding agree both fits
  any_agree w =
      all_below_all most_gateways (λ i. all_below i (λ j. not (both i j) || fits i j))
      (λ i l. all_below_all i (λ j. not (both i j) || fits i j) (λ j m. go i j l m (either (both i j))))
    where
      go : (i j : ℕ) → i < most_gateways → j < i → (both i j ≡ true) ⊎ (both i j ≡ false) → (not (both i j) || fits i j) ≡ true
      go i j l m (inl e) =
          or_r (not (both i j)) (fits i j)
          (begins-one (list_of h i) (list_of h j)
          (w i j l (omega arith) (and_l (honest_in h i) (honest_in h j) e) (and_r (honest_in h i) (honest_in h j) e)))
      go i j l m (inr e) = or_l (not (both i j)) (fits i j) (ap not e)

pub yes_means : YesMeans
yes_means h = (agree_any h, any_agree h)
