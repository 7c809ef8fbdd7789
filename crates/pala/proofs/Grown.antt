-- Tables after one block more and after one voter more: what each row is, and what a grown table keeps. Assumes nothing.
use Prim.Native.Nat.{ℕ, zero, suc, ◌≤◌, ◌<◌}
use mathlib.Core.Bool.{Bool, true, false}
use mathlib.Core.List.{List, [], ◌∷◌, ◌++◌}
use mathlib.Core.Logic.{◌≢◌}
use mathlib.Core.Path.{◌≡◌, refl, sym, ap, subst, ◌∙◌}
use native.Mathlib.Decide.{ℕ_discrete}
use native.Mathlib.Omega.{arith}
use lib.ListN.{length, get_or, take, set, length-append, length-set, get_or-append}
use lib.Seq.{get_or-append_seam, get_or-set_same, get_or-set_other, set_split, take-set-lt, take-suc-set, length-take-le}
use Rattle.table.specs.declared.Block.{Block}
use Rattle.table.specs.declared.State.{State}
use Rattle.table.specs.Rows.{rows, size, at, has_voter, with_voter}
use Rattle.table.proofs.Laws.{at_in}
use Rattle.pala.specs.Effects.{laid, with_block, with_vote, with_clock}
use Rattle.pala.specs.Rules.{epoch_at, parent_of}
use Rattle.pala.specs.Steps.{settled}
use Rattle.pala.proofs.Falls.{lower-same}

-- ---- a row laid at a place that the rows have

pub laid-set : (l : List Block) (p : ℕ) (b : Block) → p < length l → laid l p b ≡ set l p b
unfolding laid
laid-set l p b h = sym (set_split l p b h)

pub length-laid : (l : List Block) (p : ℕ) (b : Block) → p < length l → length (laid l p b) ≡ length l
length-laid l p b h = ap length (laid-set l p b h) ∙ length-set l p b

pub laid_same : (l : List Block) (p : ℕ) (b d : Block) → p < length l → get_or (laid l p b) p d ≡ b
laid_same l p b d h = ap (λ (x : List Block). get_or x p d) (laid-set l p b h) ∙ get_or-set_same l p b d h

pub laid_other : (l : List Block) (p q : ℕ) (b d : Block) → p < length l → q ≢ p → get_or (laid l p b) q d ≡ get_or l q d
laid_other l p q b d h e = ap (λ (x : List Block). get_or x q d) (laid-set l p b h) ∙ get_or-set_other l p q b d e

-- ---- the table of a state

-- the root and each block held
pub size-held : (s : State) → s.count < length s.blocks → size (rows s) ≡ suc s.count
unfolding rows
size-held s h = length-take-le (suc s.count) s.blocks h

-- a block more is a row more
pub rows-block : (s : State) (b : Block) (proposed : ℕ) → suc s.count < length s.blocks → rows (with_block s b proposed) ≡ rows s ++ (b ∷ [])
unfolding rows with_block
rows-block s b proposed h =
    ap (take (suc (suc s.count))) (laid-set s.blocks (suc s.count) b h) ∙ take-suc-set s.blocks (suc s.count) b h

-- a vote more is a voter more in its row
pub rows-vote : (s : State) (p i voted : ℕ) → p ≤ s.count → s.count < length s.blocks → rows (with_vote s p i voted) ≡ set (rows s) p (with_voter (at (rows s) p) i)
unfolding rows with_vote
rows-vote s p i voted h k =
    ap (take (suc s.count)) (laid-set s.blocks p (with_voter (at (rows s) p) i) (omega arith))
    ∙ take-set-lt (suc s.count) s.blocks p (with_voter (at (rows s) p) i) (omega arith)

-- a clock, and the five steps, leave the table alone
pub rows-clock : (s : State) (i c : ℕ) → rows (with_clock s i c) ≡ rows s
unfolding rows with_clock
rows-clock s i c = refl

pub rows_settled : (s : State) → rows (settled s) ≡ rows s
unfolding rows settled
rows_settled s = refl

-- a block and a vote leave as many rows as there are
pub length-block : (s : State) (b : Block) (proposed : ℕ) → suc s.count < length s.blocks → length (with_block s b proposed).blocks ≡ length s.blocks
unfolding with_block
length-block s b proposed h = length-laid s.blocks (suc s.count) b h

pub length-vote : (s : State) (p i voted : ℕ) → p < length s.blocks → length (with_vote s p i voted).blocks ≡ length s.blocks
unfolding with_vote
length-vote s p i voted h = length-laid s.blocks p (with_voter (at (rows s) p) i) h

-- ---- one row more

pub size-append : (t : List Block) (b : Block) → size (t ++ (b ∷ [])) ≡ suc (size t)
size-append t b = omega (arith, length-append t (b ∷ []))

pub at-append : (t : List Block) (b : Block) (p : ℕ) → p < size t → at (t ++ (b ∷ [])) p ≡ at t p
at-append t b p h =
    at_in (t ++ (b ∷ [])) p b (omega (arith, size-append t b)) ∙ get_or-append t (b ∷ []) b p h ∙ sym (at_in t p b h)

pub at_last : (t : List Block) (b : Block) → at (t ++ (b ∷ [])) (size t) ≡ b
at_last t b = at_in (t ++ (b ∷ [])) (size t) b (omega (arith, size-append t b)) ∙ get_or-append_seam t b [] b

-- ---- another row at a place

pub at_set_same : (t : List Block) (p : ℕ) (b : Block) → p < size t → at (set t p b) p ≡ b
at_set_same t p b h = at_in (set t p b) p b (omega (arith, length-set t p b)) ∙ get_or-set_same t p b b h

pub at_set_other : (t : List Block) (p q : ℕ) (b : Block) → q < size t → q ≢ p → at (set t p b) q ≡ at t q
at_set_other t p q b h d =
    at_in (set t p b) q b (omega (arith, length-set t p b)) ∙ get_or-set_other t p q b b d ∙ sym (at_in t q b h)

-- ---- tables that grow

-- u has every row of t where it was, perhaps with more voters
pub record Grown (t u : List Block) : Type 0 where
  pub longer : size t ≤ size u
  pub name : (p : ℕ) → p < size t → (at u p).name ≡ (at t p).name
  pub epoch : (p : ℕ) → p < size t → (at u p).epoch.0 ≡ (at t p).epoch.0
  pub parent : (p : ℕ) → p < size t → (at u p).parent.0 ≡ (at t p).parent.0
  pub voters : (p i : ℕ) → p < size t → has_voter (at t p) i ≡ true → has_voter (at u p) i ≡ true

pub grown_epoch : {t u : List Block} → Grown t u → (p : ℕ) → p < size t → epoch_at u p ≡ epoch_at t p
unfolding epoch_at
grown_epoch g p h = g.epoch p h

pub grown_parent : {t u : List Block} → Grown t u → (p : ℕ) → p < size t → parent_of u p ≡ parent_of t p
unfolding parent_of
grown_parent {t} {u} g p h = lower-same (λ a. (at u a).parent.0) (λ a. (at t a).parent.0) p (g.parent p h)

pub grown_same : (t : List Block) → Grown t t
grown_same t =
    record {
      longer = omega arith;
      name = λ p h. refl;
      epoch = λ p h. refl;
      parent = λ p h. refl;
      voters = λ p i h v. v;
    }

pub grown_then : {t u v : List Block} → Grown t u → Grown u v → Grown t v
grown_then {t} {u} {v} f g =
    record {
      longer = omega (arith, f.longer, g.longer);
      name = λ p h. g.name p (in_u p h) ∙ f.name p h;
      epoch = λ p h. g.epoch p (in_u p h) ∙ f.epoch p h;
      parent = λ p h. g.parent p (in_u p h) ∙ f.parent p h;
      voters = λ p i h w. g.voters p i (in_u p h) (f.voters p i h w);
    }
  where
    in_u : (p : ℕ) → p < size t → p < size u
    in_u p h = omega (arith, f.longer)

pub grown_append : (t : List Block) (b : Block) → Grown t (t ++ (b ∷ []))
grown_append t b =
    record {
      longer = omega (arith, size-append t b);
      name = λ p h. ap (λ (x : Block). x.name) (at-append t b p h);
      epoch = λ p h. ap (λ (x : Block). x.epoch.0) (at-append t b p h);
      parent = λ p h. ap (λ (x : Block). x.parent.0) (at-append t b p h);
      voters = λ p i h w. ap (λ (x : Block). has_voter x i) (at-append t b p h) ∙ w;
    }

-- one voter more: it is there, those that were there still are, and of the others nothing changed
pub voter_in : (b : Block) (i : ℕ) → i < length b.voters → has_voter (with_voter b i) i ≡ true
unfolding with_voter has_voter
voter_in b i h = get_or-set_same b.voters i true false h

pub voter_set : (l : List Bool) (i j : ℕ) → get_or l j false ≡ true → get_or (set l i true) j false ≡ true
voter_set [] i j w = w
voter_set (x ∷ l) zero zero w = refl
voter_set (x ∷ l) zero (suc j) w = w
voter_set (x ∷ l) (suc i) zero w = w
voter_set (x ∷ l) (suc i) (suc j) w = voter_set l i j w

pub voter_was : (b : Block) (i j : ℕ) → j ≢ i → has_voter (with_voter b i) j ≡ has_voter b j
unfolding with_voter has_voter
voter_was b i j d = get_or-set_other b.voters i j true false d

-- a row after a vote: the voted one with a voter more, or the row as it was
pub at-vote : (P : Block → Type 0) (t : List Block) (p i q : ℕ) → p < size t
    → (q ≡ p → P (with_voter (at t p) i)) → (q ≢ p → P (at t q)) → q < size t → P (at (set t p (with_voter (at t p) i)) q)
at-vote P t p i q l same other h =
    elim (ℕ_discrete q p) [
      | yes d ↦
          subst (λ (x : ℕ). P (at (set t p (with_voter (at t p) i)) x)) (sym d) (subst P (sym (at_set_same t p (with_voter (at t p) i) l)) (same d))
      | no d ↦ subst P (sym (at_set_other t p q (with_voter (at t p) i) h d)) (other d)
    ]

-- a part of the rows that a voter more leaves alone
pub part_vote : {A : Type 0} (f : Block → A) (t : List Block) (p i : ℕ) → p < size t → f (with_voter (at t p) i) ≡ f (at t p)
    → (q : ℕ) → q < size t → f (at (set t p (with_voter (at t p) i)) q) ≡ f (at t q)
part_vote f t p i l e q h =
    at-vote (λ (x : Block). f x ≡ f (at t q)) t p i q l (λ d. e ∙ ap (λ (a : ℕ). f (at t a)) (sym d)) (λ d. refl) h

pub grown_vote : (t : List Block) (p i : ℕ) → p < size t → Grown t (set t p (with_voter (at t p) i))
unfolding with_voter has_voter
grown_vote t p i l =
    record {
      longer = omega (arith, length-set t p (with_voter (at t p) i));
      name = part_vote (λ (x : Block). x.name) t p i l refl;
      epoch = part_vote (λ (x : Block). x.epoch.0) t p i l refl;
      parent = part_vote (λ (x : Block). x.parent.0) t p i l refl;
      voters =
          λ q j h w.
          at-vote (λ (x : Block). has_voter x j ≡ true) t p i q l
          (λ d. voter_set (at t p).voters i j (ap (λ (a : ℕ). has_voter (at t a) j) (sym d) ∙ w)) (λ d. w) h;
    }
