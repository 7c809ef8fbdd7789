-- Why final chains agree, over any names: a root, and each name's epoch and parent. Assumes nothing.
use Prim.Native.Nat.{ℕ, ◌+◌, ◌≤◌, ◌<◌}
use mathlib.Core.List.{List, [], ◌∷◌, ◌++◌, append-nil, append_assoc}
use mathlib.Core.Logic.{◌⊎◌, inl, inr}
use mathlib.Core.Path.{◌≡◌, refl, sym, ap, ◌∙◌}
use native.Mathlib.Decide.{dec_le}
use native.Mathlib.Omega.{arith}

-- the second list goes on from the first
abbrev pub Goes : {X : Type 0} → List X → List X → Type 0
Goes {X} l m = (rest : List X) × (m ≡ l ++ rest)

module _ {X : Type 0} (root : X) (epoch : X → ℕ) (parent : X → X) where
  -- x is a or descends from it; each step down goes to a smaller epoch
  pub data On (a : X) : X → Type 0 where
    here : On a a
    up : {x : X} → epoch (parent x) < epoch x → On a (parent x) → On a x

  -- the names from the first after the root to x
  pub data Chain : X → List X → Type 0 where
    none : Chain root []
    more : {x : X} {l : List X} → epoch (parent x) < epoch x → Chain (parent x) l → Chain x (l ++ (x ∷ []))

  -- x and every ancestor up to the root is notarized, the root by decree
  pub data Firm (Notarized : X → Type 0) : X → Type 0 where
    decreed : Firm Notarized root
    next : {x : X} → epoch (parent x) < epoch x → Notarized x → Firm Notarized (parent x) → Firm Notarized x

  -- what the votes of honest numbers keep to, at lag k
  pub record Keeps (k : ℕ) (Voted : ℕ → X → Type 0) (Notarized : X → Type 0) : Type 0 where
    -- two notarized names share an honest voter
    pub shares : {x y : X} → Notarized x → Notarized y → (i : ℕ) × Voted i x × Voted i y
    -- one epoch, one vote
    pub once : {i : ℕ} {x y : X} → Voted i x → Voted i y → epoch x ≡ epoch y → x ≡ y
    -- a vote more than k epochs later has no staler parent
    pub monotone : {i : ℕ} {x y : X} → Voted i x → Voted i y → epoch x + k < epoch y → epoch (parent x) ≤ epoch (parent y)

  -- final at lag k: firm, and in each of the k + 1 epochs after its own stands a notarized block on it
  pub record Final (k : ℕ) (Notarized : X → Type 0) (x : X) : Type 0 where
    pub firm : Firm Notarized x
    pub covered : (c : ℕ) → epoch x < c → c ≤ epoch x + 1 + k → (z : X) × Notarized z × (epoch z ≡ c) × On x z

  -- what a node may keep: the root, or a final block
  abbrev pub Kept : ℕ → (X → Type 0) → X → Type 0
  Kept k Notarized x = (x ≡ root) ⊎ Final k Notarized x

  -- the parent of a notarized normal block, where it is firm, is final at lag 0
  pub normal_final : {Notarized : X → Type 0} {x y : X}
      → Firm Notarized x → Notarized y → parent y ≡ x → epoch y ≡ epoch x + 1 → Final 0 Notarized x
  normal_final {x = x} {y} f ny p e =
      record {
        firm = f;
        covered = λ c above top. (y, ny, omega arith, up {x = y} (rw p (omega arith)) (rw p here));
      }

  -- epochs don't fall on the way up
  pub on_epoch : {a x : X} → On a x → epoch a ≤ epoch x
  on_epoch here = omega arith
  on_epoch (up g o) = omega (arith, on_epoch o)

  -- what is on a and later has a parent no earlier than a
  on_parent : {a x : X} → On a x → epoch a < epoch x → epoch a ≤ epoch (parent x)
  on_parent here h = absurd (omega arith)
  on_parent (up g o) h = on_epoch o

  -- a chain starts at the root, so none leads back to it
  chain_epoch : {x : X} {l : List X} → Chain x l → epoch root ≤ epoch x
  chain_epoch none = omega arith
  chain_epoch (more g c) = omega (arith, chain_epoch c)

  -- a name has one chain
  pub chain_one : {x y : X} {l m : List X} → x ≡ y → Chain x l → Chain y m → l ≡ m
  chain_one e none none = refl
  chain_one e none (more g d) = absurd (omega (arith, ap epoch e, chain_epoch d))
  chain_one e (more g c) none = absurd (omega (arith, ap epoch e, chain_epoch c))
  chain_one e (more g c) (more h d) = cc (chain_one (ap parent e) c d)

  -- the chain of what is on a begins with the chain of a
  pub begins : {a x : X} {l m : List X} → On a x → Chain a l → Chain x m → Goes l m
  begins {l = l} here c d = ([], chain_one refl d c ∙ sym (append-nil l))
  begins (up g o) c none = absurd (omega (arith, on_epoch o, chain_epoch c))
  begins {x = x} {l} (up g o) c (more h d) =
      let (rest, e) = begins o c d in
      (rest ++ (x ∷ []), ap (λ (s : List X). s ++ (x ∷ [])) e ∙ append_assoc l rest (x ∷ []))

  module _ {Notarized : X → Type 0} where
    -- no firm block is earlier than the root
    firm-epoch : {x : X} → Firm Notarized x → epoch root ≤ epoch x
    firm-epoch decreed = omega arith
    firm-epoch (next g n f) = omega (arith, firm-epoch f)

    -- a firm block no later than the root is the root
    firm_root : {x : X} → Firm Notarized x → epoch x ≤ epoch root → x ≡ root
    firm_root decreed h = refl
    firm_root (next g n f) h = absurd (omega (arith, firm-epoch f))

    -- a firm block later than the root is notarized
    firm-notarized : {x : X} → Firm Notarized x → epoch root < epoch x → Notarized x
    firm-notarized decreed h = absurd (omega arith)
    firm-notarized (next g n f) h = n

    -- every firm block is on the root
    pub root_below : {x : X} → Firm Notarized x → On root x
    root_below decreed = here
    root_below (next g n f) = up g (root_below f)

    -- a kept block is firm
    pub kept-firm : {k : ℕ} {x : X} → Kept k Notarized x → Firm Notarized x
    kept-firm (inl e) = rw e decreed
    kept-firm (inr f) = f.firm

  module _ {k : ℕ} {Voted : ℕ → X → Type 0} {Notarized : X → Type 0} (keeps : Keeps k Voted Notarized) where
    -- one epoch, one notarized block
    pub one-notarized : {x y : X} → Notarized x → Notarized y → epoch x ≡ epoch y → x ≡ y
    one-notarized n m e = let (i, v, w) = keeps.shares n m in keeps.once v w e

    -- a firm block no earlier than a final one is on it
    pub final_below : {x z : X} → Final k Notarized x → Firm Notarized z → epoch x ≤ epoch z → On x z
    final_below f decreed h = rw (firm_root f.firm h) here
    final_below {x} {z} f (next g n fz) h =
        elim (dec_le (epoch z) (epoch x)) [
          | yes same ↦ rw (one-notarized (firm-notarized f.firm (omega (arith, firm-epoch fz))) n (omega arith)) here
          | no later ↦
              elim (dec_le (epoch z) (epoch x + 1 + k)) [
                | yes near ↦ let (w, m, e, o) = f.covered (epoch z) (omega arith) near in rw (one-notarized m n e) at o
                | no far ↦
                    let (y, m, e, o) = f.covered (epoch x + 1) (omega arith) (omega arith) in
                    let (i, v, w) = keeps.shares m n in
                    up g (final_below f fz (omega (arith, on_parent o (omega arith), keeps.monotone v w (omega arith))))
              ]
        ]

    -- a firm block no earlier than a kept one is on it
    pub kept_below : {x z : X} → Kept k Notarized x → Firm Notarized z → epoch x ≤ epoch z → On x z
    kept_below (inl e) fz h = rw e (root_below fz)
    kept_below (inr f) fz h = final_below f fz h

    -- of two kept blocks one is on the other
    pub in_line : {x y : X} → Kept k Notarized x → Kept k Notarized y → On x y ⊎ On y x
    in_line {x} {y} kx ky =
        elim (dec_le (epoch x) (epoch y)) [
          | yes h ↦ inl (kept_below kx (kept-firm ky) h)
          | no h ↦ inr (kept_below ky (kept-firm kx) (omega arith))
        ]

    -- of the chains of two kept blocks one begins the other
    pub chains_agree : {x y : X} {l m : List X} → Kept k Notarized x → Kept k Notarized y → Chain x l → Chain y m
        → Goes l m ⊎ Goes m l
    chains_agree kx ky cx cy =
        elim (in_line kx ky) [ inl o ↦ inl (begins o cx cy) | inr o ↦ inr (begins o cy cx) ]
