-- A call keeps a state well shaped, and the lengths of its lists. Assumes nothing.
use Prim.Native.Nat.{ℕ, suc, ◌≤◌, ◌<◌}
use mathlib.Core.Bool.{true}
use mathlib.Core.List.{List, [], ◌∷◌, ◌++◌}
use mathlib.Core.Logic.{◌≢◌, ◌⊎◌, inl, inr, ⊎_elim}
use mathlib.Core.Path.{◌≡◌, sym, ap, ap₂, subst, ◌∙◌}
use native.Mathlib.Decide.{dec_le}
use native.Mathlib.Omega.{arith}
use lib.ListN.{length, get_or, set}
use lib.Seq.{get_or-set_other}
use borrow.Author.Tests.{ltb-true}
use Rattle.table.specs.declared.Block.{Block}
use Rattle.table.specs.declared.Epoch.{Epoch}
use Rattle.table.specs.declared.State.{State}
use Rattle.table.specs.Bytes.{same, zeros}
use Rattle.table.specs.Rows.{capacity, most_nodes, blank, rows, size, at, has_voter, with_voter}
use Rattle.table.proofs.Laws.{pick-case, same_false}
use Rattle.pala.specs.Counts.{clock_of}
use Rattle.pala.specs.Rules.{epoch_at, candidate}
use Rattle.pala.specs.Shape.{voters_ok, block_ok, is_blank, well_shaped}
use Rattle.pala.specs.Effects.{laid, with_block, with_vote, with_clock, effect}
use Rattle.pala.specs.Steps.{new_local, new_kept, forward, settled}
use Rattle.pala.specs.Step.{step_shaped, room}
use Rattle.pala.proofs.Grown.{Grown, grown_epoch, grown_same, grown_append, grown_vote, at-append, at_last, at-vote, voter_was, laid_other, size-held, rows-block, rows-vote, rows-clock, length-block, length-vote}
use Rattle.pala.proofs.Shapes.{block-name, block_apart, block-parent, block-parent-epoch, block-epoch, block_voter, block_voters, block_of, voters_of, shaped-nodes, shaped-count, shaped-kept, shaped_local, shaped-clock, shaped-block, shaped-blank, shaped_of}
use Rattle.pala.proofs.Places.{candidate_in, votable_parts}
use Rattle.pala.proofs.Sized.{Sized, sized-block, sized-vote, sized-clock, sized-settled}
use Rattle.pala.proofs.Moves.{NewBlock, Did, added, counted, cast, clocked, Stepped, refused, took, stepped}

-- ---- blocks stay in order

-- places 1 to the number of blocks hold blocks in order
abbrev Blocks : ℕ → ℕ → List Block → Type 0
Blocks n held t = (p : ℕ) → 0 < p → p ≤ held → block_ok n t p ≡ true

-- in a table that grows, while the block's voters stay below n
grown_order :
    (n : ℕ) (t u : List Block) (p : ℕ) → Grown t u → p < size t → block_ok n t p ≡ true → voters_ok n (at u p) ≡ true → block_ok n u p ≡ true
grown_order n t u p g h o v =
    let low : (at t p).parent.0 < p = block-parent n t p o in
    let parent : (at u p).parent.0 ≡ (at t p).parent.0 = g.parent p h in
    let epoch : epoch_at u p ≡ epoch_at t p = grown_epoch g p h in
    let parent-epoch : epoch_at u (at u p).parent.0 ≡ epoch_at t (at t p).parent.0 = ap (epoch_at u) parent ∙ grown_epoch g (at t p).parent.0 (omega arith) in
    block_of n u p (ap zeros (g.name p h) ∙ block-name n t p o)
    (λ q l. ap₂ same (g.name q (omega arith)) (g.name p h) ∙ block_apart n t p o q l) (omega arith)
    (omega (arith, block-parent-epoch n t p o)) (omega (arith, block-epoch n t p o)) v

-- a new block, at the next place
new_order : (n : ℕ) (t : List Block) (b : Block) → NewBlock t b → block_ok n (t ++ (b ∷ [])) (size t) ≡ true
unfolding epoch_at
new_order n t b w =
    let u = t ++ (b ∷ []) in
    let it : at u (size t) ≡ b = at_last t b in
    let epoch : (at u (size t)).epoch.0 ≡ b.epoch.0 = ap (λ (x : Block). x.epoch.0) it in
    let parent : (at u (size t)).parent.0 ≡ b.parent.0 = ap (λ (x : Block). x.parent.0) it in
    let parent-epoch : (at u (at u (size t)).parent.0).epoch.0 ≡ (at t b.parent.0).epoch.0 =
    ap (λ (x : ℕ). (at u x).epoch.0) parent ∙ ap (λ (x : Block). x.epoch.0) (at-append t b b.parent.0 w.lower) in
    block_of n u (size t) (ap (λ (x : Block). zeros x.name) it ∙ w.named)
    (λ q l. ap₂ (λ (x y : Block). same x.name y.name) (at-append t b q l) it ∙ same_false (at t q).name b.name (w.alone q l))
    (omega (arith, w.lower)) (omega (arith, w.earlier)) (omega (arith, w.range))
    (voters_of n (at u (size t)) (λ i l m. ap (λ (x : Block). has_voter x i) it ∙ w.silent i))

append_order : (n held : ℕ) (t : List Block) (b : Block) → size t ≡ suc held → NewBlock t b → Blocks n held t → Blocks n (suc held) (t ++ (b ∷ []))
append_order n held t b e w old p pos l =
    elim (dec_le p held) [
      | yes m ↦
          let inside : p < size t = omega arith in
          grown_order n t (t ++ (b ∷ [])) p (grown_append t b) inside (old p pos m)
          (ap (voters_ok n) (at-append t b p inside) ∙ block_voters n t p (old p pos m))
      | no m ↦
          let last : size t ≡ p = omega arith in
          subst (λ (x : ℕ). block_ok n (t ++ (b ∷ [])) x ≡ true) last (new_order n t b w)
    ]

vote_order : (n held : ℕ) (t : List Block) (p i : ℕ) → size t ≡ suc held → 0 < p → p ≤ held → i < n → Blocks n held t → Blocks n held (set t p (with_voter (at t p) i))
vote_order n held t p i e above low below old q pos l =
    let inside : p < size t = omega arith in
    let voters : voters_ok n (with_voter (at t p) i) ≡ true =
    voters_of n (with_voter (at t p) i) (λ j k c. voter_was (at t p) i j (omega arith) ∙ block_voter n t p (old p above low) j k c) in
    grown_order n t (set t p (with_voter (at t p) i)) q (grown_vote t p i inside) (omega arith) (old q pos l)
    (at-vote (λ (x : Block). voters_ok n x ≡ true) t p i q inside (λ d. voters) (λ d. block_voters n t q (old q pos l)) (omega arith))

-- ---- unused places stay blank

abbrev Blanks : ℕ → List Block → Type 0
Blanks held blocks = (p : ℕ) → (p ≡ 0) ⊎ (held < p) → p ≤ capacity → is_blank (get_or blocks p blank) ≡ true

laid_blanks :
    (held after : ℕ) (l : List Block) (p : ℕ) (b : Block) → p < length l → 0 < p → p ≤ after → held ≤ after →
    Blanks held l → Blanks after (laid l p b)
laid_blanks held after l p b inside pos low more old q e =
    let apart : q ≢ p = ⊎_elim (λ (z : q ≡ 0). omega arith) (λ (z : after < q). omega arith) e in
    let free : (q ≡ 0) ⊎ (held < q) = ⊎_elim (λ (z : q ≡ 0). inl z) (λ (z : after < q). inr (omega arith)) e in
    λ m. ap is_blank (laid_other l p q b blank inside apart) ∙ old q free m

-- ---- clocks

abbrev Clocks : ℕ → List Epoch → Type 0
Clocks n clocks = (j : ℕ) → n ≤ j → j < most_nodes → clock_of clocks j ≡ 0

clock_keeps : (n : ℕ) (clocks : List Epoch) (i : ℕ) (c : Epoch) → i < n → Clocks n clocks → Clocks n (set clocks i c)
unfolding clock_of
clock_keeps n clocks i c below old j l m =
    ap (λ (x : Epoch). x.0) (get_or-set_other clocks i j c (record { 0 = 0 }) (omega arith)) ∙ old j l m

-- ---- the state after each effect

module _ (s : State) (places : length s.blocks ≡ suc capacity) (h : well_shaped s ≡ true) where
  inside : s.count < length s.blocks
  inside = omega (arith, shaped-count s h)

  -- the table has the root and each block held
  pub size-shaped : size (rows s) ≡ suc s.count
  size-shaped = size-held s inside

  low : {p : ℕ} → p < size (rows s) → p ≤ s.count
  low l = omega (arith, size-shaped)

  -- .. and then one row more, or one voter more in its row
  pub rows_added : (b : Block) (proposed : ℕ) → s.count < capacity → rows (with_block s b proposed) ≡ rows s ++ (b ∷ [])
  rows_added b proposed l = rows-block s b proposed (omega arith)

  pub rows_voted : (p i voted : ℕ) → p < size (rows s) → rows (with_vote s p i voted) ≡ set (rows s) p (with_voter (at (rows s) p) i)
  rows_voted p i voted l = rows-vote s p i voted (low l) inside

  shaped_block_more : (b : Block) (proposed : ℕ) → NewBlock (rows s) b → s.count < capacity → well_shaped (with_block s b proposed) ≡ true
  unfolding with_block
  shaped_block_more b proposed w l =
      let next : suc s.count < length s.blocks = omega arith in
      shaped_of (with_block s b proposed) (shaped-nodes s h) l (omega (arith, shaped-kept s h)) (shaped_local s h) (shaped-clock s h)
      (subst (Blocks s.n (suc s.count)) (sym (rows_added b proposed l))
      (append_order s.n s.count (rows s) b size-shaped w (shaped-block s h)))
      (laid_blanks s.count (suc s.count) s.blocks (suc s.count) b next (omega arith) (omega arith) (omega arith) (shaped-blank s h))

  shaped_vote_more : (p i voted : ℕ) → 0 < p → p < size (rows s) → i < s.n → well_shaped (with_vote s p i voted) ≡ true
  unfolding with_vote
  shaped_vote_more p i voted pos l below =
      shaped_of (with_vote s p i voted) (shaped-nodes s h) (shaped-count s h) (shaped-kept s h) (shaped_local s h) (shaped-clock s h)
      (subst (Blocks s.n s.count) (sym (rows_voted p i voted l))
      (vote_order s.n s.count (rows s) p i size-shaped pos (low l) below (shaped-block s h)))
      (laid_blanks s.count s.count s.blocks p (with_voter (at (rows s) p) i) (omega (arith, low l, inside)) pos (low l) (omega arith) (shaped-blank s h))

  shaped_clock_more : (i c : ℕ) → i < s.n → well_shaped (with_clock s i c) ≡ true
  unfolding with_clock rows
  shaped_clock_more i c below =
      shaped_of (with_clock s i c) (shaped-nodes s h) (shaped-count s h) (shaped-kept s h) (shaped_local s h)
      (clock_keeps s.n s.clocks i (record { 0 = c }) below (shaped-clock s h)) (shaped-block s h) (shaped-blank s h)

  -- "Then, always in this order": the local epoch doesn't fall, and what is kept is a block held
  shaped_settled : well_shaped (settled s) ≡ true
  unfolding settled rows new_local new_kept
  shaped_settled =
      shaped_of (settled s) (shaped-nodes s h) (shaped-count s h)
      (pick-case (λ (x : ℕ). x ≤ s.count) (forward s) (candidate s.n (rows s)) s.kept.0
      (λ _. omega (arith, candidate_in s.n (rows s) (omega (arith, size-shaped)), size-shaped)) (λ _. shaped-kept s h))
      (omega (arith, shaped_local s h)) (shaped-clock s h) (shaped-block s h) (shaped-blank s h)

-- ---- a call

-- fewer than "64 blocks held"
pub not_full : (held : ℕ) → room held ≡ true → held < capacity
unfolding room
not_full held l = ltb-true held capacity l

module _ (s : State) (places : length s.blocks ≡ suc capacity) (h : well_shaped s ≡ true) where
  below_own : s.own.0 < s.n
  below_own = (shaped-nodes s h).2

  pub step_did : (r out : List ℕ) → Stepped room s r out (step_shaped room s r out)
  step_did r out = stepped room s r out (omega (arith, size-shaped s places h)) below_own

  did_places : {r : List ℕ} {u : State} → Did room s r u → length u.blocks ≡ suc capacity
  unfolding with_clock
  did_places (added b proposed kind w l e) =
      ap (λ (x : State). length x.blocks) e ∙ length-block s b proposed (omega (arith, not_full s.count l)) ∙ places
  did_places (counted kind pos l below other e) =
      ap (λ (x : State). length x.blocks) e ∙ length-vote s _ _ _ (omega (arith, low s places h l, inside s places h)) ∙ places
  did_places (cast kind l v e) =
      ap (λ (x : State). length x.blocks) e ∙ length-vote s _ _ _ (omega (arith, low s places h l, inside s places h)) ∙ places
  did_places (clocked i c k2 k5 below e) = ap (λ (x : State). length x.blocks) e ∙ places

  did_shaped : {r : List ℕ} {u : State} → Did room s r u → well_shaped u ≡ true
  did_shaped (added b proposed kind w l e) = ap well_shaped e ∙ shaped_block_more s places h b proposed w (not_full s.count l)
  did_shaped (counted kind pos l below other e) = ap well_shaped e ∙ shaped_vote_more s places h _ _ _ pos l below
  did_shaped (cast kind l v e) = ap well_shaped e ∙ shaped_vote_more s places h _ _ _ (votable_parts _ _ _ _ _ _ v).above l below_own
  did_shaped (clocked i c k2 k5 below e) = ap well_shaped e ∙ shaped_clock_more s places h i c below

  -- the table only grows
  pub did_grows : {r : List ℕ} {u : State} → Did room s r u → Grown (rows s) (rows u)
  did_grows (added b proposed kind w l e) =
      subst (Grown (rows s)) (sym (ap rows e ∙ rows_added s places h b proposed (not_full s.count l))) (grown_append (rows s) b)
  did_grows (counted kind pos l below other e) = subst (Grown (rows s)) (sym (ap rows e ∙ rows_voted s places h _ _ _ l)) (grown_vote (rows s) _ _ l)
  did_grows (cast kind l v e) = subst (Grown (rows s)) (sym (ap rows e ∙ rows_voted s places h _ _ _ l)) (grown_vote (rows s) _ _ l)
  did_grows (clocked i c k2 k5 below e) = subst (Grown (rows s)) (sym (ap rows e ∙ rows-clock s i c)) (grown_same (rows s))

  did_sized : {r : List ℕ} {u : State} → Sized s → Did room s r u → Sized u
  did_sized z (added b proposed kind w l e) = subst Sized (sym e) (sized-block s z b proposed w.sized (not_full s.count l))
  did_sized z (counted kind pos l below other e) = subst Sized (sym e) (sized-vote s z _ _ _ (low s places h l) (shaped-count s h))
  did_sized z (cast kind l v e) = subst Sized (sym e) (sized-vote s z _ _ _ (low s places h l) (shaped-count s h))
  did_sized z (clocked i c k2 k5 below e) = subst Sized (sym e) (sized-clock s z i c)

-- of the lengths only that of the rows is needed
pub step-shaped : (s : State) (r out : List ℕ) → length s.blocks ≡ suc capacity → well_shaped s ≡ true → well_shaped (step_shaped room s r out).state ≡ true
step-shaped s r out places h = go (step_did s places h r out)
  where
    go : Stepped room s r out (step_shaped room s r out) → well_shaped (step_shaped room s r out).state ≡ true
    go (refused a e) = ap well_shaped e ∙ h
    go (took a p d e) = ap well_shaped e ∙ shaped_settled (effect s r) (did_places s places h d) (did_shaped s places h d)

pub step-places : (s : State) (r out : List ℕ) → length s.blocks ≡ suc capacity → well_shaped s ≡ true → length (step_shaped room s r out).state.blocks ≡ suc capacity
unfolding settled
step-places s r out places h = go (step_did s places h r out)
  where
    go : Stepped room s r out (step_shaped room s r out) → length (step_shaped room s r out).state.blocks ≡ suc capacity
    go (refused a e) = ap (λ (x : State). length x.blocks) e ∙ places
    go (took a p d e) = ap (λ (x : State). length x.blocks) e ∙ did_places s places h d

pub step-sized : (s : State) (r out : List ℕ) → Sized s → well_shaped s ≡ true → Sized (step_shaped room s r out).state
step-sized s r out z h = go (step_did s z.blocks h r out)
  where
    go : Stepped room s r out (step_shaped room s r out) → Sized (step_shaped room s r out).state
    go (refused a e) = subst Sized (sym e) z
    go (took a p d e) = subst Sized (sym e) (sized-settled (effect s r) (did_sized s z.blocks h z d))

-- a state of the code that is well shaped: what a call keeps
pub record Proper (s : State) : Type 0 where
  pub sized : Sized s
  pub shaped : well_shaped s ≡ true

pub size_proper : {s : State} → Proper s → size (rows s) ≡ suc s.count
size_proper {s} k = size-shaped s k.sized.blocks k.shaped

pub some-rows : {s : State} → Proper s → 0 < size (rows s)
some-rows k = omega (arith, size_proper k)

pub step_keeps : (s : State) (r out : List ℕ) → Proper s → Proper (step_shaped room s r out).state
step_keeps s r out k =
    record { sized = step-sized s r out k.sized k.shaped; shaped = step-shaped s r out k.sized.blocks k.shaped }
