-- What stands at a place of a table: it stays as the table grows, and a block that comes is what its record says. Assumes nothing.
use Prim.Native.Nat.{ℕ, suc, ◌<◌}
use mathlib.Core.Bool.{true}
use mathlib.Core.List.{List, [], ◌∷◌, ◌++◌}
use mathlib.Core.Logic.{◌⊎◌, inl, inr}
use mathlib.Core.Path.{◌≡◌, refl, sym, ap, subst, ◌∙◌}
use native.Mathlib.Omega.{arith}
use lib.ListN.{length}
use Rattle.table.specs.declared.Block.{Block}
use Rattle.table.specs.declared.State.{State}
use Rattle.table.specs.Rows.{rows, size, at, find}
use Rattle.table.proofs.Laws.{pick_yes, pick_no}
use Rattle.pala.specs.Effects.{new_block, with_block, proposal_effect, propose_effect, effect}
use Rattle.pala.specs.Record.{epoch_of, name_of, parent_name_of, payload_of, is, proposal_heard, vote_heard, clock_heard, propose_now}
use Rattle.pala.specs.Rules.{epoch_at, parent_of, freshest}
use Rattle.pala.specs.Safety.{Held, Book, Fits}
use Rattle.pala.specs.Steps.{settled}
use Rattle.pala.proofs.Grown.{Grown, grown_parent, grown_epoch, size-append, at-append, at_last, rows_settled}
use Rattle.pala.proofs.Keeps.{Proper, size_proper, rows_added}
use Rattle.pala.proofs.Moves.{other_kind}
use Rattle.pala.proofs.Places.{find-named, parent_below, parent_is}
use Rattle.pala.proofs.Shapes.{block-parent, shaped-count, shaped-block}
use Rattle.accord.specs.Rulings.{Content, content_of}

-- what demand 3's book has under a name
abbrev pub Entry : Type 0
Entry = record { epoch : ℕ; parent : List ℕ }

-- at place p stands a block of that name, as the entry has it
pub record Stands (t : List Block) (p : ℕ) (x : List ℕ) (c : Entry) : Type 0 where
  pub held : Held t p
  pub named : (at t p).name ≡ x
  pub epoch : epoch_at t p ≡ c.epoch
  pub parent : (at t (parent_of t p)).name ≡ c.parent

-- a place has one entry
pub stands_one : {t : List Block} {p : ℕ} {x y : List ℕ} {c d : Entry} → Stands t p x c → Stands t p y d → (x ≡ y) × (c ≡ d)
stands_one {c} {d} v w =
    let e : c.epoch ≡ d.epoch = sym v.epoch ∙ w.epoch in
    let f : c.parent ≡ d.parent = sym v.parent ∙ w.parent in
    (sym v.named ∙ w.named, λ i. record { epoch = e i; parent = f i })

-- a block is the book's where the book has its entry
pub stands_fits : {book : Book} {t : List Block} {p : ℕ} {x : List ℕ} {c : Entry} → Stands t p x c → book x ≡ c → Fits book t p
stands_fits {book} v e =
    record {
      epoch = v.epoch ∙ ap (λ (z : Entry). z.epoch) (sym e) ∙ ap (λ y. (book y).epoch) (sym v.named);
      parent = v.parent ∙ ap (λ (z : Entry). z.parent) (sym e) ∙ ap (λ y. (book y).parent) (sym v.named);
    }

-- ---- a table that grows

module _ {t u : List Block} (g : Grown t u) (p : ℕ) (h : Held t p) where
  parent-name : (at u (parent_of u p)).name ≡ (at t (parent_of t p)).name
  parent-name =
      ap (λ q. (at u q).name) (grown_parent g p h.1) ∙ g.name (parent_of t p) (omega (arith, parent_below t p h.0))

  pub grown_stands : {x : List ℕ} {c : Entry} → Stands t p x c → Stands u p x c
  grown_stands v =
      record {
        held = (h.0, omega (arith, g.longer));
        named = g.name p h.1 ∙ v.named;
        epoch = grown_epoch g p h.1 ∙ v.epoch;
        parent = parent-name ∙ v.parent;
      }

  pub grown_stood : {x : List ℕ} {c : Entry} → Stands u p x c → Stands t p x c
  grown_stood v =
      record {
        held = h;
        named = sym (g.name p h.1) ∙ v.named;
        epoch = sym (grown_epoch g p h.1) ∙ v.epoch;
        parent = sym parent-name ∙ v.parent;
      }

-- ---- a block that comes

-- the book has no payload
abbrev pub entry : Content → Entry
entry c = record { epoch = c.epoch; parent = c.parent }

-- kinds 1 and 4
abbrev pub Adds : List ℕ → Type 0
Adds r = (is proposal_heard r ≡ true) ⊎ (is propose_now r ≡ true)

module _ (s : State) (r : List ℕ) where
  effect-heard : is proposal_heard r ≡ true → effect s r ≡ proposal_effect s r
  unfolding effect
  effect-heard k = pick_yes (is proposal_heard r) _ _ k

  effect_now : is propose_now r ≡ true → effect s r ≡ propose_effect s r
  unfolding effect
  effect_now k =
      pick_no (is proposal_heard r) _ _ (other_kind r propose_now proposal_heard k refl)
      ∙ pick_no (is vote_heard r) _ _ (other_kind r propose_now vote_heard k refl)
      ∙ pick_no (is clock_heard r) _ _ (other_kind r propose_now clock_heard k refl)
      ∙ pick_yes (is propose_now r) _ _ k

-- a block added stands at the last place, on the row that it names as its parent
module _ {s u : State} (k : Proper s) (after : Proper (settled u)) (b : Block) (proposed : ℕ) (e : u ≡ with_block s b proposed) where
  count-is : u.count ≡ suc s.count
  unfolding with_block
  count-is = ap (λ (x : State). x.count) e

  place_is : u.count ≡ size (rows s)
  place_is = count-is ∙ sym (size_proper k)

  rows_are : rows u ≡ rows s ++ (b ∷ [])
  unfolding settled
  rows_are =
      ap rows e ∙ rows_added s k.sized.blocks k.shaped b proposed (omega (arith, count-is, shaped-count (settled u) after.shaped))

  row_is : at (rows u) u.count ≡ b
  row_is = ap (at (rows u)) place_is ∙ ap (λ (t : List Block). at t (size (rows s))) rows_are ∙ at_last (rows s) b

  up_is : (at (rows u) u.count).parent.0 < u.count
  unfolding settled
  up_is =
      subst (λ (t : List Block). (at t u.count).parent.0 < u.count) (rows_settled u)
      (block-parent (settled u).n (rows (settled u)) u.count
      (shaped-block (settled u) after.shaped u.count (omega (arith, count-is)) (omega arith)))

  lower : b.parent.0 < size (rows s)
  lower = omega (arith, up_is, ap (λ (x : Block). x.parent.0) row_is, place_is)

  pub added_stands : Stands (rows u) u.count b.name (record { epoch = b.epoch.0; parent = (at (rows s) b.parent.0).name })
  unfolding epoch_at
  added_stands =
      record {
        held = (omega (arith, count-is), omega (arith, ap length rows_are, size-append (rows s) b, place_is));
        named = ap (λ (x : Block). x.name) row_is;
        epoch = ap (λ (x : Block). x.epoch.0) row_is;
        parent =
            ap (λ q. (at (rows u) q).name) (parent_is (rows u) u.count up_is ∙ ap (λ (x : Block). x.parent.0) row_is)
            ∙ ap (λ (t : List Block). (at t b.parent.0).name) rows_are
            ∙ ap (λ (x : Block). x.name) (at-append (rows s) b b.parent.0 lower);
      }

-- a block that a record adds is what the record says
pub new_stands : {s : State} → Proper s → (r : List ℕ) → Proper (settled (effect s r)) → Adds r
    → Stands (rows (effect s r)) (effect s r).count (name_of r) (entry (content_of s r))
unfolding proposal_effect propose_effect new_block content_of
new_stands {s} k r after (inl kind) =
    subst (Stands (rows (effect s r)) (effect s r).count (name_of r))
    (ap (λ x. record { epoch = epoch_of r; parent = x }) (find-named (rows s) (parent_name_of r) (lower k after b s.proposed.0 (effect-heard s r kind)))
    ∙ ap entry (sym (pick_yes (is proposal_heard r) _ _ kind)))
    (added_stands k after b s.proposed.0 (effect-heard s r kind))
  where
    b : Block
    b = new_block (name_of r) (epoch_of r) (find (rows s) (parent_name_of r)) (payload_of r)
new_stands {s} k r after (inr kind) =
    subst (Stands (rows (effect s r)) (effect s r).count (name_of r))
    (ap entry (sym (pick_no (is proposal_heard r) _ _ (other_kind r propose_now proposal_heard kind refl))))
    (added_stands k after b s.local.0 (effect_now s r kind))
  where
    b : Block
    b = new_block (name_of r) s.local.0 (freshest s.n (rows s)) (payload_of r)
