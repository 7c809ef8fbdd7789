-- The five steps from where a state stands, and that after a taken record there is an epoch above the freshest one. Assumes nothing.
use Prim.Native.Nat.{ℕ, suc, ◌+◌, ◌≤◌, ◌<◌, max}
use mathlib.Core.Bool.{Bool, true, false, not, ◌||◌}
use mathlib.Core.List.{List}
use mathlib.Core.Logic.{⊎_elim}
use mathlib.Core.Path.{◌≡◌, refl, sym, ap, ◌∙◌}
use native.Mathlib.Omega.{arith}
use lib.Dec.{ltb}
use lib.ListN.{length}
use Rattle.table.specs.declared.Epoch.{Epoch}
use Rattle.table.specs.declared.Place.{Place}
use Rattle.table.specs.declared.State.{State}
use Rattle.table.specs.Scan.{pick}
use Rattle.table.specs.Rows.{capacity, rows, size}
use Rattle.table.proofs.Laws.{pick_yes, size-rows, highest-passes}
use Rattle.pala.specs.Answers.{taken, lowest_of, shaped_rows}
use Rattle.pala.specs.Counts.{top_epoch}
use Rattle.pala.specs.Effects.{effect}
use Rattle.pala.specs.Rules.{epoch_at, firm, freshest}
use Rattle.pala.specs.Shape.{well_shaped}
use Rattle.pala.specs.Step.{room, outcome, step_shaped}
use Rattle.pala.specs.Steps.{fresh_epoch, new_local, new_bar, new_kept, new_torn, settled}
use Rattle.pala.proofs.Keeps.{step-shaped}
use Rattle.pala.proofs.Shapes.{shaped-epoch}
use Rattle.rules.specs.declared.Standing.{Standing}
use Rattle.rules.proofs.Shown.{standing}

-- ---- the steps

-- a state with what the steps make of where it stands
abbrev pub stepped : State → Standing → ℕ → Epoch → Place → State
stepped s x local bar kept =
    record {
      blocks = s.blocks;
      clocks = s.clocks;
      n = s.n;
      own = s.own;
      local = record { 0 = local };
      bar = bar;
      voted = s.voted;
      proposed = s.proposed;
      count = s.count;
      kept = kept;
      torn = s.torn || not (x.forward || x.back);
    }

-- a choice of two wrapped numbers
epoch_pick : (b : Bool) (x y : Epoch) → pick b x y ≡ record { 0 = pick b x.0 y.0 }
unfolding pick
epoch_pick true x y = refl
epoch_pick false x y = refl

place_pick : (b : Bool) (x y : Place) → pick b x y ≡ record { 0 = pick b x.0 y.0 }
unfolding pick
place_pick true x y = refl
place_pick false x y = refl

module _ (s : State) where
  -- "the greatest of the old one, the freshest epoch + 1, and the number c"
  local_is : max (standing s).clock.0 ((standing s).fresh.0 + 1) ≡ new_local s
  unfolding standing new_local
  local_is = omega arith

  stood : stepped s (standing s) (new_local s) (pick (ltb s.local.0 (new_local s)) (standing s).fresh s.bar) (pick (standing s).forward (standing s).candidate s.kept) ≡ settled s
  unfolding standing settled new_bar new_kept new_torn
  stood =
      ap (λ (x : Epoch). stepped s (standing s) (new_local s) x (pick (standing s).forward (standing s).candidate s.kept)) (epoch_pick (ltb s.local.0 (new_local s)) (standing s).fresh s.bar)
      ∙ ap (λ (x : Place). stepped s (standing s) (new_local s) (record { 0 = new_bar s }) x) (place_pick (standing s).forward (standing s).candidate s.kept)

  pub settles : (x : Standing) (local : ℕ) {bar : Epoch} {kept : Place} → x ≡ standing s →
      local ≡ max x.clock.0 (x.fresh.0 + 1) → bar ≡ pick (ltb s.local.0 local) x.fresh s.bar → kept ≡ pick x.forward x.candidate s.kept →
      stepped s x local bar kept ≡ settled s
  settles x local {bar} {kept} e l b k =
      let new : local ≡ new_local s = l ∙ ap (λ (y : Standing). max y.clock.0 (y.fresh.0 + 1)) e ∙ local_is in
      ap (λ (y : Epoch). stepped s x local y kept) b
      ∙ ap (λ (y : Place). stepped s x local (pick (ltb s.local.0 local) x.fresh s.bar) y) k
      ∙ ap (λ (y : ℕ). stepped s x y (pick (ltb s.local.0 y) x.fresh s.bar) (pick x.forward x.candidate s.kept)) new
      ∙ ap (λ (y : Standing). stepped s y (new_local s) (pick (ltb s.local.0 (new_local s)) y.fresh s.bar) (pick y.forward y.candidate s.kept)) e
      ∙ stood

-- ---- the freshest epoch

-- the freshest block is one of those held, or the root
fresh-held : (s : State) → freshest s.n (rows s) ≤ s.count
unfolding freshest
fresh-held s =
    ⊎_elim (λ (e : freshest s.n (rows s) ≡ 0). omega arith)
    (λ (e : (freshest s.n (rows s) < size (rows s)) × (firm s.n (rows s) (freshest s.n (rows s)) ≡ true)). omega (arith, size-rows s))
    (highest-passes (size (rows s)) (λ p. firm s.n (rows s) p) (λ p. epoch_at (rows s) p))

pub fresh_below : (s : State) → well_shaped s ≡ true → fresh_epoch s < top_epoch
unfolding fresh_epoch
fresh_below s h = shaped-epoch s h (freshest s.n (rows s)) (fresh-held s)

-- the steps leave the table as it is
settled_below : (s : State) → well_shaped (settled s) ≡ true → fresh_epoch s < top_epoch
unfolding settled rows fresh_epoch
settled_below s h = fresh_below (settled s) h

-- after the direct effect of a taken record it still has an epoch above it
pub effect-fresh :
    (s : State) (r out : List ℕ) → length s.blocks ≡ suc capacity → well_shaped s ≡ true →
    taken (lowest_of (shaped_rows room s r out)) ≡ true → fresh_epoch (effect s r) < top_epoch
unfolding step_shaped outcome
effect-fresh s r out l h t =
    settled_below (effect s r)
    (ap well_shaped (sym (pick_yes (taken (lowest_of (shaped_rows room s r out))) (settled (effect s r)) s t)) ∙ step-shaped s r out l h)
