-- A final list read into a room for the longest. Assumes nothing.
use Prim.Native.Nat.{ℕ, ◌*◌}
use Rattle.hall.proofs.Agreeing.{Whole, whole_list}
use Rattle.pala.specs.Lists.{final_names}
use Rattle.pala.specs.Shape.{well_shaped}
use Rattle.std.proofs.Common.{length, take}
use lib.ListN.{length-replicate}
use Rattle.table.specs.Rows.{name_bytes}
use Rattle.table.specs.declared.State.{State}
use mathlib.Core.Bool.{true}
use mathlib.Core.Path.{◌≡◌, refl, ap, subst, ◌∙◌}
use native.Mathlib.Omega.{arith}
use Rattle.hall.proofs.chains.List.of.Goals as goal
use Rattle.hall.proofs.chains.List.of.Goals.{After-final_list_shaped}

read : (c : After-final_list_shaped) → Whole c.args.s.now c.final_list_shaped.new.list c.final_list_shaped.result
read c =
    let shaped : well_shaped c.args.s.now ≡ true = subst (λ (s : State). well_shaped s ≡ true) c.s.view_is c.s.invariant in
    whole_list c.args.s.now _ _ _ shaped (length-replicate {A = ℕ} 2048 0) c.final_list_shaped.auto.list c.final_list_shaped.ensures.answer c.final_list_shaped.ensures.list

-- the count that is unwrapped
counted : (c : goal.After-unwrap-count) → Whole c.args.s.now c.final_list_shaped.new.list c.final_list_shaped.result → c.unwrap-count.result ≡ length (final_names c.args.s.now)
counted c w = let e = w.count in cc

pub unwrap-count-requires : goal.unwrap-count-requires
unwrap-count-requires c = rw (read (goal.at.unwrap-count-requires c).After-final_list_shaped).count refl

pub invariant_of-result : goal.invariant_of-result
invariant_of-result c =
    let w = read (goal.at.invariant_of-result c).After-final_list_shaped in
    record { within = omega (arith, counted c w, w.few) }

pub returns : goal.returns
returns c =
    let w = read (goal.at.returns c).After-final_list_shaped in
    ap (λ (n : ℕ). take (name_bytes * n) c.final_list_shaped.new.list) (counted c.before w) ∙ w.names
