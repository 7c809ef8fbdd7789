-- The clock kept from a node: past the clocks there is none. Assumes nothing.
use Rattle.pala.specs.Counts.{clock_of}
use Rattle.std.specs.Option.{unwrap_or}
use Rattle.std.specs.Prelude.{Option}
use Rattle.table.specs.declared.Epoch.{Epoch}
use mathlib.Core.Path.{ap, ◌∙◌}
use native.Mathlib.Nat.{le_refl}
use Rattle.node.proofs.judges.clock_from.Goals as goal

pub returns : goal.returns
unfolding clock_of
returns c =
    ap (λ (e : Epoch). e.0)
    (c.unwrap_or.ensures
    ∙ ap (λ (o : Option Epoch). unwrap_or o (record { 0 = 0 })) c.copied.ensures
    ∙ c.get.ensures.lookup.4 (le_refl _) (record { 0 = 0 }))
