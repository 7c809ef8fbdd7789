-- Each public function's promise, as its contract states it, admits one outcome. Assumes nothing.
use mathlib.Core.Path.{◌≡◌}
use Rattle.table.proofs.Laws.{one-outcome}
use Rattle.shape.proofs.well_shaped.Reads as well_shaped
use Rattle.shape.proofs.nodes.Reads as nodes
use Rattle.shape.proofs.shaped.Shaped.new.Reads as shaped

well_shaped_one : (κs : _) (a : _) (r q : _) (s t : _) → well_shaped.Post κs a r s → well_shaped.Post κs a q t → r ≡ q
well_shaped_one κs a r q s t = one-outcome

nodes_one : (κs : _) (a : _) (r q : _) (s t : _) → nodes.Post κs a r s → nodes.Post κs a q t → r ≡ q
nodes_one κs a r q s t = one-outcome

shaped_one : (κs : _) (a : _) (r q : _) (s t : _) → shaped.Post κs a r s → shaped.Post κs a q t → r ≡ q
shaped_one κs a r q s t = one-outcome
