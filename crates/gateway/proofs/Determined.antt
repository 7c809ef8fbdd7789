-- Each public function's promise, as its contract states it, admits one outcome: answer, state and every byte. Assumes nothing.
use mathlib.Core.Path.{◌≡◌, ap}
use Rattle.gateway.proofs.oanhvidet_relation.Reads as oanhvidet_relation
use Rattle.gateway.proofs.oanhvidet_run.Reads as oanhvidet_run
use Rattle.pala.specs.Run.{Ran}
use Rattle.table.proofs.Laws.{one-outcome}

oanhvidet_relation_one : (κs : _) (a : _) (r q : _) (s t : _) → oanhvidet_relation.Post κs a r s → oanhvidet_relation.Post κs a q t → r ≡ q
oanhvidet_relation_one κs a r q s t = one-outcome

oanhvidet_run_one : (κs : _) (a : _) (r q : _) (s t : _) → oanhvidet_run.Post κs a r s → oanhvidet_run.Post κs a q t → (r ≡ q) × (s.1.1.1.0.now ≡ t.1.1.1.0.now)
oanhvidet_run_one κs a r q s t p h =
    (ap (λ (o : Ran). o.code) (one-outcome p h), ap (λ (o : Ran). o.list) (one-outcome p h))
