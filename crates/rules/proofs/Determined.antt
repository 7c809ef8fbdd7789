-- Each public function's promise, as its contract states it, admits one outcome. Assumes nothing.
use mathlib.Core.Path.{◌≡◌}
use Rattle.table.proofs.Laws.{one-outcome}
use Rattle.rules.proofs.quorum.enough.Reads as enough
use Rattle.rules.proofs.columns.columns_of.Reads as columns_of
use Rattle.rules.proofs.steps.freshest.Reads as freshest
use Rattle.rules.proofs.steps.ballot.Reads as ballot
use Rattle.rules.proofs.steps.standing.Reads as standing

enough_one : (κs : _) (a : _) (r q : _) (s t : _) → enough.Post κs a r s → enough.Post κs a q t → r ≡ q
enough_one κs a r q s t = one-outcome

columns_of_one : (κs : _) (a : _) (r q : _) (s t : _) → columns_of.Post κs a r s → columns_of.Post κs a q t → r ≡ q
columns_of_one κs a r q s t x y = one-outcome x.0 y.0

freshest_one : (κs : _) (a : _) (r q : _) (s t : _) → freshest.Post κs a r s → freshest.Post κs a q t → r ≡ q
freshest_one κs a r q s t = one-outcome

ballot_one : (κs : _) (a : _) (r q : _) (s t : _) → ballot.Post κs a r s → ballot.Post κs a q t → r ≡ q
ballot_one κs a r q s t = one-outcome

standing_one : (κs : _) (a : _) (r q : _) (s t : _) → standing.Post κs a r s → standing.Post κs a q t → r ≡ q
standing_one κs a r q s t = one-outcome
