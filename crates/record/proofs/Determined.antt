-- Each public function's promise, as its contract states it, admits one outcome. Assumes nothing.
use mathlib.Core.Path.{◌≡◌}
use Rattle.table.proofs.Laws.{one-outcome}
use Rattle.record.proofs.fields_at.Reads as fields_at
use Rattle.record.proofs.write.Reads as write
use Rattle.record.proofs.kinds.KindTryFromU32.try_from.Reads as try_from

fields_at_one : (κs : _) (a : _) (r q : _) (s t : _) → fields_at.Post κs a r s → fields_at.Post κs a q t → r ≡ q
fields_at_one κs a r q s t = one-outcome

write_one : (κs : _) (a : _) (r q : _) (s t : _) → write.Post κs a r s → write.Post κs a q t → s.0.now ≡ t.0.now
write_one κs a r q s t = one-outcome

try_from_one : (κs : _) (a : _) (r q : _) (s t : _) → try_from.Post κs a r s → try_from.Post κs a q t → r ≡ q
try_from_one κs a r q s t = one-outcome
