-- Each public function's promise, as its contract states it, admits one outcome: answer, state and every byte. Assumes nothing.
use mathlib.Core.Path.{◌≡◌}
use Rattle.lists.proofs.relations.relation.Reads as relation
use Rattle.lists.proofs.relations.code.Reads as code
use Rattle.lists.proofs.finals.final_count.Reads as final_count
use Rattle.lists.proofs.finals.final_list.Reads as final_list
use Rattle.lists.proofs.finals.final_list_shaped.Reads as final_list_shaped
use Rattle.lists.proofs.relations.tail.Reads as tail
use Rattle.table.proofs.Laws.{one-outcome}

relation_one : (κs : _) (a : _) (r q : _) (s t : _) → relation.Post κs a r s → relation.Post κs a q t → r ≡ q
relation_one κs a r q s t = one-outcome

code_one : (κs : _) (a : _) (r q : _) (s t : _) → code.Post κs a r s → code.Post κs a q t → r ≡ q
code_one κs a r q s t = one-outcome

final_count_one : (κs : _) (a : _) (r q : _) (s t : _) → final_count.Post κs a r s → final_count.Post κs a q t → r ≡ q
final_count_one κs a r q s t = one-outcome

final_list_one : (κs : _) (a : _) (r q : _) (s t : _) → final_list.Post κs a r s → final_list.Post κs a q t → (r ≡ q) × (s.1.0.now ≡ t.1.0.now)
final_list_one κs a r q s t p h = (one-outcome p.0 h.0, one-outcome p.1 h.1)

final_list_shaped_one : (κs : _) (a : _) (r q : _) (s t : _) → final_list_shaped.Post κs a r s → final_list_shaped.Post κs a q t → (r ≡ q) × (s.1.0.now ≡ t.1.0.now)
final_list_shaped_one κs a r q s t p h = (one-outcome p.0 h.0, one-outcome p.1 h.1)

-- the bytes of the tail, and where in the caller's own slices they begin
tail_one : (κs : _) (a : _) (r q : _) (s t : _) → tail.Post κs a r s → tail.Post κs a q t → (r.now ≡ q.now) × (r.ref_ptr ≡ q.ref_ptr)
tail_one κs a r q s t p h = (one-outcome p.0 h.0, one-outcome p.1 h.1)
