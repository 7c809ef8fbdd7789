-- Each public function's promise, as its contract states it, admits one outcome. Assumes nothing.
use mathlib.Core.Path.{◌≡◌}
use Rattle.table.proofs.Laws.{one-outcome}
use Rattle.table.proofs.names.same_name.Reads as same_name
use Rattle.table.proofs.names.zero_name.Reads as zero_name
use Rattle.table.proofs.names.zeros.Reads as zeros
use Rattle.table.proofs.rows.at.Reads as at
use Rattle.table.proofs.rows.find.Reads as find
use Rattle.table.proofs.rows.lower.Reads as lower
use Rattle.table.proofs.rows.row_of.Reads as row_of
use Rattle.table.proofs.rows.size_of.Reads as size_of
use Rattle.table.proofs.voters.has_voter.Reads as has_voter
use Rattle.table.proofs.voters.with_voter.Reads as with_voter
use Rattle.table.proofs.voters.votes.Reads as votes
use Rattle.table.proofs.states.fresh.Reads as fresh
use Rattle.table.proofs.states.all_zero.Reads as all_zero

same_name_one : (κs : _) (a : _) (r q : _) (s t : _) → same_name.Post κs a r s → same_name.Post κs a q t → r ≡ q
same_name_one κs a r q s t = one-outcome

zero_name_one : (κs : _) (a : _) (r q : _) (s t : _) → zero_name.Post κs a r s → zero_name.Post κs a q t → r ≡ q
zero_name_one κs a r q s t = one-outcome

zeros_one : (κs : _) (a : _) (r q : _) (s t : _) → zeros.Post κs a r s → zeros.Post κs a q t → r ≡ q
zeros_one κs a r q s t = one-outcome

at_one : (κs : _) (a : _) (r q : _) (s t : _) → at.Post κs a r s → at.Post κs a q t → r.now ≡ q.now
at_one κs a r q s t = one-outcome

lower_one : (κs : _) (a : _) (r q : _) (s t : _) → lower.Post κs a r s → lower.Post κs a q t → r ≡ q
lower_one κs a r q s t = one-outcome

row_of_one : (κs : _) (a : _) (r q : _) (s t : _) → row_of.Post κs a r s → row_of.Post κs a q t → r ≡ q
row_of_one κs a r q s t = one-outcome

size_of_one : (κs : _) (a : _) (r q : _) (s t : _) → size_of.Post κs a r s → size_of.Post κs a q t → r ≡ q
size_of_one κs a r q s t = one-outcome

find_one : (κs : _) (a : _) (r q : _) (s t : _) → find.Post κs a r s → find.Post κs a q t → r ≡ q
find_one κs a r q s t = one-outcome

has_voter_one : (κs : _) (a : _) (r q : _) (s t : _) → has_voter.Post κs a r s → has_voter.Post κs a q t → r ≡ q
has_voter_one κs a r q s t = one-outcome

with_voter_one : (κs : _) (a : _) (r q : _) (s t : _) → with_voter.Post κs a r s → with_voter.Post κs a q t → r ≡ q
with_voter_one κs a r q s t = one-outcome

votes_one : (κs : _) (a : _) (r q : _) (s t : _) → votes.Post κs a r s → votes.Post κs a q t → r ≡ q
votes_one κs a r q s t = one-outcome

fresh_one : (κs : _) (a : _) (r q : _) (s t : _) → fresh.Post κs a r s → fresh.Post κs a q t → r ≡ q
fresh_one κs a r q s t = one-outcome

all_zero_one : (κs : _) (a : _) (r q : _) (s t : _) → all_zero.Post κs a r s → all_zero.Post κs a q t → r ≡ q
all_zero_one κs a r q s t = one-outcome
