-- Each public function's promise, as its contract states it, admits one outcome: answer, hall and every byte. Assumes nothing.
use mathlib.Core.Path.{◌≡◌, ap}
use Rattle.table.proofs.Laws.{one-outcome}
use Rattle.accord.specs.Head.{Opened}
use Rattle.hall.proofs.heads.«open».Reads as «open»
use Rattle.hall.proofs.pieces.play.Reads as play

open_one : (κs : _) (a : _) (r q : _) (s t : _) → «open».Post κs a r s → «open».Post κs a q t → r ≡ q
open_one κs a r q s t p h = ap (λ (o : Opened). record { answer = o.answer; hall = o.hall }) (one-outcome p h)

play_one :
    (κs : _) (a : _) (r q : _) (s t : _) → play.Post κs a r s → play.Post κs a q t
    → (r ≡ q) × (s.0.now ≡ t.0.now) × (s.1.0.now ≡ t.1.0.now) × (s.1.1.1.0.now ≡ t.1.1.1.0.now)
play_one κs a r q s t p h =
    (one-outcome p.0 h.0, one-outcome p.1.0 h.1.0, one-outcome p.1.1.0 h.1.1.0, one-outcome p.1.1.1 h.1.1.1)
