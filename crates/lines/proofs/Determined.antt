-- Each public function's promise, as its contract states it, admits one outcome: answer, state and every byte. Assumes nothing.
use mathlib.Core.Path.{◌≡◌, ap}
use Rattle.lines.proofs.ends.put_end.Reads as put_end
use Rattle.lines.proofs.ends.put_setup.Reads as put_setup
use Rattle.lines.proofs.pieces.play.Reads as play
use Rattle.lines.proofs.words.put_worded.Reads as put_worded
use Rattle.lines.specs.Text.{Lined}
use Rattle.table.proofs.Laws.{one-outcome}

put_end_one : (κs : _) (a : _) (r q : _) (s t : _) → put_end.Post κs a r s → put_end.Post κs a q t → (r ≡ q) × (s.1.0.now ≡ t.1.0.now)
put_end_one κs a r q s t p h =
    (ap (λ (o : Lined). o.length) (one-outcome p h), ap (λ (o : Lined). o.text) (one-outcome p h))

put_setup_one : (κs : _) (a : _) (r q : _) (s t : _) → put_setup.Post κs a r s → put_setup.Post κs a q t → (r ≡ q) × (s.0.now ≡ t.0.now)
put_setup_one κs a r q s t p h =
    (ap (λ (o : Lined). o.length) (one-outcome p h), ap (λ (o : Lined). o.text) (one-outcome p h))

play_one :
    (κs : _) (a : _) (r q : _) (s t : _) → play.Post κs a r s → play.Post κs a q t
    → (r ≡ q) × (s.0.now ≡ t.0.now) × (s.1.0.now ≡ t.1.0.now) × (s.1.1.1.0.now ≡ t.1.1.1.0.now)
play_one κs a r q s t p h =
    (one-outcome p.0 h.0, one-outcome p.1.0 h.1.0, one-outcome p.1.1.0 h.1.1.0, one-outcome p.1.1.1 h.1.1.1)

put_worded_one : (κs : _) (a : _) (r q : _) (s t : _) → put_worded.Post κs a r s → put_worded.Post κs a q t → (r ≡ q) × (s.0.now ≡ t.0.now)
put_worded_one κs a r q s t p h =
    (ap (λ (o : Lined). o.length) (one-outcome p h), ap (λ (o : Lined). o.text) (one-outcome p h))
