-- Each public function's promise, as its contract states it, admits one outcome: answer, state and every byte. Assumes nothing.
use mathlib.Core.Path.{◌≡◌, ap}
use Rattle.node.proofs.answers.number_of.Reads as number_of
use Rattle.node.proofs.answers.is_taken.Reads as is_taken
use Rattle.node.proofs.step.Reads as step
use Rattle.node.proofs.decide_shaped.Reads as decide_shaped
use Rattle.node.proofs.take_shaped.Reads as take_shaped
use Rattle.pala.specs.Step.{Outcome, Started}
use Rattle.node.proofs.start.Reads as start
use Rattle.table.proofs.Laws.{one-outcome}

number_of_one : (κs : _) (a : _) (r q : _) (s t : _) → number_of.Post κs a r s → number_of.Post κs a q t → r ≡ q
number_of_one κs a r q s t = one-outcome

is_taken_one : (κs : _) (a : _) (r q : _) (s t : _) → is_taken.Post κs a r s → is_taken.Post κs a q t → r ≡ q
is_taken_one κs a r q s t = one-outcome

step_one : (κs : _) (a : _) (r q : _) (s t : _) → step.Post κs a r s → step.Post κs a q t → (r ≡ q) × (s.0.now ≡ t.0.now) × (s.1.1.0.now ≡ t.1.1.0.now)
step_one κs a r q s t p h =
    (ap (λ (o : Outcome). o.answer) (one-outcome p h), ap (λ (o : Outcome). o.state) (one-outcome p h), ap (λ (o : Outcome). o.out) (one-outcome p h))

start_one : (κs : _) (a : _) (r q : _) (s t : _) → start.Post κs a r s → start.Post κs a q t → r ≡ q
start_one κs a r q s t p h = ap (λ (o : Started). record { answer = o.answer; state = o.state }) (one-outcome p h)

decide_shaped_one : (κs : _) (a : _) (r q : _) (s t : _) → decide_shaped.Post κs a r s → decide_shaped.Post κs a q t → r ≡ q
decide_shaped_one κs a r q s t = one-outcome

-- its state is said for every record that was so decided, and there is one
take_shaped_one : (κs : _) (a : _) (r q : _) (s t : _) → take_shaped.Pre κs a → take_shaped.Post κs a r s → take_shaped.Post κs a q t → s.0.now ≡ t.0.now
take_shaped_one κs a r q s t h p k = one-outcome (p.0 h.1.0 h.1.1) (k.0 h.1.0 h.1.1)
