-- Two honest gateways' lists never fork: one begins the other, and both are whole names. Assumes nothing.
use Rattle.pala.proofs.Demand.Shown.{safe_runs, runs_whole}
use Rattle.lists.specs.Safe.{NeverForks}
use Rattle.lists.proofs.Sides.{begins_no_fork}

pub never_forks : NeverForks
never_forks n honest events pr i j a b hi hj p q wp wq x y =
    begins_no_fork _ _
    (runs_whole n i a events pr.some pr.most hi.0 p wp x, runs_whole n j b events pr.some pr.most hj.0 q wq y)
    (safe_runs n honest events pr i j a b hi hj p q wp wq x y)
