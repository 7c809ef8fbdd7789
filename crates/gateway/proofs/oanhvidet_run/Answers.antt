-- The code of what the run hands back.
use Rattle.gateway.proofs.Answered.{run_by}
use Rattle.gateway.proofs.oanhvidet_run.Goals as goal

pub returns : goal.returns
returns c =
    run_by c.args.n c.args.own c.args.records.now c.args.list.now (c.code.ensures _ _ c.run.ensures.answer) c.run.ensures.list
