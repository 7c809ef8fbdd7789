-- None of the runs passed has the key. Assumes nothing.
use Rattle.std.proofs.Common.{arith, sym, ◌∙◌, ◌*◌}
use Rattle.shape.proofs.Laws.{none_more}
use Rattle.shape.proofs.names.passed.Goals as goal

pub loop-run-preserved : goal.loop-run-preserved
loop-run-preserved c = none_more _ c.args.keys.now (8 * c.loop-run.run) _ _ (omega arith) c.loop-run.invariant (sym c.key_among.ensures ∙ c.if-key_among.false)
