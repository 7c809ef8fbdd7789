-- So many rows of 96 bytes stand behind what was written before.
use Rattle.std.proofs.Common.{◌≡◌, ◌+◌, ◌*◌}
use Rattle.trial.proofs.replies.Reply.put_state.Given as goal

abbrev pub invariant-loop-row : goal.invariant-loop-row
invariant-loop-row l = l.self.written ≡ l.initial.self.written + 96 * l.row-index
