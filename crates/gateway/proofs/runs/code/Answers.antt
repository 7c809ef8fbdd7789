-- A count as it is, a refusal times 65,536.
use Rattle.std.proofs.Common.{ap, sym, ◌*◌, ◌∙◌}
use Rattle.gateway.proofs.Answered.{coded-taken, coded_refused}
use Rattle.gateway.proofs.runs.code.Goals as goal

pub returns-in-Ok : goal.returns-in-Ok
returns-in-Ok c a held e = c.from.ensures ∙ coded-taken a held (sym c.in-Ok.is ∙ e)

pub returns-in-Err : goal.returns-in-Err
returns-in-Err c a held e = ap (λ n. 65536 * n) (c.from-in-Err.ensures ∙ c.number_of.ensures) ∙ coded_refused a held (sym c.in-Err.is ∙ e)
