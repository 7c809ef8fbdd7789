-- "end ", and the number.
use Rattle.std.proofs.Common.{ap, ◌∙◌}
use Rattle.lines.proofs.Laws.{end_line_lem}
use Rattle.lines.specs.Text.{lined}
use Rattle.lines.proofs.ends.put_end.Goals as goal

pub returns : goal.returns
returns c = c.put_last.ensures ∙ ap (λ l. lined l c.args.text.now) (end_line_lem c.args.count)
