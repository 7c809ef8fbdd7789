-- "setup ", and 15.
use Rattle.std.proofs.Common.{ap, ◌∙◌}
use Rattle.lines.proofs.Laws.{setup_line_lem}
use Rattle.lines.specs.Text.{lined}
use Rattle.lines.proofs.ends.put_setup.Goals as goal

pub returns : goal.returns
returns c = c.put_last.ensures ∙ ap (λ l. lined l c.args.text.now) (setup_line_lem _ (c.from.ensures ∙ c.number_of.ensures))
