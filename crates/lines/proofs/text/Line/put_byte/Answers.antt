-- One byte stored is one byte written.
use Rattle.lines.proofs.Laws.{written_byte}
use mathlib.Core.Path.{refl}
use Rattle.lines.proofs.text.Line.put_byte.Goals as goal

pub returns-clause-put : goal.returns-clause-put
returns-clause-put c = record { ends = refl; holds = written_byte c.args.self.now.text.now c.args.self.now.at c.args.b c.requires }
