-- The part of the buffer that is copied over.
use Rattle.lines.proofs.Laws.{written_over}
use mathlib.Core.Path.{refl}
use Rattle.lines.proofs.text.Line.put_bytes.Goals as goal

pub returns-clause-put : goal.returns-clause-put
returns-clause-put c =
    record { ends = refl; holds = written_over c.args.self.now.text.now c.args.self.now.at c.args.bytes.now c.copy_from_slice.ensures.after }
