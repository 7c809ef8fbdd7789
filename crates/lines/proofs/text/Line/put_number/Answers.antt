-- The digits, and then the byte that ends them.
use Rattle.std.proofs.Common.{arith}
use Rattle.lines.proofs.Laws.{put_then, put-length}
use Rattle.lines.proofs.text.Line.put_number.Goals as goal

pub put_byte-requires : goal.put_byte-requires
put_byte-requires c = omega (arith, c.requires, c.put_digits.ensures.put.ends, put-length (omega (arith, c.requires)) c.put_digits.ensures.put)

pub returns-clause-put : goal.returns-clause-put
returns-clause-put c = put_then (omega (arith, c.requires)) c.put_digits.ensures.put c.put_byte.ensures.put
