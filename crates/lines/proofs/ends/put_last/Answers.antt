-- The word, and the number.
use Rattle.std.proofs.Common.{◌++◌, [], ◌∷◌, arith, rules}
use Rattle.lines.proofs.Laws.{digits-most, number-most, lined_none, lined-put, put_then, put-length}
use Rattle.pala.specs.Lines.{digits, new_line}
use Rattle.lines.proofs.ends.put_last.Goals as goal

pub returns-then-text-lt-ROOM : goal.returns-then-text-lt-ROOM
returns-then-text-lt-ROOM c =
    lined_none (c.args.word.now ++ (digits c.args.number ++ (new_line ∷ []))) c.args.text.now c.if-text-lt-ROOM.true

pub put_number-requires : goal.put_number-requires
put_number-requires c =
    omega (
      arith,
      c.requires,
      digits-most 19 c.args.number (omega (arith, c.ranges)),
      c.put_bytes.ensures.put.ends,
      put-length (omega (arith, c.requires)) c.put_bytes.ensures.put,
      c.if-text-lt-ROOM.false,
    )

pub returns : goal.returns
returns c =
    lined-put (c.args.word.now ++ (digits c.args.number ++ (new_line ∷ []))) c.if-text-lt-ROOM.false
    (put_then (omega (arith, c.requires, number-most c.args.number new_line c.ranges.number.fits, c.if-text-lt-ROOM.false)) c.put_bytes.ensures.put c.put_number.ensures.put)
    (search rules)
