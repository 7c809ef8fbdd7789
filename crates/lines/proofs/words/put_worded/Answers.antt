-- Two numbers, the word and the new line, one after the other.
use Rattle.std.proofs.Common.{◌<◌, ◌+◌, length, arith, rules}
use Rattle.lines.proofs.Worded.{Spacious, worded_none, first_fits, second_fits, word_fits, end_fits, worded-put}
use Rattle.lines.proofs.words.put_worded.Goals as goal
use Rattle.lines.proofs.words.put_worded.Goals.{Joined-then-left-lt-NUMBERS_MOST, Else-left-word}
use Rattle.lines.proofs.words.put_worded.Goals.{then-left-lt-NUMBERS_MOST-via-then-left-lt-NUMBERS_MOST as numbers_off, then-left-lt-NUMBERS_MOST-via-else-left-lt-NUMBERS_MOST+then-left-word as word_off}

-- past the test there is room
spacious : (c : Else-left-word) → Spacious c.args.text.now c.args.at c.args.k c.args.answer c.args.word.now
spacious c = record { room = omega arith; first = c.ranges.k.fits; second = c.ranges.answer.fits }

-- by either test there is none
short : (c : Joined-then-left-lt-NUMBERS_MOST) → length c.args.text.now < c.args.at + 43 + length c.args.word.now
short c = elim c.then-left-lt-NUMBERS_MOST.branch [ numbers_off w ↦ omega arith | word_off w ↦ omega arith ]

pub returns-then-left-lt-NUMBERS_MOST : goal.returns-then-left-lt-NUMBERS_MOST
returns-then-left-lt-NUMBERS_MOST c = let a = c.args in worded_none a.k a.answer a.word.now a.at a.text.now (short c)

pub put_number-requires : goal.put_number-requires
put_number-requires c = first_fits (spacious (goal.at.put_number-requires c).Else-left-word)

pub put_number-requires-2 : goal.put_number-requires-2
put_number-requires-2 c = second_fits (spacious (goal.at.put_number-requires-2 c).Else-left-word) c.put_number.ensures.put

pub put_bytes-requires : goal.put_bytes-requires
put_bytes-requires c =
    word_fits (spacious (goal.at.put_bytes-requires c).Else-left-word) c.put_number.ensures.put c.put_number-2.ensures.put

pub put_byte-requires : goal.put_byte-requires
put_byte-requires c =
    end_fits (spacious (goal.at.put_byte-requires c).Else-left-word) c.put_number.ensures.put c.put_number-2.ensures.put c.put_bytes.ensures.put

pub returns : goal.returns
returns c =
    worded-put (spacious (goal.at.returns c).Else-left-word) c.put_number.ensures.put c.put_number-2.ensures.put c.put_bytes.ensures.put c.put_byte.ensures.put (search rules)
