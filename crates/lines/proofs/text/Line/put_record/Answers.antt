-- The numbers of a line, one after the other.
use Rattle.std.proofs.Common.{ℕ, List, ◌++◌, [], ◌∷◌, ◌≡◌, ◌≤◌, length, ap, ◌∙◌, arith}
use Rattle.lines.specs.Text.{Put, line_most}
use Rattle.pala.specs.Lines.{digits, space, spaced}
use Rattle.lines.proofs.Laws.{Room, line-most, spaced-last, put_as, put-spaced, room_first, room_next}
use Rattle.lines.proofs.text.Line.put_record.Goals as goal
use Rattle.lines.proofs.text.Line.put_record.Goals.{Start}

-- the same number, otherwise worded
put_same :
    {text after : List ℕ} {from past m n : ℕ} → m ≡ n → Put text from (digits m ++ (space ∷ [])) past after
    → Put text from (digits n ++ (space ∷ [])) past after
put_same e = put_as (ap (λ n. digits n ++ (space ∷ [])) e)

most : (c : Start) → length (spaced (c.args.k ∷ c.args.answer ∷ c.args.local ∷ c.args.bar ∷ c.args.names ∷ [])) ≤ line_most
most c =
    let a = c.args in
    line-most a.k a.answer a.local a.bar a.names c.ranges.k.fits c.requires.few.0 c.ranges.local.fits c.ranges.bar.fits c.requires.few.1

room : (c : Start) → Room c.args.self.now.text.now c.args.self.now.at (c.args.k ∷ c.args.answer ∷ c.args.local ∷ c.args.bar ∷ c.args.names ∷ [])
room c = record { fits = omega (arith, most c, c.requires.room) }

pub put_number-requires : goal.put_number-requires
put_number-requires c = room_first (room (goal.at.put_number-requires c).Start)

pub put_number-requires-2 : goal.put_number-requires-2
put_number-requires-2 c =
    let first = room (goal.at.put_number-requires-2 c).Start in
    rw c.from.ensures (room_first (room_next first c.put_number.ensures.put))

pub put_number-requires-3 : goal.put_number-requires-3
put_number-requires-3 c =
    let first = room (goal.at.put_number-requires-3 c).Start in
    let second = room_next first c.put_number.ensures.put in
    let third = room_next second (put_same c.from.ensures c.put_number-2.ensures.put) in
    rw c.from-2.ensures (room_first third)

pub put_number-requires-4 : goal.put_number-requires-4
put_number-requires-4 c =
    let first = room (goal.at.put_number-requires-4 c).Start in
    let second = room_next first c.put_number.ensures.put in
    let third = room_next second (put_same c.from.ensures c.put_number-2.ensures.put) in
    let fourth = room_next third (put_same c.from-2.ensures c.put_number-3.ensures.put) in
    rw c.from-3.ensures (room_first fourth)

pub put_number-requires-5 : goal.put_number-requires-5
put_number-requires-5 c =
    let first = room (goal.at.put_number-requires-5 c).Start in
    let second = room_next first c.put_number.ensures.put in
    let third = room_next second (put_same c.from.ensures c.put_number-2.ensures.put) in
    let fourth = room_next third (put_same c.from-2.ensures c.put_number-3.ensures.put) in
    let fifth = room_next fourth (put_same c.from-3.ensures c.put_number-4.ensures.put) in
    rw c.from-4.ensures (room_first fifth)

pub returns-clause-put : goal.returns-clause-put
returns-clause-put c =
    let first = room (goal.at.returns-clause-put c).Start in
    let two = put_same c.from.ensures c.put_number-2.ensures.put in
    let three = put_same c.from-2.ensures c.put_number-3.ensures.put in
    let four = put_same c.from-3.ensures c.put_number-4.ensures.put in
    let second = room_next first c.put_number.ensures.put in
    let third = room_next second two in
    let fourth = room_next third three in
    put-spaced first c.put_number.ensures.put
    (put-spaced second two
    (put-spaced third three
    (put-spaced fourth four (put_as (ap (λ n. digits n ++ (10 ∷ [])) c.from-4.ensures ∙ spaced-last c.args.names) c.put_number-5.ensures.put))))

pub returns-clause-most : goal.returns-clause-most
returns-clause-most c =
    omega (arith, most (goal.at.returns-clause-most c).Start, (returns-clause-put c).ends)
