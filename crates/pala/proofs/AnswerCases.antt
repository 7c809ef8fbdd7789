-- "Answer numbers": each row, for each kind that it names, and what a start answers. Assumes nothing.
use Prim.Native.Nat.{ℕ}
use mathlib.Core.Bool.{true, false}
use mathlib.Core.List.{List, [], ◌∷◌, ◌++◌}
use mathlib.Core.Path.{◌≡◌, refl}
use lib.ListN.{drop, replicate}
use Rattle.table.specs.declared.State.{State}
use Rattle.table.specs.Rows.{blank}
use Rattle.pala.specs.Answers.{number}
use Rattle.pala.specs.Cases.{Case, Holds, play, shown, musts, began, hear, vote, clock, cast, letter, genesis_name, A, B, C, E, one_payload}
use Rattle.pala.specs.Cases.Look.{the_answer, the_local}
use Rattle.pala.specs.Counts.{no_name, no_payload}
use Rattle.pala.specs.Record.{message, vote_heard, clock_heard, propose_now, cast_now, minute_up}
use Rattle.pala.specs.Run.{lent}
use Rattle.pala.specs.Step.{step, start}
use Rattle.pala.proofs.States.{propose, cast_by, minute, block, table, state_of, filled}

-- a record and the number that it must answer
abbrev answers : List ℕ → ℕ → Case
answers r k = play (r ∷ []) ((the_answer, k ∷ []) ∷ [])

-- at node 0 of 4
each_row : List Case
each_row =
    -- 3: "record .. isn't 96 bytes"
    answers [] 3
    ∷ answers (drop 1 cast) 3
    ∷ answers (cast ++ (0 ∷ [])) 3
    -- 4: "kind isn't 1 to 6"
    ∷ answers (replicate 96 0) 4
    ∷ answers (7 ∷ replicate 95 0) 4
    -- 5: "an unused field or byte 2 or 3 isn't zero"
    ∷ answers (cast_now ∷ 0 ∷ 1 ∷ replicate 93 0) 5
    ∷ answers (cast_now ∷ 0 ∷ 0 ∷ 1 ∷ replicate 92 0) 5
    ∷ answers (message vote_heard 1 1 A no_name no_payload) 5
    ∷ answers (message clock_heard 1 2 A no_name no_payload) 5
    ∷ answers (message propose_now 0 0 A A no_payload) 5
    ∷ answers (message minute_up 0 0 no_name no_name one_payload) 5
    -- 6: "sender at or above n; own number for kinds 1 to 3; another's for 4 to 6"
    ∷ answers (hear 4 1 A genesis_name) 6
    ∷ answers (vote 4 A) 6
    ∷ answers (clock 255 2) 6
    ∷ answers (hear 0 1 A genesis_name) 6
    ∷ answers (vote 0 A) 6
    ∷ answers (clock 0 2) 6
    ∷ answers (propose 1 A) 6
    ∷ answers (cast_by 1) 6
    ∷ answers (minute 1) 6
    -- 7: "kind 1: epoch 0 or 4,294,967,295. Kind 3: epoch 0."
    ∷ answers (hear 1 0 A genesis_name) 7
    ∷ answers (hear 3 4294967295 A genesis_name) 7
    ∷ answers (clock 1 0) 7
    -- 8: "kinds 1, 4: name all zero or already in the table"
    ∷ answers (hear 1 1 genesis_name genesis_name) 8
    ∷ answers (propose 0 genesis_name) 8
    ∷ answers (hear 1 1 A genesis_name) 0
    ∷ answers (hear 1 1 A genesis_name) 8
    ∷ answers (propose 0 A) 8
    -- 9: "kind 1: parent neither genesis nor in the table. Kind 2: name not in the table (genesis included)"
    ∷ answers (hear 2 2 B C) 9
    ∷ answers (vote 1 B) 9
    ∷ answers (vote 1 genesis_name) 9
    -- 10: "kind 1: epoch not above the parent's"
    ∷ answers (hear 1 1 B A) 10
    -- 11: "proposer of epoch e is e mod n. Kind 1: sender isn't it. Kind 4: own number isn't it for the local epoch"
    ∷ answers (hear 1 2 B A) 11
    ∷ answers (propose 0 B) 11
    -- 12: "kind 2: vote already counted. Kind 3: epoch not above the clock kept for that sender. .. Kind 6: own kept clock is local + 1 or more"
    ∷ answers (vote 1 A) 0
    ∷ answers (vote 1 A) 12
    ∷ answers (clock 1 3) 0
    ∷ answers (clock 1 3) 12
    ∷ answers (clock 1 2) 12
    ∷ answers (clock 1 4) 0
    ∷ answers (minute 0) 0
    ∷ answers (minute 0) 12
    -- 13: "kind 5: no block may be voted for", A's epoch being voted in once
    ∷ answers cast 0
    ∷ answers cast 13
    -- 12: "Kind 4: already proposed in this local epoch", which is now 4
    ∷ play (clock 2 4 ∷ clock 3 4 ∷ []) ((the_answer, 0 ∷ []) ∷ (the_local, 4 ∷ []) ∷ [])
    ∷ answers (propose 0 B) 0
    ∷ answers (propose 0 C) 12
    -- the highest block epoch, which is 2's turn, and the highest clock
    ∷ answers (hear 2 4294967294 C B) 0
    ∷ play (clock 1 4294967295 ∷ clock 2 4294967295 ∷ clock 3 4294967295 ∷ []) ((the_answer, 0 ∷ []) ∷ (the_local, 4294967295 ∷ []) ∷ [])
    -- 7: "Kinds 4, 6: local epoch is 4,294,967,295"
    ∷ answers (propose 0 E) 7
    ∷ answers (minute 0) 7
    ∷ []

rows_hold : Holds 4 each_row
unfolding began shown musts each_row
rows_hold = refl

-- what a record answers at a state written by hand, with an out buffer
abbrev put : State → List ℕ → List ℕ → ℕ
put s r out = number (step s r out).answer

-- node 0 of 4 with A of epoch 4 firm, in a local epoch that is its turn
abbrev behind : ℕ → State
behind local = state_of 4 0 local 1 0 [] (blank ∷ block A 4 0 3 ∷ []) false

-- a name that no block of a filled table has
abbrev new : List ℕ
new = letter 65

-- "the lowest number that applies": torn or not, with a record of no bytes
far_rows :
    (put (state_of 4 0 1 0 0 [] [] true) [] lent ∷ put (state_of 4 0 0 0 0 [] [] true) [] lent ∷ [] ≡ 2 ∷ 1 ∷ [])
    -- 3: "out buffer isn't 96 bytes"
    × (put (state_of 4 0 1 0 0 [] [] false) (clock 1 2) (replicate 95 0) ∷ put (state_of 4 0 1 0 0 [] [] false) (clock 1 2) lent ∷ [] ≡ 3 ∷ 0 ∷ [])
    -- 10: "Kind 4: local epoch not above the freshest block's"
    × (put (behind 4) (propose 0 B) lent ∷ put (behind 8) (propose 0 B) lent ∷ [] ≡ 10 ∷ 0 ∷ [])
    -- 14: "kinds 1, 4: 64 blocks held"
    × (put (filled 64 64) (hear 1 1 new genesis_name) lent ∷ put (filled 63 63) (hear 1 1 new genesis_name) lent ∷ [] ≡ 14 ∷ 0 ∷ [])
    × (put (filled 64 64) (propose 0 new) lent ∷ put (filled 63 63) (propose 0 new) lent ∷ [] ≡ 14 ∷ 0 ∷ [])
unfolding number step lent table blank filled message
far_rows = (refl, refl, refl, refl, refl)

-- what a start answers, by n and own number
abbrev starts : ℕ → ℕ → ℕ
starts n own = number (start n own).answer

-- "Starting with n of 0 or above 32, or own number not below n, answers 15 and an all-zero state"; "Fresh: local 1, all else 0, no blocks, not torn."
starts_hold :
    (starts 1 0 ∷ starts 4 3 ∷ starts 32 31 ∷ [] ≡ 0 ∷ 0 ∷ 0 ∷ [])
    × (starts 0 0 ∷ starts 33 0 ∷ starts 4 4 ∷ starts 1 1 ∷ [] ≡ 15 ∷ 15 ∷ 15 ∷ 15 ∷ [])
    × ((start 4 3).state ≡ state_of 4 3 1 0 0 [] [] false)
    × ((start 4 4).state ≡ state_of 0 0 0 0 0 [] [] false)
unfolding start number table blank
starts_hold = (refl, refl, refl, refl)
