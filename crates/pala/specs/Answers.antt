-- 01, "Answer numbers".
use Rattle.std.specs.Prelude.{ℕ, ◌+◌, ◌%◌, Bool, not, ◌&&◌, ◌||◌, List, [], ◌∷◌, Result, Ok, Err, eqb, ltb, leb, length}
use Rattle.table.specs.declared.Answer.{Answer}
use Rattle.table.specs.declared.Block.{Block}
use Rattle.table.specs.declared.State.{State}
use Rattle.table.specs.Scan.{pick}
use Rattle.table.specs.Bytes.{zeros}
use Rattle.table.specs.Rows.{rows, size, at, find, has_voter}
use Rattle.pala.specs.Counts.{top_epoch, clock_of}
use Rattle.pala.specs.Record.{record_bytes, sender_of, epoch_of, name_of, parent_name_of, is, known_kind, heard, unused_zero, proposal_heard, vote_heard, clock_heard, propose_now, cast_now, minute_up}
use Rattle.pala.specs.Rules.{epoch_at, freshest, ballot}
use Rattle.pala.specs.Shape.{well_shaped}

-- the number of each answer
unfoldable pub number : Answer → ℕ
number Answer.Taken = 0
number Answer.State = 1
number Answer.Torn = 2
number Answer.Length = 3
number Answer.Kind = 4
number Answer.Filler = 5
number Answer.Sender = 6
number Answer.Epoch = 7
number Answer.Name = 8
number Answer.Unknown = 9
number Answer.Order = 10
number Answer.Turn = 11
number Answer.Repeat = 12
number Answer.Nothing = 13
number Answer.Full = 14
number Answer.Setup = 15

-- "0 is taken."
unfoldable pub taken : Answer → Bool
unfolding number
taken a = eqb (number a) 0

-- what an answer is as a Result: what is handed back where it is 0, else the refusal
unfoldable pub answered : {A : Type 0} → Answer → A → Result A Answer
unfolding taken pick
answered a x = pick (taken a) (Ok x) (Err a)

-- "record or out buffer isn't 96 bytes"
unfoldable pub bad_length : List ℕ → List ℕ → Bool
bad_length r out = not (eqb (length r) record_bytes && eqb (length out) record_bytes)

-- "sender at or above n; own number for kinds 1 to 3; another's for 4 to 6"
unfoldable pub bad_sender : State → List ℕ → Bool
unfolding pick heard
bad_sender s r = leb s.n (sender_of r) || pick (heard r) (eqb (sender_of r) s.own.0) (not (eqb (sender_of r) s.own.0))

-- "kind 1: epoch 0 or 4,294,967,295. Kind 3: epoch 0. Kinds 4, 6: local epoch is 4,294,967,295"
unfoldable pub bad_epoch : State → List ℕ → Bool
unfolding epoch_of
bad_epoch s r =
    is proposal_heard r && (eqb (epoch_of r) 0 || leb top_epoch (epoch_of r))
    || is clock_heard r && eqb (epoch_of r) 0
    || (is propose_now r || is minute_up r) && leb top_epoch s.local.0

-- "kinds 1, 4: name all zero or already in the table"
unfoldable pub bad_name : List Block → List ℕ → Bool
unfolding zeros name_of find
bad_name t r = (is proposal_heard r || is propose_now r) && (zeros (name_of r) || ltb (find t (name_of r)) (size t))

-- "kind 1: parent neither genesis nor in the table. Kind 2: name not in the table (genesis included)"
unfoldable pub unknown : List Block → List ℕ → Bool
unfolding parent_name_of name_of find
unknown t r =
    is proposal_heard r && leb (size t) (find t (parent_name_of r))
    || is vote_heard r && (eqb (find t (name_of r)) 0 || leb (size t) (find t (name_of r)))

-- "kind 1: epoch not above the parent's. Kind 4: local epoch not above the freshest block's"
unfoldable pub bad_order : State → List ℕ → Bool
unfolding rows epoch_of epoch_at find parent_name_of freshest
bad_order s r =
    is proposal_heard r && leb (epoch_of r) (epoch_at (rows s) (find (rows s) (parent_name_of r)))
    || is propose_now r && leb s.local.0 (epoch_at (rows s) (freshest s.n (rows s)))

-- "proposer of epoch e is e mod n"
unfoldable pub proposer : ℕ → ℕ → ℕ
proposer n e = e % n

-- "Kind 1: sender isn't it. Kind 4: own number isn't it for the local epoch"
unfoldable pub bad_turn : State → List ℕ → Bool
unfolding proposer epoch_of
bad_turn s r =
    is proposal_heard r && not (eqb (sender_of r) (proposer s.n (epoch_of r)))
    || is propose_now r && not (eqb s.own.0 (proposer s.n s.local.0))

-- "kind 2: vote already counted. Kind 3: epoch not above the clock kept for that sender. Kind 4: already proposed in this
-- local epoch. Kind 6: own kept clock is local + 1 or more"
unfoldable pub repeats : State → List ℕ → Bool
unfolding rows has_voter at find name_of epoch_of clock_of
repeats s r =
    is vote_heard r && has_voter (at (rows s) (find (rows s) (name_of r))) (sender_of r)
    || is clock_heard r && leb (epoch_of r) (clock_of s.clocks (sender_of r))
    || is propose_now r && eqb s.proposed.0 s.local.0
    || is minute_up r && leb (s.local.0 + 1) (clock_of s.clocks s.own.0)

-- "kind 5: no block may be voted for"
unfoldable pub nothing : State → List ℕ → Bool
unfolding rows ballot
nothing s r =
    is cast_now r && leb (size (rows s)) (ballot s.n (rows s) s.local.0 s.bar.0 s.voted.0)

-- "kinds 1, 4: 64 blocks held", where `room` tells for how many blocks held there is room for one more
unfoldable pub full : (ℕ → Bool) → State → List ℕ → Bool
full room s r = (is proposal_heard r || is propose_now r) && not (room s.count)

-- "Otherwise the answer is the lowest number that applies"
unfoldable pub lowest_of : List (Bool × Answer) → Answer
unfolding pick
lowest_of [] = Answer.Taken
lowest_of (row ∷ more) = pick row.0 row.1 (lowest_of more)

-- the rows from 2 on, of a state that is well shaped
unfoldable pub shaped_rows : (ℕ → Bool) → State → List ℕ → List ℕ → List (Bool × Answer)
unfolding bad_length known_kind unused_zero bad_sender bad_epoch bad_name unknown bad_order bad_turn repeats nothing full rows
shaped_rows room s r out =
    (s.torn, Answer.Torn)
    ∷ (bad_length r out, Answer.Length)
    ∷ (not (known_kind r), Answer.Kind)
    ∷ (not (unused_zero r), Answer.Filler)
    ∷ (bad_sender s r, Answer.Sender)
    ∷ (bad_epoch s r, Answer.Epoch)
    ∷ (bad_name (rows s) r, Answer.Name)
    ∷ (unknown (rows s) r, Answer.Unknown)
    ∷ (bad_order s r, Answer.Order)
    ∷ (bad_turn s r, Answer.Turn)
    ∷ (repeats s r, Answer.Repeat)
    ∷ (nothing s r, Answer.Nothing)
    ∷ (full room s r, Answer.Full)
    ∷ []

-- all fourteen rows: "1 State: the state isn't well shaped", then the others
unfoldable pub all_rows : (ℕ → Bool) → State → List ℕ → List ℕ → List (Bool × Answer)
unfolding well_shaped shaped_rows
all_rows room s r out = (not (well_shaped s), Answer.State) ∷ shaped_rows room s r out
