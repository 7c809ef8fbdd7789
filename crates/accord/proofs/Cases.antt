-- Small cases of request M-101, computed: heads, each refusal and its neighbours, yes and no, the lines. Assumes nothing.
use Prim.Native.Nat.{ℕ}
use mathlib.Core.Bool.{Bool, true, false}
use mathlib.Core.List.{List, [], ◌∷◌, ◌++◌, map}
use mathlib.Core.Path.{◌≡◌, refl}
use lib.Dec.{eqb}
use lib.ListN.{take, replicate}
use Rattle.table.specs.declared.Answer.{Answer}
use Rattle.table.specs.declared.Block.{Block}
use Rattle.table.specs.declared.State.{State}
use Rattle.table.specs.Rows.{blank, all_zero}
use Rattle.pala.specs.Answers.{number}
use Rattle.pala.specs.Cases.{hear, hear', vote, genesis_name, one_payload, A, B, C}
use Rattle.pala.specs.Counts.{no_name, no_payload}
use Rattle.pala.specs.Lines.{setup_line}
use Rattle.pala.specs.Record.{message, vote_heard, propose_now}
use Rattle.pala.specs.Step.{start}
use Rattle.pala.proofs.States.{propose, block, table, state_of}
use Rattle.accord.specs.declared.Hall.{Hall}
use Rattle.accord.specs.declared.Verdict.{Verdict}
use Rattle.accord.specs.Head.{most_gateways, in_set, good_head, fresh_hall, no_hall, opened, gateway, honest_in, hall_shaped}
use Rattle.accord.specs.Rulings.{verdict, verdict_number, hall_after}
use Rattle.accord.specs.Words.{agree}
use Rattle.accord.specs.Text.{hall_line, lines_with, hall_lines, hall_text}

-- ---- heads

-- n of 1 and of 8, every bit below n, no bit at all, and records behind the head
good_heads : map good_head ((1 ∷ 1 ∷ []) ∷ (8 ∷ 255 ∷ []) ∷ (4 ∷ 15 ∷ []) ∷ (4 ∷ 0 ∷ []) ∷ (3 ∷ 5 ∷ 9 ∷ 9 ∷ []) ∷ []) ≡ replicate 5 true
unfolding good_head
good_heads = refl

-- "15 a head with another n, with a bit at or above n, or cut short"
bad_heads :
    map good_head ((0 ∷ 0 ∷ []) ∷ (9 ∷ 0 ∷ []) ∷ (9 ∷ 1 ∷ []) ∷ (4 ∷ 16 ∷ []) ∷ (4 ∷ 128 ∷ []) ∷ (1 ∷ 2 ∷ []) ∷ (4 ∷ []) ∷ (1 ∷ []) ∷ [] ∷ []) ≡ replicate 9 false
unfolding good_head
bad_heads = refl

-- ".. and nothing is played"
heads_opened :
    (number (opened (4 ∷ 7 ∷ [])).answer ∷ number (opened (4 ∷ 16 ∷ [])).answer ∷ number (opened []).answer ∷ [] ≡ 0 ∷ 15 ∷ 15 ∷ [])
    × ((opened (4 ∷ 7 ∷ [])).hall ≡ fresh_hall (4 ∷ 7 ∷ []))
    × ((opened (9 ∷ 7 ∷ [])).hall ≡ no_hall)
unfolding opened number
heads_opened = (refl, refl, refl)

-- "lowest bit for node 0"; each gateway is fresh under its own number
fresh_halls :
    (map (in_set (4 ∷ 6 ∷ [])) (0 ∷ 1 ∷ 2 ∷ 3 ∷ []) ≡ false ∷ true ∷ true ∷ false ∷ [])
    × (map (honest_in (fresh_hall (4 ∷ 6 ∷ []))) (0 ∷ 1 ∷ 2 ∷ 3 ∷ 8 ∷ []) ≡ false ∷ true ∷ true ∷ false ∷ false ∷ [])
    × (gateway (fresh_hall (4 ∷ 6 ∷ [])) 2 ≡ state_of 4 2 1 0 0 [] [] false)
    × (gateway (fresh_hall (4 ∷ 6 ∷ [])) 7 ≡ all_zero)
unfolding in_set honest_in gateway fresh_hall table blank
fresh_halls = (refl, refl, refl, refl)

-- ---- halls by hand

-- the first gateways' states and whether they are honest
unfoldable pub desk : ℕ → List Bool → List State → Hall
unfolding all_zero
desk n honest first =
    record {
      states = take most_gateways (first ++ replicate most_gateways all_zero);
      honest = take most_gateways (honest ++ replicate most_gateways false);
      n = n;
    }

-- node i of 4 in a local epoch, with some blocks
unfoldable pub node : ℕ → ℕ → ℕ → List Block → State
unfolding table blank
node i local held blocks = state_of 4 i local held 0 [] (blank ∷ blocks) false

-- a well-shaped hall: no number at or above n is honest and every gateway's state, a faulty one's too, is well shaped
shapes_told :
    map hall_shaped
    (fresh_hall (4 ∷ 7 ∷ [])
    ∷ fresh_hall (8 ∷ 255 ∷ [])
    ∷ no_hall
    ∷ desk 1 (true ∷ true ∷ []) ((start 2 0).state ∷ (start 2 1).state ∷ [])
    ∷ desk 2 (true ∷ true ∷ []) ((start 2 0).state ∷ all_zero ∷ [])
    ∷ desk 2 (true ∷ false ∷ []) ((start 2 0).state ∷ all_zero ∷ [])
    ∷ desk 1 (true ∷ []) ((start 2 0).state ∷ all_zero ∷ [])
    ∷ desk 9 [] []
    ∷ [])
    ≡ true ∷ true ∷ false ∷ false ∷ false ∷ false ∷ true ∷ false ∷ []
unfolding hall_shaped fresh_hall no_hall desk start
shapes_told = refl

-- ---- refusals

-- the number answered to a record
abbrev ruled : Hall → ℕ → List ℕ → ℕ
ruled h to r = verdict_number (verdict h to r)

-- 0, 1 and 2 honest and 3 faulty: A (epoch 1, on genesis) stands at 0, at 1 with the votes of 0 and 1, and at 2 with these too
unfoldable pub four : Hall
unfolding desk node
four =
    desk 4 (true ∷ true ∷ true ∷ [])
    (node 0 1 1 (block A 1 0 0 ∷ []) ∷ node 1 1 1 (block A 1 0 2 ∷ []) ∷ node 2 1 1 (block A 1 0 2 ∷ []) ∷ [])

-- "20 receiver not an honest node", also with a record of length 0, and before 21 and 22
receivers :
    ruled four 3 (vote 1 A) ∷ ruled four 3 [] ∷ ruled four 255 [] ∷ ruled four 3 (vote 2 A) ∷ ruled four 3 (hear 1 5 A genesis_name) ∷ ruled four 0 [] ∷ []
    ≡ 20 ∷ 20 ∷ 20 ∷ 20 ∷ 20 ∷ 3 ∷ []
unfolding verdict verdict_number four
receivers = refl

-- "21 a vote heard under an honest number whose own table doesn't show that vote"
votes_ruled :
    -- cast: node 1's own table shows it; a faulty number may send what it likes
    (ruled four 0 (vote 1 A) ∷ ruled four 0 (vote 3 A) ∷ [] ≡ 0 ∷ 0 ∷ [])
    -- never cast, though node 2 holds the block; for a block that node 1 doesn't hold; for the genesis
    × (ruled four 0 (vote 2 A) ∷ ruled four 0 (vote 1 B) ∷ ruled four 0 (vote 1 genesis_name) ∷ [] ≡ 21 ∷ 21 ∷ 21 ∷ [])
    -- under the receiver's own number: 21 where its table doesn't show it, else 6
    × (ruled four 0 (vote 0 A) ∷ ruled four 1 (vote 1 A) ∷ [] ≡ 21 ∷ 6 ∷ [])
    -- node 0's vote that the receiver counts already, and node 0 never cast
    × (ruled four 1 (vote 0 A) ∷ [] ≡ 21 ∷ [])
    -- "on whole records only"; other damage doesn't matter
    × (ruled four 0 (take 95 (vote 2 A)) ∷ ruled four 0 (vote 2 A ++ (0 ∷ [])) ∷ ruled four 0 (message vote_heard 2 1 A no_name no_payload) ∷ [] ≡ 3 ∷ 3 ∷ 21 ∷ [])
unfolding verdict verdict_number four message
votes_ruled = (refl, refl, refl, refl, refl)

-- 0 and 2 honest: A (epoch 1, on genesis) stands at 0 and at 1, which isn't honest with B; 2 is fresh
unfoldable pub two : Hall
unfolding desk node
two =
    desk 4 (true ∷ false ∷ true ∷ [])
    (node 0 1 1 (block A 1 0 0 ∷ []) ∷ node 1 1 2 (block A 1 0 0 ∷ block B 1 0 0 ∷ []) ∷ node 2 1 0 [] ∷ [])

-- "22 kind 1 .. whose name stands in some honest node's table with another epoch, parent or payload"
heard_ruled :
    -- the same block heard by a second gateway, and by the one that has it
    (ruled two 2 (hear 1 1 A genesis_name) ∷ ruled two 0 (hear 1 1 A genesis_name) ∷ [] ≡ 0 ∷ 8 ∷ [])
    -- another epoch, another parent, another payload, in another's table
    × (ruled two 2 (hear 1 5 A genesis_name) ∷ ruled two 2 (hear 1 1 A B) ∷ ruled two 2 (hear' 1 1 A genesis_name) ∷ [] ≡ 22 ∷ 22 ∷ 22 ∷ [])
    -- .. and in the receiver's own
    × (ruled two 0 (hear 1 5 A genesis_name) ∷ ruled two 0 (hear 1 1 A B) ∷ ruled two 0 (hear' 1 1 A genesis_name) ∷ [] ≡ 22 ∷ 22 ∷ 22 ∷ [])
    -- the table of a node that isn't honest doesn't count, nor does the genesis
    × (ruled two 2 (hear 1 5 B genesis_name) ∷ ruled two 2 (hear 1 5 genesis_name A) ∷ [] ≡ 0 ∷ 8 ∷ [])
    -- "on whole records only"; other damage doesn't matter
    × (ruled two 2 (take 95 (hear 1 5 A genesis_name)) ∷ ruled two 2 (hear 9 5 A genesis_name) ∷ [] ≡ 3 ∷ 22 ∷ [])
unfolding verdict verdict_number two message
heard_ruled = (refl, refl, refl, refl, refl)

-- propose A at node 1 of 4, with a payload
abbrev propose' : List ℕ
propose' = message propose_now 1 0 A no_name one_payload

-- node 0 holds A of an epoch on genesis, and node 1 is in a local epoch, with some blocks
unfoldable pub turn : ℕ → ℕ → ℕ → List Block → Hall
unfolding desk node
turn epoch local held blocks = desk 4 (true ∷ true ∷ []) (node 0 1 1 (block A epoch 0 0 ∷ []) ∷ node 1 local held blocks ∷ [])

-- "22 kind .. 4": of the block that its receiver would add now
propose_ruled :
    -- the same block; of the fields of the record only name and payload count
    (ruled (turn 1 1 0 []) 1 (propose 1 A) ∷ ruled (turn 1 1 0 []) 1 (message propose_now 1 9 A B no_payload) ∷ [] ≡ 0 ∷ 5 ∷ [])
    -- another payload; another local epoch; the same epoch on another freshest block
    × (ruled (turn 1 1 0 []) 1 propose' ∷ ruled (turn 1 5 0 []) 1 (propose 1 A) ∷ ruled (turn 5 5 1 (block B 4 0 3 ∷ [])) 1 (propose 1 A) ∷ [] ≡ 22 ∷ 22 ∷ 22 ∷ [])
    -- in the receiver's own table: as it would add it, with another payload, of another epoch
    × (ruled (turn 1 1 1 (block A 1 0 0 ∷ [])) 1 (propose 1 A) ∷ ruled (turn 1 1 1 (block A 1 0 0 ∷ [])) 1 propose' ∷ [] ≡ 8 ∷ 22 ∷ [])
    × (ruled (desk 4 (false ∷ true ∷ []) (node 0 1 0 [] ∷ node 1 5 1 (block A 1 0 0 ∷ []) ∷ [])) 1 (propose 1 A) ∷ [] ≡ 22 ∷ [])
    × (ruled (turn 1 1 0 []) 1 (take 95 propose') ∷ [] ≡ 3 ∷ [])
unfolding verdict verdict_number turn message
propose_ruled = (refl, refl, refl, refl, refl)

-- ---- the hall after a record

-- how many blocks each of the first three gateways holds
abbrev held : Hall → List ℕ
held h = (gateway h 0).count ∷ (gateway h 1).count ∷ (gateway h 2).count ∷ []

-- a taken record moves its receiver's state; a refused one changes nothing, also where 01 would take it
halls_after :
    (held (hall_after two 2 (hear 1 1 A genesis_name)) ≡ 1 ∷ 2 ∷ 1 ∷ [])
    × (hall_after two 2 (hear 1 5 A genesis_name) ≡ two)
    × (hall_after two 1 (hear 2 2 C B) ≡ two)
    × (hall_after four 0 (vote 2 A) ≡ four)
    × (hall_after two 0 (hear 1 1 A genesis_name) ≡ two)
unfolding hall_after gateway two four message
halls_after = (refl, refl, refl, refl, refl)

-- ---- yes or no

-- a state that keeps the block at a place as final, on a table of A, B on A, and C on genesis
unfoldable pub keeps : ℕ → State
unfolding table blank
keeps p = state_of 8 0 9 3 p [] (blank ∷ block A 1 0 0 ∷ block B 2 1 0 ∷ block C 3 0 0 ∷ []) false

-- .. and one that is torn
unfoldable pub torn : ℕ → State
unfolding table blank
torn p = state_of 8 0 9 3 p [] (blank ∷ block A 1 0 0 ∷ block B 2 1 0 ∷ block C 3 0 0 ∷ []) true

abbrev trues : ℕ → List Bool
trues k = replicate k true

-- A and A B, in either order; equal lists; an empty one; a fork with a node that isn't honest
says_yes :
    map agree
    (desk 8 (trues 2) (keeps 1 ∷ keeps 2 ∷ [])
    ∷ desk 8 (trues 2) (keeps 2 ∷ keeps 1 ∷ [])
    ∷ desk 8 (trues 2) (keeps 3 ∷ keeps 3 ∷ [])
    ∷ desk 8 (trues 2) (keeps 0 ∷ keeps 3 ∷ [])
    ∷ desk 8 (true ∷ false ∷ []) (keeps 1 ∷ keeps 3 ∷ [])
    ∷ desk 8 (false ∷ true ∷ []) (keeps 1 ∷ keeps 3 ∷ [])
    ∷ desk 8 [] (keeps 1 ∷ keeps 3 ∷ [])
    ∷ [])
    ≡ trues 7
unfolding agree desk keeps
says_yes = refl

-- A and C; A B and C; over an empty list between them; the first and the last; the last two; a torn one
says_no :
    map agree
    (desk 8 (trues 2) (keeps 1 ∷ keeps 3 ∷ [])
    ∷ desk 8 (trues 2) (keeps 3 ∷ keeps 2 ∷ [])
    ∷ desk 8 (trues 3) (keeps 1 ∷ keeps 0 ∷ keeps 3 ∷ [])
    ∷ desk 8 (trues 8) (keeps 1 ∷ replicate 6 (keeps 0) ++ (keeps 3 ∷ []))
    ∷ desk 8 (trues 8) (replicate 6 (keeps 0) ++ (keeps 2 ∷ keeps 3 ∷ []))
    ∷ desk 8 (trues 2) (torn 1 ∷ keeps 3 ∷ [])
    ∷ [])
    ≡ replicate 6 false
unfolding agree desk keeps torn
says_no = refl

-- ---- the lines

-- "1 0 yes", "12 22 no", "3 21 yes", each with its line end
lines_told :
    (hall_line 1 (Verdict.Answered Answer.Taken) true ≡ 49 ∷ 32 ∷ 48 ∷ 32 ∷ 121 ∷ 101 ∷ 115 ∷ 10 ∷ [])
    × (hall_line 12 Verdict.Clash false ≡ 49 ∷ 50 ∷ 32 ∷ 50 ∷ 50 ∷ 32 ∷ 110 ∷ 111 ∷ 10 ∷ [])
    × (hall_line 3 Verdict.Forged true ≡ 51 ∷ 32 ∷ 50 ∷ 49 ∷ 32 ∷ 121 ∷ 101 ∷ 115 ∷ 10 ∷ [])
unfolding hall_line
lines_told = (refl, refl, refl)

-- a line of one-digit number and answer that says yes
abbrev said : ℕ → List ℕ → List ℕ
said k answer = k ∷ 32 ∷ (answer ++ (32 ∷ 121 ∷ 101 ∷ 115 ∷ 10 ∷ []))

-- "After each record the program prints its number, the answer and yes or no": the word is the hall's after the record, here whether
-- gateway 2 holds one block; and no is printed while lists fork
words_told :
    (lines_with (λ h. eqb (gateway h 2).count 1) two 0 ((2 ∷ hear 1 1 A genesis_name) ∷ (2 ∷ hear 1 1 A genesis_name) ∷ [])
    ≡ said 49 (48 ∷ []) ++ said 50 (56 ∷ []))
    × (hall_lines (desk 8 (trues 2) (keeps 1 ∷ keeps 3 ∷ [])) 4 ((9 ∷ []) ∷ []) ≡ 53 ∷ 32 ∷ 50 ∷ 48 ∷ 32 ∷ 110 ∷ 111 ∷ 10 ∷ [])
unfolding lines_with hall_lines gateway two desk keeps message
words_told = (refl, refl)

texts :
    -- "15 .. and nothing is played"; a good head and no record
    (hall_text (4 ∷ []) ≡ setup_line)
    × (hall_text (9 ∷ 1 ∷ 0 ∷ []) ≡ setup_line)
    × (hall_text (4 ∷ 7 ∷ []) ≡ [])
    -- a receiver and no byte more is a record of length 0; an empty set of honest nodes
    × (hall_text (4 ∷ 7 ∷ 0 ∷ []) ≡ said 49 (51 ∷ []))
    × (hall_text (4 ∷ 0 ∷ 0 ∷ []) ≡ said 49 (50 ∷ 48 ∷ []))
    -- A proposed at 1 and heard at 2; then of epoch 5 at 0; then a receiver that isn't honest
    × (hall_text
    (4 ∷ 7 ∷ 1 ∷ propose 1 A ++ (2 ∷ hear 1 1 A genesis_name) ++ (0 ∷ hear 1 5 A genesis_name) ++ (3 ∷ []))
    ≡ said 49 (48 ∷ []) ++ said 50 (48 ∷ []) ++ said 51 (50 ∷ 50 ∷ []) ++ said 52 (50 ∷ 48 ∷ []))
unfolding hall_text message setup_line
texts = (refl, refl, refl, refl, refl, refl)
