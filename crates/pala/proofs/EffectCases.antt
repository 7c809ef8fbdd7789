-- "What a taken record does": at node 2 of 4, for each kind the whole state and out buffer after it. Assumes nothing.
use Prim.Native.Nat.{ℕ}
use mathlib.Core.Bool.{false}
use mathlib.Core.List.{List, [], ◌∷◌}
use mathlib.Core.Path.{◌≡◌, refl}
use lib.ListN.{replicate}
use Rattle.table.specs.declared.Answer.{Answer}
use Rattle.table.specs.declared.Block.{Block}
use Rattle.table.specs.declared.Epoch.{Epoch}
use Rattle.table.specs.declared.State.{State}
use Rattle.table.specs.Rows.{most_nodes, blank}
use Rattle.pala.specs.Cases.{hear', vote, clock, A, B, C, one_payload}
use Rattle.pala.specs.Counts.{no_name}
use Rattle.pala.specs.Record.{message, propose_now, record_bytes}
use Rattle.pala.specs.Step.{Outcome, step}
use Rattle.pala.proofs.States.{cast_by, minute, first_voters, block, table, state_of, noted}

-- node 2 of 4 in epoch 2, which is its turn, with A (epoch 1, on genesis) firm, and the further blocks and clocks given
abbrev node : ℕ → List Block → List Epoch → State
node held more clocks = state_of 4 2 2 held 0 clocks (blank ∷ block A 1 0 3 ∷ more) false

-- a block on A with a payload of ones and no voters
abbrev on_a : List ℕ → ℕ → Block
on_a name epoch =
    record { name = name; payload = one_payload; voters = first_voters 0; epoch = record { 0 = epoch }; parent = record { 0 = 1 } }

-- an out buffer that isn't zero
abbrev buffer : List ℕ
buffer = replicate record_bytes 7

abbrev took : State → List ℕ → Outcome
took s out = record { answer = Answer.Taken; state = s; out = out }

-- "Kind 1 adds the block with no voters. Kind 2 adds a voter. Kind 3 keeps the clock in place of the sender's older one."
-- "Every other answer leaves the out buffer's bytes unchanged."
heard_does :
    (step (node 1 [] []) (hear' 3 3 C A) buffer ≡ took (node 2 (on_a C 3 ∷ []) []) buffer)
    × (step (node 2 (block B 2 1 0 ∷ []) []) (vote 0 B) buffer ≡ took (node 2 (block B 2 1 1 ∷ []) []) buffer)
    × (step (node 1 [] (record { 0 = 3 } ∷ record { 0 = 4 } ∷ [])) (clock 1 9) buffer
    ≡ took (node 1 [] (record { 0 = 3 } ∷ record { 0 = 9 } ∷ [])) buffer)
unfolding step message table blank
heard_does = (refl, refl, refl)

-- "Kind 4 adds a block of the local epoch on the freshest block, with no voters, and notes the local epoch as proposed in."
-- It sends "kind 1, 2 or 3 with own number as sender"
propose_does :
    step (node 1 [] []) (message propose_now 2 0 B no_name one_payload) buffer
    ≡ took (noted (node 2 (on_a B 2 ∷ []) []) 0 2) (hear' 2 2 B A)
unfolding step message table blank
propose_does = refl

-- "Kind 5 picks the lowest place that may be voted for, counts own vote there and notes the local epoch as voted in."
cast_does :
    step (node 3 (block B 2 1 2 ∷ block C 2 1 0 ∷ []) []) (cast_by 2) buffer
    ≡ took
    (record {
      blocks = table (blank ∷ block A 1 0 3 ∷ block B 2 1 3 ∷ block C 2 1 0 ∷ []);
      clocks = replicate most_nodes (record { 0 = 0 });
      n = 4;
      own = record { 0 = 2 };
      -- B has its third vote and is normal: the epoch ends, A is final
      local = record { 0 = 3 };
      bar = record { 0 = 2 };
      voted = record { 0 = 2 };
      proposed = record { 0 = 0 };
      count = 3;
      kept = record { 0 = 1 };
      torn = false;
    })
    (vote 2 B)
unfolding step message table blank
cast_does = refl

-- "Kind 6 keeps local + 1 as own clock."
minute_does :
    step (node 1 [] []) (minute 2) buffer
    ≡ took (node 1 [] (record { 0 = 0 } ∷ record { 0 = 0 } ∷ record { 0 = 3 } ∷ [])) (clock 2 3)
unfolding step message table blank
minute_does = refl
