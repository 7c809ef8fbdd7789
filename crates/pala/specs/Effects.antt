-- 01, "What a taken record does": "First the direct effect."
use Rattle.std.specs.Prelude.{ℕ, suc, ◌+◌, false, List, ◌∷◌, ◌++◌, take, drop, set, replicate}
use Rattle.table.specs.declared.Block.{Block}
use Rattle.table.specs.declared.Epoch.{Epoch}
use Rattle.table.specs.declared.State.{State}
use Rattle.table.specs.Scan.{pick}
use Rattle.table.specs.Rows.{most_nodes, rows, at, find, with_voter}
use Rattle.pala.specs.Counts.{no_name, no_payload}
use Rattle.pala.specs.Record.{sender_of, epoch_of, name_of, parent_name_of, payload_of, is, message, proposal_heard, vote_heard, clock_heard, propose_now, cast_now, minute_up}
use Rattle.pala.specs.Rules.{freshest, ballot}

-- a block with no voters
unfoldable pub new_block : List ℕ → ℕ → ℕ → List ℕ → Block
new_block name epoch parent payload =
    record {
      name = name;
      payload = payload;
      voters = replicate most_nodes false;
      epoch = record { 0 = epoch };
      parent = record { 0 = parent };
    }

-- the rows with b at place p, also where p is just past the last
unfoldable pub laid : List Block → ℕ → Block → List Block
laid blocks p b = take p blocks ++ (b ∷ drop (suc p) blocks)

-- the state with another table, clocks, last epoch voted in and last epoch proposed in
unfoldable pub put : State → List Block → ℕ → List Epoch → ℕ → ℕ → State
put s blocks held clocks voted proposed =
    record {
      blocks = blocks;
      clocks = clocks;
      n = s.n;
      own = s.own;
      local = s.local;
      bar = s.bar;
      voted = record { 0 = voted };
      proposed = record { 0 = proposed };
      count = held;
      kept = s.kept;
      torn = s.torn;
    }

-- one block more, at the next place
unfoldable pub with_block : State → Block → ℕ → State
unfolding put laid
with_block s b proposed =
    put s (laid s.blocks (suc s.count) b) (suc s.count) s.clocks s.voted.0 proposed

-- one voter more at a place
unfoldable pub with_vote : State → ℕ → ℕ → ℕ → State
unfolding put laid with_voter at rows
with_vote s p i voted =
    put s (laid s.blocks p (with_voter (at (rows s) p) i)) s.count s.clocks voted s.proposed.0

-- another clock kept of a node
unfoldable pub with_clock : State → ℕ → ℕ → State
unfolding put
with_clock s i c =
    put s s.blocks s.count (set s.clocks i (record { 0 = c })) s.voted.0 s.proposed.0

-- "Kind 1 adds the block with no voters"
unfoldable pub proposal_effect : State → List ℕ → State
unfolding with_block new_block find rows name_of epoch_of parent_name_of payload_of
proposal_effect s r =
    with_block s (new_block (name_of r) (epoch_of r) (find (rows s) (parent_name_of r)) (payload_of r)) s.proposed.0

-- "Kind 2 adds a voter"
unfoldable pub vote_effect : State → List ℕ → State
unfolding with_vote find rows name_of
vote_effect s r = with_vote s (find (rows s) (name_of r)) (sender_of r) s.voted.0

-- "Kind 3 keeps the clock in place of the sender's older one"
unfoldable pub clock_effect : State → List ℕ → State
unfolding with_clock epoch_of
clock_effect s r = with_clock s (sender_of r) (epoch_of r)

-- "Kind 4 adds a block of the local epoch on the freshest block, with no voters, and notes the local epoch as proposed in"
unfoldable pub propose_effect : State → List ℕ → State
unfolding with_block new_block freshest rows name_of payload_of
propose_effect s r =
    with_block s (new_block (name_of r) s.local.0 (freshest s.n (rows s)) (payload_of r)) s.local.0

-- "Kind 5 picks the lowest place that may be voted for, .."
unfoldable pub picked : State → ℕ
unfolding ballot rows
picked s = ballot s.n (rows s) s.local.0 s.bar.0 s.voted.0

-- ".. counts own vote there and notes the local epoch as voted in"
unfoldable pub cast_effect : State → ℕ → State
unfolding with_vote
cast_effect s p = with_vote s p s.own.0 s.local.0

-- "Kind 6 keeps local + 1 as own clock"
unfoldable pub minute_effect : State → State
unfolding with_clock
minute_effect s = with_clock s s.own.0 (s.local.0 + 1)

-- the direct effect of each kind
unfoldable pub effect : State → List ℕ → State
unfolding pick proposal_effect vote_effect clock_effect propose_effect picked cast_effect minute_effect
effect s r =
    pick (is proposal_heard r) (proposal_effect s r)
    (pick (is vote_heard r) (vote_effect s r)
    (pick (is clock_heard r) (clock_effect s r)
    (pick (is propose_now r) (propose_effect s r)
    (pick (is cast_now r) (cast_effect s (picked s))
    (minute_effect s)))))

-- "Kinds 4, 5 and 6, when taken, write the record to send there: kind 1, 2 or 3 with own number as sender."
-- "Every other answer leaves the out buffer's bytes unchanged."
unfoldable pub sent : State → List ℕ → List ℕ → List ℕ
unfolding pick message freshest rows at name_of payload_of picked
sent s r out =
    pick (is propose_now r)
    (message proposal_heard s.own.0 s.local.0 (name_of r) (at (rows s) (freshest s.n (rows s))).name (payload_of r))
    (pick (is cast_now r) (message vote_heard s.own.0 0 (at (rows s) (picked s)).name no_name no_payload)
    (pick (is minute_up r) (message clock_heard s.own.0 (s.local.0 + 1) no_name no_name no_payload)
    out))
