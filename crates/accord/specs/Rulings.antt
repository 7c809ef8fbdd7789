-- "Refusals: .. 20 to 22 before 01's, lowest first, the last two on whole records only."
use Rattle.std.specs.Prelude.{ℕ, zero, suc, Bool, false, not, ◌&&◌, ◌||◌, List, eqb, ltb, length, set}
use Rattle.table.specs.declared.Block.{Block}
use Rattle.table.specs.declared.State.{State}
use Rattle.table.specs.Scan.{pick}
use Rattle.table.specs.Bytes.{same}
use Rattle.table.specs.Rows.{rows, size, at, has_voter}
use Rattle.pala.specs.Answers.{number}
use Rattle.pala.specs.Record.{record_bytes, sender_of, epoch_of, name_of, parent_name_of, payload_of, is, proposal_heard, vote_heard, propose_now}
use Rattle.pala.specs.Rules.{epoch_at, parent_of, freshest}
use Rattle.pala.specs.Run.{lent}
use Rattle.pala.specs.Step.{step}
use Rattle.accord.specs.declared.Hall.{Hall}
use Rattle.accord.specs.declared.Verdict.{Verdict}
use Rattle.accord.specs.Head.{most_gateways, gateway, honest_in}

-- does some number below k pass
unfoldable pub any_below : ℕ → (ℕ → Bool) → Bool
any_below zero ok = false
any_below (suc k) ok = any_below k ok || ok k

-- the table of a gateway
unfoldable pub table_of : Hall → ℕ → List Block
unfolding rows gateway
table_of h i = rows (gateway h i)

-- a block of that name stands at a place; the genesis is none of the table's blocks
unfoldable pub named : List Block → List ℕ → ℕ → Bool
unfolding same at
named t name p = ltb 0 p && same (at t p).name name

-- "21 a vote heard under an honest number whose own table doesn't show that vote": it shows node j's vote for that name
unfoldable pub shows : List Block → ℕ → List ℕ → Bool
unfolding any_below named has_voter at
shows t j name = any_below (size t) (λ p. named t name p && has_voter (at t p) j)

unfoldable pub forged : Hall → List ℕ → Bool
unfolding honest_in shows table_of name_of
forged h r = is vote_heard r && honest_in h (sender_of r) && not (shows (table_of h (sender_of r)) (sender_of r) (name_of r))

-- what a name stands for
pub record Content : Type 0 where
  pub epoch : ℕ
  pub parent : List ℕ
  pub payload : List ℕ

unfoldable pub alike : Content → Content → Bool
unfolding same
alike a b = eqb a.epoch b.epoch && same a.parent b.parent && same a.payload b.payload

-- of the block at a place
unfoldable pub content_at : List Block → ℕ → Content
unfolding epoch_at at parent_of
content_at t p = record { epoch = epoch_at t p; parent = (at t (parent_of t p)).name; payload = (at t p).payload }

-- of a record: of kind 1 as its fields stand, of kind 4 the block that its receiver would add now
unfoldable pub content_of : State → List ℕ → Content
unfolding pick epoch_of parent_name_of payload_of at rows freshest
content_of s r =
    pick (is proposal_heard r)
    (record { epoch = epoch_of r; parent = parent_name_of r; payload = payload_of r })
    (record { epoch = s.local.0; parent = (at (rows s) (freshest s.n (rows s))).name; payload = payload_of r })

-- "22 kind 1 or 4 whose name stands in some honest node's table with another epoch, parent or payload"
unfoldable pub otherwise : List Block → List ℕ → Content → Bool
unfolding any_below named alike content_at
otherwise t name c = any_below (size t) (λ p. named t name p && not (alike (content_at t p) c))

unfoldable pub clash : Hall → State → List ℕ → Bool
unfolding any_below honest_in otherwise table_of name_of content_of
clash h s r =
    (is proposal_heard r || is propose_now r)
    && any_below most_gateways (λ i. honest_in h i && otherwise (table_of h i) (name_of r) (content_of s r))

-- "20 receiver not an honest node"; then 21 and 22, "on whole records only"; then what the receiver answers
unfoldable pub verdict : Hall → ℕ → List ℕ → Verdict
unfolding pick honest_in forged clash gateway step lent
verdict h to r =
    pick (not (honest_in h to)) Verdict.Receiver
    (pick (eqb (length r) record_bytes && forged h r) Verdict.Forged
    (pick (eqb (length r) record_bytes && clash h (gateway h to) r) Verdict.Clash
    (Verdict.Answered (step (gateway h to) r lent).answer)))

-- the number of each verdict
unfoldable pub verdict_number : Verdict → ℕ
unfolding number
verdict_number Verdict.Receiver = 20
verdict_number Verdict.Forged = 21
verdict_number Verdict.Clash = 22
verdict_number (Verdict.Answered a) = number a

-- "0 is taken."
unfoldable pub passes : Verdict → Bool
unfolding verdict_number
passes v = eqb (verdict_number v) 0

-- the hall with another state of one gateway
unfoldable pub seated : Hall → ℕ → State → Hall
seated h i s = record { states = set h.states i s; honest = h.honest; n = h.n }

-- a taken record moves its receiver's state on; a refused one changes nothing
unfoldable pub hall_after : Hall → ℕ → List ℕ → Hall
unfolding pick passes verdict seated step gateway lent
hall_after h to r = pick (passes (verdict h to r)) (seated h to (step (gateway h to) r lent).state) h
