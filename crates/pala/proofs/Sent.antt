-- What a call writes: an out buffer of 96 bytes comes back as one of 96 bytes, and a cast writes its vote there. Assumes nothing.
use Prim.Native.Nat.{ℕ, suc, ◌+◌, ◌≤◌}
use mathlib.Core.Bool.{true}
use mathlib.Core.List.{List, ◌++◌, append_assoc}
use mathlib.Core.Path.{◌≡◌, sym, ap, subst, ◌∙◌}
use native.Mathlib.Decide.{dec_le}
use native.Mathlib.Omega.{arith}
use lib.Dec.{eqb}
use lib.ListN.{length, get_or, take, length-append, length-replicate}
use lib.Seq.{take_at}
use borrow.Author.Tests.{eqb-true}
use Rattle.table.specs.declared.State.{State}
use Rattle.table.specs.Scan.{pick}
use Rattle.table.specs.Rows.{capacity, name_bytes, payload_bytes, blank, rows, size, at}
use Rattle.table.proofs.Laws.{pick_yes, pick_no, pick-case, at_rows, at-past}
use Rattle.pala.specs.Answers.{taken, lowest_of, shaped_rows, all_rows}
use Rattle.pala.specs.Counts.{no_name, no_payload}
use Rattle.pala.specs.Effects.{picked, sent}
use Rattle.pala.specs.Record.{record_bytes, name_of, payload_of, is, low_first, message, proposal_heard, vote_heard, clock_heard, propose_now, cast_now, minute_up}
use Rattle.pala.specs.Rules.{freshest}
use Rattle.pala.specs.Step.{outcome, room, step_shaped, step}
use Rattle.pala.proofs.Sized.{RowSized}
use Rattle.pala.proofs.Shapes.{shaped-count}
use Rattle.pala.proofs.Moves.{passed, name-length, payload-length, record_length}
use Rattle.pala.proofs.Keeps.{Proper, size_proper}

pub message-length :
    (kind sender epoch : ℕ) (name parent payload : List ℕ) →
    length name ≡ name_bytes → length parent ≡ name_bytes → length payload ≡ payload_bytes →
    length (message kind sender epoch name parent payload) ≡ record_bytes
unfolding message low_first
message-length kind sender epoch name parent payload a b c =
    omega (arith, length-append (name ++ parent) payload, length-append name parent)

module _ (s : State) (k : Proper s) where
  -- every row of the table, and the root past its end
  pub at-sized : (p : ℕ) → RowSized (at (rows s) p)
  at-sized p =
      let long : size (rows s) ≡ suc s.count = size_proper k in
      let held : s.count ≤ capacity = shaped-count s k.shaped in
      let row : (q : ℕ) → q ≤ capacity → RowSized (get_or s.blocks q blank) = k.sized.row in
      elim (dec_le p s.count) [
        | yes l ↦ subst RowSized (sym (at_rows s p blank l (omega (arith, k.sized.blocks)))) (row p (omega arith))
        | no l ↦ subst RowSized (sym (at-past s p blank (omega (arith, k.sized.blocks)) (omega arith))) (row 0 (omega arith))
      ]

  sent-length : (r out : List ℕ) → length r ≡ record_bytes → length out ≡ record_bytes → length (sent s r out) ≡ record_bytes
  unfolding sent
  sent-length r out e f =
      let Whole : List ℕ → Type 0 = λ (x : List ℕ). length x ≡ record_bytes in
      let blank-name : length no_name ≡ name_bytes = length-replicate {A = ℕ} name_bytes 0 in
      let blank-payload : length no_payload ≡ payload_bytes = length-replicate {A = ℕ} payload_bytes 0 in
      let parent = freshest s.n (rows s) in
      pick-case Whole (is propose_now r) _ _
      (λ _. message-length proposal_heard s.own.0 s.local.0 (name_of r) (at (rows s) parent).name (payload_of r) (name-length r e) (at-sized parent).name (payload-length r e))
      (λ _. pick-case Whole (is cast_now r) _ _
      (λ _. message-length vote_heard s.own.0 0 (at (rows s) (picked s)).name no_name no_payload (at-sized (picked s)).name blank-name blank-payload)
      (λ _. pick-case Whole (is minute_up r) _ _
      (λ _. message-length clock_heard s.own.0 (s.local.0 + 1) no_name no_name no_payload blank-name blank-name blank-payload) (λ _. f)))

  pub out-length : (r out : List ℕ) → length out ≡ record_bytes → length (step_shaped room s r out).out ≡ record_bytes
  unfolding step_shaped outcome
  out-length r out f =
      pick-case (λ (x : List ℕ). length x ≡ record_bytes) (taken (lowest_of (shaped_rows room s r out))) (sent s r out) out
      (λ a. sent-length r out (record_length r out (passed room s r out a).lengths) f) (λ _. f)

-- the name in a record that is sent
pub name-sent : (kind sender epoch : ℕ) (name : List ℕ) → length name ≡ name_bytes
    → name_of (message kind sender epoch name no_name no_payload) ≡ name
unfolding name_of message
name-sent kind sender epoch name h =
    ap (take name_bytes) (append_assoc name no_name no_payload) ∙ take_at name (no_name ++ no_payload) name_bytes h

-- what a taken cast writes
pub cast-out : (s : State) (r out : List ℕ) → taken (step s r out).answer ≡ true → is cast_now r ≡ true
    → (step s r out).out ≡ message vote_heard s.own.0 0 (at (rows s) (picked s)).name no_name no_payload
unfolding step outcome sent
cast-out s r out k c =
    pick_yes (taken (lowest_of (all_rows room s r out))) (sent s r out) out k
    ∙ pick_no (is propose_now r) proposal (pick (is cast_now r) vote rest) (ap (λ x. eqb x propose_now) (eqb-true (get_or r 0 0) cast_now c))
    ∙ pick_yes (is cast_now r) vote rest c
  where
    proposal : List ℕ
    proposal = message proposal_heard s.own.0 s.local.0 (name_of r) (at (rows s) (freshest s.n (rows s))).name (payload_of r)

    vote : List ℕ
    vote = message vote_heard s.own.0 0 (at (rows s) (picked s)).name no_name no_payload

    rest : List ℕ
    rest = pick (is minute_up r) (message clock_heard s.own.0 (s.local.0 + 1) no_name no_name no_payload) out
