-- Starts, calls and runs: a fresh state is well shaped, every later state too, and the all-zero state refuses all. Assumes nothing.
use Prim.Native.Nat.{ℕ, suc}
use mathlib.Core.Bool.{true, false, not, ◌&&◌}
use mathlib.Core.List.{List, [], ◌∷◌}
use mathlib.Core.Path.{◌≡◌, refl, sym, ap, subst, ◌∙◌}
use native.Mathlib.Omega.{arith}
use lib.Dec.{eqb}
use lib.ListN.{length, get_or-replicate, length-replicate}
use Rattle.table.specs.declared.Answer.{Answer}
use Rattle.table.specs.declared.Epoch.{Epoch}
use Rattle.table.specs.declared.State.{State}
use Rattle.table.specs.Scan.{pick}
use Rattle.table.specs.Rows.{capacity, most_nodes, blank, fresh, all_zero}
use Rattle.table.proofs.Laws.{pick_yes, pick_no, pick-case}
use Rattle.pala.specs.Answers.{taken, bad_length, lowest_of, shaped_rows, all_rows}
use Rattle.pala.specs.Counts.{clock_of, nodes}
use Rattle.pala.specs.Effects.{effect}
use Rattle.pala.specs.Lists.{list_answer, listed, final_list}
use Rattle.pala.specs.Record.{record_bytes}
use Rattle.pala.specs.Run.{lent, played}
use Rattle.pala.specs.Shape.{is_blank, well_shaped}
use Rattle.pala.specs.Step.{Outcome, outcome, room, step_shaped, step, start}
use Rattle.pala.specs.Steps.{settled}
use Rattle.pala.proofs.Shapes.{nodes_are, blank-blank, shaped_of}
use Rattle.pala.proofs.Sized.{Sized, plain-sized}
use Rattle.pala.proofs.Moves.{Stepped}
use Rattle.pala.proofs.Keeps.{Proper, step_did, step_keeps}

-- ---- a call with and without the test of the shape

module _ (s : State) (r out : List ℕ) where
  -- of a well-shaped state row 1 doesn't apply
  pub step_is : well_shaped s ≡ true → step s r out ≡ step_shaped room s r out
  unfolding step step_shaped lowest_of all_rows
  step_is h =
      ap (λ (a : Answer). outcome a s r out)
      (pick_no (not (well_shaped s)) Answer.State (lowest_of (shaped_rows room s r out)) (ap not h))

  -- "1 State: the state isn't well shaped", and then "state and out buffer come back the same"
  pub step_refuses : well_shaped s ≡ false → step s r out ≡ record { answer = Answer.State; state = s; out = out }
  unfolding step lowest_of all_rows outcome
  step_refuses h =
      ap (λ (a : Answer). outcome a s r out)
      (pick_yes (not (well_shaped s)) Answer.State (lowest_of (shaped_rows room s r out)) (ap not h))

-- what 96 bytes the out buffer held tells nothing
module _ (s : State) (r out other : List ℕ) (e : length out ≡ record_bytes) (f : length other ≡ record_bytes) where
  same_length : bad_length r out ≡ bad_length r other
  unfolding bad_length
  same_length = ap (λ (k : ℕ). not (eqb (length r) record_bytes && eqb k record_bytes)) (e ∙ sym f)

  same_rows : all_rows room s r out ≡ all_rows room s r other
  unfolding all_rows shaped_rows
  same_rows = rw same_length

  same_answer : (step s r out).answer ≡ (step s r other).answer
  unfolding step outcome
  same_answer = ap lowest_of same_rows

  pub step_any_out : ((step s r out).state ≡ (step s r other).state) × ((step s r out).answer ≡ (step s r other).answer)
  unfolding step outcome
  step_any_out = (ap (λ (a : Answer). pick (taken a) (settled (effect s r)) s) same_answer, same_answer)

-- so any buffer of 96 bytes does what the lent one does
pub any_lent : (s : State) (r out : List ℕ) → length out ≡ record_bytes → (step s r out).state ≡ (step s r lent).state
unfolding lent
any_lent s r out e = (step_any_out s r out lent e (length-replicate {A = ℕ} record_bytes 0)).0

-- ---- the all-zero state

pub zero_unshaped : well_shaped all_zero ≡ false
unfolding well_shaped all_zero
zero_unshaped = refl

-- "an all-zero state, which every later call refuses with 1"
pub zero_refused : (r out : List ℕ) → step all_zero r out ≡ record { answer = Answer.State; state = all_zero; out = out }
zero_refused r out = step_refuses all_zero r out zero_unshaped

-- "1 for a badly shaped state", "nothing written"
pub list_refuses : (s : State) (buffer : List ℕ) → well_shaped s ≡ false → final_list s buffer ≡ record { answer = Answer.State; count = 0; list = buffer }
unfolding final_list list_answer lowest_of listed
list_refuses s buffer h =
    ap (λ (a : Answer). listed a s buffer)
    (pick_yes (not (well_shaped s)) Answer.State _ (ap not h))

pub zero-list : (buffer : List ℕ) → final_list all_zero buffer ≡ record { answer = Answer.State; count = 0; list = buffer }
zero-list buffer = list_refuses all_zero buffer zero_unshaped

-- ---- a start

pub fresh-sized : (n own : ℕ) → Sized (fresh n own)
unfolding fresh
fresh-sized n own = plain-sized n own 1

pub zero-sized : Sized all_zero
unfolding all_zero
zero-sized = plain-sized 0 0 0

pub start-sized : (n own : ℕ) → Sized (start n own).state
unfolding start
start-sized n own = pick-case Sized (nodes n own) (fresh n own) all_zero (λ _. fresh-sized n own) (λ _. zero-sized)

-- "Fresh: local 1, all else 0, no blocks, not torn. Unused table places and unused clocks stay zero."
pub fresh-shaped : (n own : ℕ) → nodes n own ≡ true → well_shaped (fresh n own) ≡ true
unfolding fresh clock_of
fresh-shaped n own h =
    shaped_of (fresh n own) (nodes_are n own h) (omega arith) (omega arith) (omega arith)
    (λ i l m. ap (λ (x : Epoch). x.0) (get_or-replicate {A = Epoch} most_nodes i (record { 0 = 0 }) (record { 0 = 0 }) m))
    (λ p l m. absurd (omega arith))
    (λ p u l. ap is_blank (get_or-replicate (suc capacity) p blank blank (omega arith)) ∙ blank-blank)

pub start-shaped : (n own : ℕ) → nodes n own ≡ true → well_shaped (start n own).state ≡ true
unfolding start
start-shaped n own h = ap well_shaped (pick_yes (nodes n own) (fresh n own) all_zero h) ∙ fresh-shaped n own h

-- ---- a run

-- a call refuses and leaves the state as it was, or takes the record
pub step_stepped : (s : State) (r out : List ℕ) → length s.blocks ≡ suc capacity → well_shaped s ≡ true → Stepped room s r out (step s r out)
step_stepped s r out places h = subst (Stepped room s r out) (sym (step_is s r out h)) (step_did s places h r out)

pub call_did : (s : State) (r out : List ℕ) → Proper s → Stepped room s r out (step s r out)
call_did s r out k = step_stepped s r out k.sized.blocks k.shaped

-- .. and keeps what a call needs
pub call_keeps : (s : State) (r out : List ℕ) → Proper s → Proper (step s r out).state
call_keeps s r out k = subst (λ (o : Outcome). Proper o.state) (sym (step_is s r out k.shaped)) (step_keeps s r out k)

pub played_keeps : (s : State) (records : List (List ℕ)) → Proper s → Proper (played s records)
unfolding played
played_keeps s [] k = k
played_keeps s (r ∷ more) k = played_keeps (step s r lent).state more (call_keeps s r lent k)

-- from a start, after any records
pub start-played : (n own : ℕ) (records : List (List ℕ)) → nodes n own ≡ true → Proper (played (start n own).state records)
start-played n own records h =
    played_keeps (start n own).state records (record { sized = start-sized n own; shaped = start-shaped n own h })

-- a start that was refused stays all zero
pub zero-played : (records : List (List ℕ)) → played all_zero records ≡ all_zero
unfolding played
zero-played [] = refl
zero-played (r ∷ more) =
    ap (λ (o : Outcome). played o.state more) (zero_refused r lent) ∙ zero-played more
