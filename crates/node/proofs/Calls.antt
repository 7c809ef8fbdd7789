-- A call from its parts: refused, and handed back the same, or taken, with the record sent and the steps done. Assumes nothing.
use Prim.Native.Nat.{ℕ, suc, ◌<◌}
use mathlib.Core.Bool.{Bool, true, false, not, ◌&&◌, and-false}
use mathlib.Core.List.{List}
use mathlib.Core.Path.{◌≡◌, refl, sym, ap, subst, ◌∙◌}
use Rattle.std.specs.Prelude.{Option, Some, None, Result, Ok, Err}
use Rattle.std.proofs.lemmas.Option.{none-some, same_Some}
use Rattle.pala.proofs.Tests.{either}
use mathlib.Core.Logic.{⊎_elim}
use borrow.Author.Tests.{eq-eqb, eqb-true, ne_eqb, not-false}
use lib.Dec.{eqb}
use lib.ListN.{length, drop, length-replicate}
use Rattle.shape.proofs.Laws.{shaped_none}
use Rattle.table.specs.declared.Answer.{Answer}
use Rattle.table.specs.declared.Place.{Place}
use Rattle.table.specs.declared.State.{State}
use Rattle.table.specs.Scan.{pick}
use Rattle.table.specs.Rows.{capacity}
use Rattle.table.proofs.Laws.{pick_yes, pick_no}
use Rattle.pala.specs.Answers.{taken, answered, bad_length, lowest_of, shaped_rows, all_rows}
use Rattle.pala.specs.Counts.{top_epoch}
use Rattle.pala.specs.Effects.{effect, sent}
use Rattle.pala.specs.Record.{record_bytes}
use Rattle.pala.specs.Run.{lent}
use Rattle.pala.specs.Shape.{well_shaped}
use Rattle.pala.specs.Step.{Outcome, outcome, room, step_shaped, step}
use Rattle.pala.specs.Steps.{fresh_epoch, settled}
use Rattle.pala.proofs.Calls.{step_is, step_any_out}
use Rattle.pala.proofs.Moves.{passed}
use Rattle.pala.proofs.Shapes.{and_l}
use Rattle.record.specs.declared.Fields.{Fields}
use Rattle.record.specs.Fields.{fields_of, fields_in}
use Rattle.node.specs.declared.Decision.{Decision}
use Rattle.node.specs.Moves.{move_by, place_for, decided, decision, Granted}
use Rattle.node.proofs.Ways.{through, row_yes, row_no, answered_ok, answered_err}
use Rattle.node.proofs.Ways.Through.{refuses, passes, rests}
use Rattle.node.proofs.Settles.{effect-fresh}
use Rattle.node.proofs.Numbers.{tag_number}
use Rattle.table.specs.contracts.Answer.{the_type}
use denote.Enum.Bare.{same_true}
use borrow.Author.Rules.{rules}
use Rattle.pala.proofs.Rows.{answered_taken}

-- a state is lent as well shaped where it is

-- the answer of number 0
pub taken_is : (a : Answer) → taken a ≡ true → a ≡ Answer.Taken
unfolding taken
taken_is a t = same_true the_type (search rules) a Answer.Taken (ap (λ (n : ℕ). eqb n 0) (tag_number a) ∙ t)

-- what a call hands back
abbrev pub replied : Answer → State → List ℕ → Outcome
replied a t o = record { answer = a; state = t; out = o }

-- ---- by the answer

module _ (s : State) (r out : List ℕ) {a : Answer} where
  outcome_refused : taken a ≡ false → replied a s out ≡ outcome a s r out
  unfolding outcome
  outcome_refused h =
      ap (λ (t : State). replied a t out) (sym (pick_no (taken a) (settled (effect s r)) s h))
      ∙ ap (λ (o : List ℕ). replied a (pick (taken a) (settled (effect s r)) s) o) (sym (pick_no (taken a) (sent s r out) out h))

  outcome-taken : {t : State} {o : List ℕ} → taken a ≡ true → t ≡ settled (effect s r) → o ≡ sent s r out → replied a t o ≡ outcome a s r out
  unfolding outcome
  outcome-taken {t} {o} h e d =
      ap (λ (x : State). replied a x o) (e ∙ sym (pick_yes (taken a) (settled (effect s r)) s h))
      ∙ ap (λ (x : List ℕ). replied a (pick (taken a) (settled (effect s r)) s) x) (d ∙ sym (pick_yes (taken a) (sent s r out) out h))

  pub call_refused : taken a ≡ false → lowest_of (shaped_rows room s r out) ≡ a → replied a s out ≡ step_shaped room s r out
  unfolding step_shaped
  call_refused h e = outcome_refused h ∙ ap (λ (x : Answer). outcome x s r out) (sym e)

  pub call_taken : {t : State} {o : List ℕ} → taken a ≡ true → lowest_of (shaped_rows room s r out) ≡ a → t ≡ settled (effect s r) → o ≡ sent s r out → replied a t o ≡ step_shaped room s r out
  unfolding step_shaped
  call_taken h e w d = outcome-taken h w d ∙ ap (λ (x : Answer). outcome x s r out) (sym e)

-- ---- rows 2 and 3

module _ (r out : List ℕ) where
  pub record_off : (length r ≡ record_bytes → ⊥) → bad_length r out ≡ true
  unfolding bad_length
  record_off h = ap (λ (b : Bool). not (b && eqb (length out) record_bytes)) (ne_eqb (length r) record_bytes h)

  pub out_off : (length out ≡ record_bytes → ⊥) → bad_length r out ≡ true
  unfolding bad_length
  out_off h =
      ap (λ (b : Bool). not (eqb (length r) record_bytes && b)) (ne_eqb (length out) record_bytes h) ∙ ap not (and-false (eqb (length r) record_bytes))

  pub both_whole : length r ≡ record_bytes → length out ≡ record_bytes → bad_length r out ≡ false
  unfolding bad_length
  both_whole h k =
      ap (λ (b : Bool). not (b && eqb (length out) record_bytes)) (eq-eqb (length r) record_bytes h)
      ∙ ap (λ (b : Bool). not b) (eq-eqb (length out) record_bytes k)

module _ (s : State) (r out : List ℕ) where
  pub row_torn : s.torn ≡ true → lowest_of (shaped_rows room s r out) ≡ Answer.Torn
  unfolding shaped_rows
  row_torn h = row_yes s.torn Answer.Torn (drop 1 (shaped_rows room s r out)) h

  pub row-length : s.torn ≡ false → bad_length r out ≡ true → lowest_of (shaped_rows room s r out) ≡ Answer.Length
  unfolding shaped_rows
  row-length w h =
      row_no s.torn Answer.Torn (drop 1 (shaped_rows room s r out)) w
      ∙ row_yes (bad_length r out) Answer.Length (drop 2 (shaped_rows room s r out)) h

-- ---- what is decided of a record of any length

-- the out buffer that a loop lends has 96 bytes
lent_whole : length lent ≡ record_bytes
unfolding lent
lent_whole = length-replicate {A = ℕ} record_bytes 0

module _ (s : State) (r : List ℕ) {o : Option Fields} (e : o ≡ fields_in r) where
  -- the fields of a record of 96 bytes, and of no other
  pub whole : {f : Fields} → o ≡ Some f → (length r ≡ record_bytes) × (f ≡ fields_of r)
  unfolding fields_in
  whole {f} h =
      ⊎_elim
      (λ (l : eqb (length r) record_bytes ≡ true). (eqb-true (length r) record_bytes l, same_Some _ _ (sym h ∙ e ∙ pick_yes (eqb (length r) record_bytes) _ _ l)))
      (λ (l : eqb (length r) record_bytes ≡ false). absurd (none-some _ (sym (pick_no (eqb (length r) record_bytes) _ _ l) ∙ sym e ∙ h)))
      (either (eqb (length r) record_bytes))

  short : o ≡ None → bad_length r lent ≡ true
  unfolding fields_in
  short h =
      record_off r lent (λ l. none-some _ (sym h ∙ e ∙ pick_yes (eqb (length r) record_bytes) _ _ (eq-eqb (length r) record_bytes l)))

  decision_by : {m : Result Place Answer} → m ≡ move_by (shaped_rows room s r lent) (place_for s r) → record { fields = o; verdict = m } ≡ decision s r
  unfolding decision
  decision_by h = λ i. record { fields = e i; verdict = h i }

  pub decided_torn : s.torn ≡ true → record { fields = o; verdict = Err Answer.Torn } ≡ decision s r
  unfolding shaped_rows taken
  decided_torn h = decision_by (through (refuses h refl))

  pub decided_short : s.torn ≡ false → o ≡ None → record { fields = o; verdict = Err Answer.Length } ≡ decision s r
  unfolding shaped_rows taken
  decided_short w h = decision_by (through (passes w (refuses (short h) refl)))

  pub decided_whole : {f : Fields} {m : Result Place Answer} → s.torn ≡ false → o ≡ Some f → (f ≡ fields_of r → m ≡ decided s r) → record { fields = o; verdict = m } ≡ decision s r
  unfolding shaped_rows decided
  decided_whole w h d =
      let k = whole h in
      decision_by
      (through {p = place_for s r}
      (passes w
      (passes {more = drop 2 (shaped_rows room s r lent)} (both_whole r lent k.0 lent_whole)
      (rests (d k.1)))))

-- a move that is taken is known by it, and one that is refused
module _ (s : State) (r : List ℕ) {d : Decision} (e : d ≡ decision s r) where
  verdict_is : d.verdict ≡ answered (lowest_of (shaped_rows room s r lent)) (record { 0 = place_for s r })
  unfolding decision move_by
  verdict_is = ap (λ (x : Decision). x.verdict) e

  module _ {p : Place} (h : d.verdict ≡ Ok p) where
    pub takes_it : (taken (lowest_of (shaped_rows room s r lent)) ≡ true) × (p ≡ record { 0 = place_for s r })
    takes_it = answered_ok (lowest_of (shaped_rows room s r lent)) _ p (sym verdict_is ∙ h)

    -- a record that is taken is whole
    pub has_fields : d.fields ≡ Some (fields_of r)
    unfolding decision fields_in bad_length
    has_fields =
        let w = not-false _ (passed room s r lent takes_it.0).lengths in
        ap (λ (x : Decision). x.fields) e ∙ pick_yes (eqb (length r) record_bytes) _ _ (and_l (eqb (length r) record_bytes) (eqb (length lent) record_bytes) w)

    -- a torn state takes none
    pub not_torn : s.torn ≡ false
    not_torn = (passed room s r lent takes_it.0).whole

    pub granted : {f : Fields} → d.fields ≡ Some f → Granted s f p r
    granted k =
        record {
          out = lent;
          fields = same_Some _ _ (sym k ∙ has_fields);
          takes = takes_it.0;
          there = ap (λ (q : Place). q.0) takes_it.1;
        }

  pub refuses_it : {a : Answer} → d.verdict ≡ Err a → (taken (lowest_of (shaped_rows room s r lent)) ≡ false) × (lowest_of (shaped_rows room s r lent) ≡ a)
  refuses_it {a} h = answered_err (lowest_of (shaped_rows room s r lent)) _ a (sym verdict_is ∙ h)

  -- one with no fields is refused
  bare : d.fields ≡ None → taken (lowest_of (shaped_rows room s r lent)) ≡ false
  bare h =
      ⊎_elim
      (λ (t : taken (lowest_of (shaped_rows room s r lent)) ≡ true). absurd (none-some _ (sym h ∙ has_fields (verdict_is ∙ answered_taken _ _ t))))
      (λ (t : taken (lowest_of (shaped_rows room s r lent)) ≡ false). t)
      (either (taken (lowest_of (shaped_rows room s r lent))))

  -- ---- the decision and the call on a well-shaped state

  module _ (shaped : well_shaped s ≡ true) where
    state_is : (step s r lent).state ≡ pick (taken (lowest_of (shaped_rows room s r lent))) (settled (effect s r)) s
    unfolding step_shaped outcome
    state_is = ap (λ (o : Outcome). o.state) (step_is s r lent shaped)

    answer_is : (step s r lent).answer ≡ lowest_of (shaped_rows room s r lent)
    unfolding step_shaped outcome
    answer_is = ap (λ (o : Outcome). o.answer) (step_is s r lent shaped)

    -- the verdict is the call's answer, with the place beside "taken"
    pub decided-verdict : d.verdict ≡ answered (step s r lent).answer (record { 0 = place_for s r })
    decided-verdict = verdict_is ∙ ap (λ (a : Answer). answered {A = Place} a (record { 0 = place_for s r })) (sym answer_is)

    -- "First the direct effect. Then, always in this order"
    pub next_state : {p : Place} → d.verdict ≡ Ok p → settled (effect s r) ≡ (step s r lent).state
    next_state h = sym (state_is ∙ pick_yes (taken (lowest_of (shaped_rows room s r lent))) (settled (effect s r)) s (takes_it h).0)

    -- "Otherwise .. state and out buffer come back the same"
    pub same_state : {a : Answer} → d.verdict ≡ Err a → s ≡ (step s r lent).state
    same_state h = sym (state_is ∙ pick_no (taken (lowest_of (shaped_rows room s r lent))) (settled (effect s r)) s (refuses_it h).0)

    pub bare_state : d.fields ≡ None → s ≡ (step s r lent).state
    bare_state h = sym (state_is ∙ pick_no (taken (lowest_of (shaped_rows room s r lent))) (settled (effect s r)) s (bare h))

    module _ (out : List ℕ) (l : length out ≡ record_bytes) where
      -- any buffer of 96 bytes is answered as the lent one
      pub same_rows : lowest_of (shaped_rows room s r out) ≡ lowest_of (shaped_rows room s r lent)
      unfolding step_shaped outcome
      same_rows =
          ap (λ (o : Outcome). o.answer) (sym (step_is s r out shaped))
          ∙ (step_any_out s r out lent l lent_whole).1
          ∙ ap (λ (o : Outcome). o.answer) (step_is s r lent shaped)

      out_is : (step s r out).out ≡ pick (taken (lowest_of (shaped_rows room s r lent))) (sent s r out) out
      unfolding step_shaped outcome
      out_is =
          ap (λ (o : Outcome). o.out) (step_is s r out shaped)
          ∙ ap (λ (a : Answer). pick (taken a) (sent s r out) out) same_rows

      pub next_out : {p : Place} → d.verdict ≡ Ok p → sent s r out ≡ (step s r out).out
      next_out h = sym (out_is ∙ pick_yes (taken (lowest_of (shaped_rows room s r lent))) (sent s r out) out (takes_it h).0)

      pub same_out : {a : Answer} → d.verdict ≡ Err a → out ≡ (step s r out).out
      same_out h = sym (out_is ∙ pick_no (taken (lowest_of (shaped_rows room s r lent))) (sent s r out) out (refuses_it h).0)

      pub bare_out : d.fields ≡ None → out ≡ (step s r out).out
      bare_out h = sym (out_is ∙ pick_no (taken (lowest_of (shaped_rows room s r lent))) (sent s r out) out (bare h))

-- after its direct effect there is an epoch above the freshest one
pub granted_fresh :
    {s t : State} {f : Fields} {place : Place} {r : List ℕ} → length s.blocks ≡ suc capacity → well_shaped s ≡ true →
    Granted s f place r → t ≡ effect s r → fresh_epoch t < top_epoch
granted_fresh {s} {r = r} l h g e =
    subst (λ (x : State). fresh_epoch x < top_epoch) (sym e) (effect-fresh s r g.out l h g.takes)

-- ---- any state

pub call_unshaped : (s : State) (r out : List ℕ) → None ≡ pick (well_shaped s) (Some s) None → replied Answer.State s out ≡ step s r out
unfolding step all_rows taken
call_unshaped s r out h =
    outcome_refused s r out refl
    ∙ ap (λ (x : Answer). outcome x s r out) (sym (row_yes (not (well_shaped s)) Answer.State (shaped_rows room s r out) (ap not (shaped_none s h))))

module _ (s : State) (r out : List ℕ) (shaped : well_shaped s ≡ true) where
  call_shaped : step_shaped room s r out ≡ step s r out
  unfolding step step_shaped all_rows
  call_shaped = ap (λ (x : Answer). outcome x s r out) (sym (row_no (not (well_shaped s)) Answer.State (shaped_rows room s r out) (ap not shaped)))

  pub call_short : (length out ≡ record_bytes → ⊥) → s.torn ≡ false → replied Answer.Length s out ≡ step s r out
  unfolding taken
  call_short h w = call_refused s r out refl (row-length s r out w (out_off r out h)) ∙ call_shaped

  module _ {d : Decision} (e : d ≡ decision s r) where
    pub call_torn : {a : Answer} → d.verdict ≡ Err a → s.torn ≡ true → replied a s out ≡ step s r out
    call_torn {a} h w =
        let q = refuses_it s r e h in
        let same : lowest_of (shaped_rows room s r out) ≡ a = row_torn s r out w ∙ sym (row_torn s r lent w) ∙ q.1 in
        call_refused s r out (ap taken (sym q.1) ∙ q.0) same ∙ call_shaped

    module _ (l : length out ≡ record_bytes) where
      pub call_err : {a : Answer} → d.verdict ≡ Err a → replied a s out ≡ step s r out
      call_err {a} h =
          let q = refuses_it s r e h in
          call_refused s r out (ap taken (sym q.1) ∙ q.0) (same_rows s r e shaped out l ∙ q.1) ∙ call_shaped

      pub call_ok : {p : Place} {t : State} {o : List ℕ} → d.verdict ≡ Ok p → t ≡ (step s r lent).state → o ≡ (step s r out).out → replied Answer.Taken t o ≡ step s r out
      unfolding taken
      call_ok h a b =
          call_taken s r out refl (same_rows s r e shaped out l ∙ taken_is _ (takes_it s r e h).0)
          (a ∙ sym (next_state s r e shaped h))
          (b ∙ sym (next_out s r e shaped out l h))
          ∙ call_shaped
