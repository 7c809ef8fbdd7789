-- The refusals of a hall, as code comes to them. Assumes nothing.
use Rattle.std.proofs.lemmas.Bool.{and_right}
use Prim.Native.Nat.{ℕ}
use mathlib.Core.Bool.{Bool, true, false, not, ◌&&◌, ◌||◌, and_assoc}
use mathlib.Core.List.{List}
use mathlib.Core.Path.{◌≡◌, refl, sym, ap, ap₂, ◌∙◌}
use borrow.Author.Tests.{eq-eqb, ne_eqb}
use lib.Dec.{eqb}
use lib.ListN.{length}
use Rattle.std.proofs.Common.{Result, Ok, Err, Some, None}
use Rattle.table.specs.declared.Answer.{Answer}
use Rattle.table.specs.declared.Place.{Place}
use Rattle.table.specs.declared.State.{State}
use Rattle.table.specs.Scan.{pick}
use Rattle.table.proofs.Laws.{not_both, pick_yes, pick_no}
use Rattle.pala.specs.Record.{is, kind_of, sender_of, name_of, record_bytes, proposal_heard, vote_heard, propose_now}
use Rattle.pala.specs.Answers.{lowest_of, number, shaped_rows, taken}
use Rattle.pala.specs.Run.{lent}
use Rattle.pala.specs.Step.{Outcome, outcome, room, step, step_shaped}
use Rattle.pala.proofs.Calls.{step_is}
use Rattle.pala.proofs.Tests.{and_both}
use Rattle.record.specs.declared.Fields.{Fields}
use Rattle.record.specs.declared.kinds.Kind.{Kind}
use Rattle.record.specs.Fields.{fields_in, fields_of}
use Rattle.record.specs.Numbers.{kind_in}
use Rattle.record.proofs.Numbers.{kind_back, kind_ok}
use Rattle.node.specs.declared.Decision.{Decision}
use Rattle.node.specs.Moves.{decision}
use Rattle.node.proofs.Calls.{refuses_it, taken_is, takes_it}
use Rattle.accord.specs.declared.Hall.{Hall}
use Rattle.accord.specs.declared.Verdict.{Verdict}
use Rattle.accord.specs.Head.{most_gateways, honest_in}
use Rattle.accord.specs.Rulings.{Content, any_below, clash, content_of, forged, otherwise, shows, passes, table_of, verdict, verdict_number}
use Rattle.hall.specs.Judged.{Decided, judged}
use Rattle.hall.proofs.Named.{pick_none, pick_some}

-- ---- the kinds that add a block

-- does a record's kind
abbrev pub adds : List ℕ → Bool
adds r = is proposal_heard r || is propose_now r

module _ (f : Fields) (r : List ℕ) (e : f ≡ fields_of r) where
  kind_is : f.kind ≡ kind_of r
  unfolding fields_of
  kind_is = ap (λ (x : Fields). x.kind) e

  pub adds_heard : Ok Kind.ProposalHeard ≡ kind_in f.kind → (adds r ≡ true) × (is proposal_heard r ≡ true)
  adds_heard k =
      let n : kind_of r ≡ 1 = sym kind_is ∙ sym (kind_ok f.kind Kind.ProposalHeard k) in
      let y = eq-eqb (kind_of r) 1 n in
      (ap (λ (b : Bool). b || is propose_now r) y, y)

  pub adds_own : Ok Kind.ProposeNow ≡ kind_in f.kind → (adds r ≡ true) × (is proposal_heard r ≡ false)
  adds_own k =
      let n : kind_of r ≡ 4 = sym kind_is ∙ sym (kind_ok f.kind Kind.ProposeNow k) in
      (ap (λ (x : ℕ). eqb x 1 || eqb x 4) n, ap (λ (x : ℕ). eqb x 1) n)

  pub adds_none : (kind_in f.kind ≡ Ok Kind.ProposalHeard → ⊥) → (kind_in f.kind ≡ Ok Kind.ProposeNow → ⊥) → adds r ≡ false
  adds_none a b =
      ap₂ (λ (x y : Bool). x || y) (ne_eqb (kind_of r) 1 (λ k. a (ap kind_in (kind_is ∙ k) ∙ kind_back Kind.ProposalHeard)))
      (ne_eqb (kind_of r) 4 (λ k. b (ap kind_in (kind_is ∙ k) ∙ kind_back Kind.ProposeNow)))

  -- 21, of a vote
  pub forged_vote : (h : Hall) → f.kind ≡ vote_heard → (honest_in h f.sender.0 && not (shows (table_of h f.sender.0) f.sender.0 f.name)) ≡ forged h r
  unfolding forged fields_of
  forged_vote h k =
      ap (λ (x : Fields). honest_in h x.sender.0 && not (shows (table_of h x.sender.0) x.sender.0 x.name)) e
      ∙ sym (and_assoc (is vote_heard r) _ _ ∙ ap (λ (b : Bool). b && (honest_in h (sender_of r) && not (shows (table_of h (sender_of r)) (sender_of r) (name_of r)))) (eq-eqb (kind_of r) 2 (sym kind_is ∙ k)))

  pub forged_other : (h : Hall) → (f.kind ≡ vote_heard → ⊥) → false ≡ forged h r
  unfolding forged
  forged_other h k =
      sym (ap (λ (b : Bool). b && honest_in h (sender_of r) && not (shows (table_of h (sender_of r)) (sender_of r) (name_of r))) (ne_eqb (kind_of r) 2 (λ n. k (kind_is ∙ n))))

  -- 22, where a block is added, and where none is
  pub clash_adds :
      (h : Hall) (s : State) → adds r ≡ true → {c : Content} → c ≡ content_of s r
      → any_below most_gateways (λ i. honest_in h i && otherwise (table_of h i) f.name c) ≡ clash h s r
  unfolding clash fields_of
  clash_adds h s y {c} d =
      (λ j. any_below most_gateways (λ i. honest_in h i && otherwise (table_of h i) (e j).name (d j)))
      ∙ sym (ap (λ (b : Bool). b && any_below most_gateways (λ i. honest_in h i && otherwise (table_of h i) (name_of r) (content_of s r))) y)

  pub clash_other : (h : Hall) (s : State) → adds r ≡ false → false ≡ clash h s r
  unfolding clash
  clash_other h s n = sym (ap (λ (b : Bool). b && any_below most_gateways (λ i. honest_in h i && otherwise (table_of h i) (name_of r) (content_of s r))) n)

-- ---- the verdict, where the receiver is honest

module _ (h : Hall) (to : ℕ) (r : List ℕ) (s : State) (d : Decision) (w : Decided h to r s d) where
  abbrev whole : Bool
  whole = eqb (length r) record_bytes

  abbrev answer : Answer
  answer = (step s r lent).answer

  -- "20 to 22 before 01's, lowest first, the last two on whole records only"
  ruled : verdict h to r ≡ pick (whole && forged h r) Verdict.Forged (pick (whole && clash h s r) Verdict.Clash (Verdict.Answered answer))
  unfolding verdict
  ruled =
      pick_no (not (honest_in h to)) Verdict.Receiver _ (ap not w.honest)
      ∙ ap (λ (x : State). pick (whole && forged h r) Verdict.Forged (pick (whole && clash h x r) Verdict.Clash (Verdict.Answered (step x r lent).answer))) (sym w.own)

  -- the fields of a whole record
  fields_are : {f : Fields} → d.fields ≡ Some f → (whole ≡ true) × (f ≡ fields_of r)
  unfolding decision fields_in
  fields_are k = pick_some whole (fields_of r) (sym k ∙ ap (λ (x : Decision). x.fields) w.by)

  fields_none : d.fields ≡ None → whole ≡ false
  unfolding decision fields_in
  fields_none k = pick_none whole (fields_of r) (sym k ∙ ap (λ (x : Decision). x.fields) w.by)

  -- the receiver's own answer
  answer_is : lowest_of (shaped_rows room s r lent) ≡ answer
  unfolding step_shaped outcome
  answer_is = ap (λ (o : Outcome). o.answer) (sym (step_is s r lent w.shaped))

  answers_taken : {p : Place} → d.verdict ≡ Ok p → Answer.Taken ≡ answer
  answers_taken k = sym (taken_is (lowest_of (shaped_rows room s r lent)) (takes_it s r w.by k).0) ∙ answer_is

  answers_refused : {a : Answer} → d.verdict ≡ Err a → a ≡ answer
  answers_refused k = sym (refuses_it s r w.by k).1 ∙ answer_is

  refused_is : {a : Answer} → d.verdict ≡ Err a → taken a ≡ false
  refused_is k = let n = refuses_it s r w.by k in ap taken (sym n.1) ∙ n.0

  -- in their order
  module _ {f : Fields} (k : d.fields ≡ Some f) where
    pub told_forged : (f ≡ fields_of r → true ≡ forged h r) → Err Verdict.Forged ≡ judged (verdict h to r)
    unfolding judged passes verdict_number
    told_forged e =
        let g = fields_are k in
        sym (ap judged (ruled ∙ pick_yes (whole && forged h r) Verdict.Forged _ (and_both whole (forged h r) g.0 (sym (e g.1)))))

    module _ (e : f ≡ fields_of r → false ≡ forged h r) where
      pub told_clash : (f ≡ fields_of r → true ≡ clash h s r) → Err Verdict.Clash ≡ judged (verdict h to r)
      unfolding judged passes verdict_number
      told_clash c =
          let g = fields_are k in
          sym
          (ap judged
          (ruled
          ∙ pick_no (whole && forged h r) Verdict.Forged _ (and_right whole _ (sym (e g.1)))
          ∙ pick_yes (whole && clash h s r) Verdict.Clash _ (and_both whole (clash h s r) g.0 (sym (c g.1)))))

      pub whole_answers : (f ≡ fields_of r → false ≡ clash h s r) → Verdict.Answered answer ≡ verdict h to r
      whole_answers c =
          let g = fields_are k in
          sym
          (ruled
          ∙ pick_no (whole && forged h r) Verdict.Forged _ (and_right whole _ (sym (e g.1)))
          ∙ pick_no (whole && clash h s r) Verdict.Clash _ (and_right whole _ (sym (c g.1))))

  pub part_answers : d.fields ≡ None → Verdict.Answered answer ≡ verdict h to r
  part_answers k =
      let off = fields_none k in
      sym
      (ruled
      ∙ pick_no (whole && forged h r) Verdict.Forged _ (ap (λ (b : Bool). b && forged h r) off)
      ∙ pick_no (whole && clash h s r) Verdict.Clash _ (ap (λ (b : Bool). b && clash h s r) off))

  module _ (e : Verdict.Answered answer ≡ verdict h to r) where
    pub told_taken : {p : Place} → d.verdict ≡ Ok p → Ok tt ≡ judged (verdict h to r)
    unfolding judged passes verdict_number number
    told_taken k = ap judged (ap Verdict.Answered (answers_taken k) ∙ e)

    pub told_refused : {a : Answer} → d.verdict ≡ Err a → Err (Verdict.Answered a) ≡ judged (verdict h to r)
    unfolding judged passes verdict_number taken
    told_refused {a} k = sym (pick_no (taken a) (Ok tt) (Err (Verdict.Answered a)) (refused_is k)) ∙ ap judged (ap Verdict.Answered (answers_refused k) ∙ e)

-- ---- what a judgment tells of the verdict

told_of : (b : Bool) {v u : Verdict} → ◌≡◌ {A = Result (Unit {0}) Verdict} (Err v) (pick b (Ok tt) (Err u)) → (b ≡ false) × (v ≡ u)
unfolding pick
told_of true e = absurd cc
told_of false e = (refl, cc)

-- one that refuses is the verdict, ..
pub refusal : {v u : Verdict} → Err v ≡ judged u → (passes u ≡ false) × (v ≡ u)
unfolding judged
refusal {v} {u} e = told_of (passes u) e

passed_of : (b : Bool) (u : Verdict) → ◌≡◌ {A = Result (Unit {0}) Verdict} (Ok tt) (pick b (Ok tt) (Err u)) → b ≡ true
unfolding pick
passed_of true u e = refl
passed_of false u e = absurd cc

only_taken : (u : Verdict) → passes u ≡ true → Verdict.Answered Answer.Taken ≡ u
unfolding passes verdict_number taken
only_taken Verdict.Receiver y = absurd (not_both y refl)
only_taken Verdict.Forged y = absurd (not_both y refl)
only_taken Verdict.Clash y = absurd (not_both y refl)
only_taken (Verdict.Answered a) y = ap Verdict.Answered (sym (taken_is a y))

-- .. and one that passes is "taken"
pub passing : {u : Verdict} → Ok tt ≡ judged u → (passes u ≡ true) × (Verdict.Answered Answer.Taken ≡ u)
unfolding judged
passing {u} e = let y = passed_of (passes u) u e in (y, only_taken u y)
