-- The refusals in their order; then the start, the records and the final list.
use Rattle.std.proofs.Common.{◌≡◌, true, sym, ap, ◌∙◌}
use Rattle.gateway.proofs.Answered.{Told, start_told, run-broken, run_small, run_setup, run-taken}
use Rattle.pala.proofs.Calls.{start-shaped}
use Rattle.pala.specs.Answers.{taken}
use Rattle.pala.specs.Counts.{nodes}
use Rattle.pala.specs.Run.{played, stretches}
use Rattle.pala.specs.Shape.{well_shaped}
use Rattle.pala.specs.Step.{Started}
use Rattle.std.specs.Prelude.{Err}
use Rattle.table.specs.declared.Answer.{Answer}
use Rattle.gateway.proofs.runs.run.Goals as goal
use Rattle.gateway.proofs.runs.run.Goals.{Joined-then-records-ne0, Else-not-is_taken}
use Rattle.gateway.proofs.runs.run.Goals.{then-records-ne0-via-then-records-ne0 as broken, then-records-ne0-via-else-records-ne0+then-list-lt-FULL_LIST as small}

off : (c : Joined-then-records-ne0) → Told c.args.n c.args.own c.args.records.now c.args.list.now (Err Answer.Length) c.args.list.now
off c =
    elim c.then-records-ne0.branch [
      | broken w ↦ run-broken _ _ _ _ w.if-records-ne0.true
      | small w ↦ run_small _ _ _ _ w.if-list-lt-FULL_LIST.true
    ]

pub returns-then-records-ne0 : goal.returns-then-records-ne0
returns-then-records-ne0 c = record { answer = (off c).0; list = (off c).1 }

pub returns-then-not-is_taken : goal.returns-then-not-is_taken
returns-then-not-is_taken c =
    let answer = ap (λ (x : Started). x.answer) c.start-reply.ensures in
    let told = run_setup _ _ _ _ c.if-records-ne0.false c.if-list-lt-FULL_LIST.false answer (sym c.is_taken.ensures ∙ c.if-not-is_taken.true) in
    record { answer = told.0; list = told.1 }

starts : (c : Else-not-is_taken) → nodes c.args.n c.args.own ≡ true
starts c =
    sym (start_told c.args.n c.args.own)
    ∙ ap (λ (x : Started). taken x.answer) (sym c.start-reply.ensures)
    ∙ sym c.is_taken.ensures
    ∙ c.if-not-is_taken.false

pub play-requires : goal.play-requires
play-requires c =
    ap (λ (x : Started). well_shaped x.state) c.start-reply.ensures
    ∙ start-shaped c.args.n c.args.own (starts (goal.at.play-requires c).Else-not-is_taken)

pub returns : goal.returns
returns c =
    let last = c.play.ensures.state ∙ ap (λ (x : Started). played x.state (stretches c.args.records.now)) c.start-reply.ensures in
    let told =
    run-taken _ _ _ _ c.if-records-ne0.false c.if-list-lt-FULL_LIST.false (starts (goal.at.returns c).Else-not-is_taken) c.play.ensures.shaped last
    c.final_list_shaped.ensures.answer c.final_list_shaped.ensures.list in
    record { answer = told.0; list = told.1 }
