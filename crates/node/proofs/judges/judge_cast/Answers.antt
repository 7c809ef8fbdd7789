-- Rows 7 to 14 of a cast: there is a block to vote for, or none. Assumes nothing.
use Prim.Native.Nat.{ℕ}
use Rattle.node.proofs.ByKind.{cast_rows, cast_judged}
use Rattle.node.proofs.Ways.Through.{refuses, passes, takes}
use Rattle.node.proofs.Ways.{Through}
use Rattle.pala.proofs.Tests.{either}
use Rattle.pala.specs.Answers.{taken}
use Rattle.pala.specs.Effects.{picked}
use Rattle.rules.specs.Standing.{chosen}
use Rattle.std.specs.Option.{ok_or}
use Rattle.std.specs.Prelude.{Option}
use Rattle.table.proofs.Laws.{pick_yes, pick_no}
use Rattle.table.specs.Rows.{rows, size}
use Rattle.table.specs.declared.Answer.{Answer}
use Rattle.table.specs.declared.Place.{Place}
use Rattle.table.specs.declared.State.{State}
use borrow.Author.Tests.{ltb-true, ltb-false, le-leb, lt-leb}
use lib.Dec.{ltb}
use mathlib.Core.Bool.{true, false}
use mathlib.Core.Logic.{⊎_elim}
use mathlib.Core.Path.{◌≡◌, refl, sym, ap, subst, ◌∙◌}
use Rattle.node.proofs.judges.judge_cast.Goals as goal

chosen_way : (s : State) → Through (cast_rows s) (picked s) (ok_or (chosen s) Answer.Nothing)
unfolding chosen picked taken
chosen_way s =
    let p : ℕ = picked s in
    let end : ℕ = size (rows s) in
    let way = λ (x : Option Place). Through (cast_rows s) (picked s) (ok_or x Answer.Nothing) in
    ⊎_elim
    (λ (e : ltb p end ≡ true). subst way (sym (pick_yes (ltb p end) _ _ e)) (passes (lt-leb end p (ltb-true p end e)) takes))
    (λ (e : ltb p end ≡ false). subst way (sym (pick_no (ltb p end) _ _ e)) (refuses (le-leb end p (ltb-false p end e)) refl))
    (either (ltb p end))

pub returns : goal.returns
returns c r e =
    c.ok_or.ensures.value ∙ ap (λ (x : Option Place). ok_or x Answer.Nothing) c.ballot.ensures ∙ cast_judged _ _ (chosen_way c.args.s.now) r e
