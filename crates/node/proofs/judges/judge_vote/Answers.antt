-- Rows 7 to 14 of a vote: each test is a row, passed or refused by. Assumes nothing.
use Rattle.std.proofs.lemmas.Bool.{or_from}
use Prim.Native.Nat.{ℕ}
use Rattle.node.proofs.ByKind.{vote_judged}
use Rattle.node.proofs.Facts.{misses, hits, voter_there, lost}
use Rattle.node.proofs.Ways.Through.{refuses, passes, takes}
use Rattle.pala.proofs.Tests.{or_l, or_r}
use Rattle.pala.specs.Answers.{taken}
use Rattle.std.proofs.lemmas.Result.{err_from_is_err_and}
use Rattle.std.specs.Prelude.{Ok}
use lib.Dec.{eqb}
use mathlib.Core.Path.{refl, sym, ap, ◌∙◌}
use Rattle.node.proofs.judges.judge_vote.Goals as goal

pub returns-in_err-block : goal.returns-in_err-block
unfolding taken
returns-in_err-block c r e =
    let p = err_from_is_err_and c.from_residual.result c.from_residual.ensures.1 in
    rw (p.1, p.2)
    (lost c.in_err-block.ensures.value c.in_err-block.ensures.ok_part
    ∙ vote_judged _ _ _ c.requires (refuses (or_r _ _ (misses _ _ (sym c.find.ensures ∙ c.in_err-block.ensures.ok_part))) refl) r e)

pub returns-then-eq : goal.returns-then-eq
unfolding taken
returns-then-eq c =
    let there = hits _ _ _ (sym c.find.ensures ∙ c.in_ok-block.ensures.ok_part) in
    vote_judged _ _ _ c.requires (refuses (or_l _ _ (ap (λ (k : ℕ). eqb k 0) (sym there.0) ∙ sym c.if-eq.ensures)) refl)

pub returns-then-has_voter : goal.returns-then-has_voter
unfolding taken
returns-then-has_voter c =
    let there = hits _ _ _ (sym c.find.ensures ∙ c.in_ok-block.ensures.ok_part) in
    vote_judged _ _ _ c.requires
    (passes (or_from _ _ (ap (λ (k : ℕ). eqb k 0) (sym there.0) ∙ sym c.if-eq.ensures) there.1)
    (refuses (voter_there _ _ there.0 c.at.ensures c.has_voter.ensures ∙ c.if-has_voter.true) refl))

pub returns : goal.returns
returns c r e =
    let there = hits _ _ _ (sym c.find.ensures ∙ c.in_ok-block.ensures.ok_part) in
    ap (λ k. Ok (record { 0 = k })) there.0
    ∙ vote_judged _ _ _ c.requires
    (passes (or_from _ _ (ap (λ (k : ℕ). eqb k 0) (sym there.0) ∙ sym c.if-eq.ensures) there.1)
    (passes (voter_there _ _ there.0 c.at.ensures c.has_voter.ensures ∙ c.if-has_voter.false)
    takes)) r e
