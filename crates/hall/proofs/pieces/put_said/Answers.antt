-- The line of the record's number, the answer, and yes or no. Assumes nothing.
use Rattle.std.proofs.Common.{ℕ, ◌≡◌, ◌∙◌, List, Bor, ap, sym}
use Rattle.accord.specs.Text.{no_word, yes_word}
use Rattle.table.specs.Scan.{pick}
use Rattle.lines.specs.Text.{worded_at}
use Rattle.hall.proofs.pieces.put_said.Goals as goal
use Rattle.hall.proofs.pieces.put_said.Goals.{then-word, else-word}

pub returns : goal.returns
unfolding pick
returns c =
    let said : c.if-word.said.now ≡ pick c.args.word yes_word no_word =
    elim c.if-word.branch [
      | then-word w ↦ ap (λ (b : Bor (List ℕ)). b.now) w.said-is ∙ ap (λ b. pick b yes_word no_word) (sym w.if-word.true)
      | else-word w ↦ ap (λ (b : Bor (List ℕ)). b.now) w.said-is ∙ ap (λ b. pick b yes_word no_word) (sym w.if-word.false)
    ] in
    c.put_worded.ensures ∙ (λ i. worded_at c.args.k (c.from.ensures i) (said i) c.args.at c.args.text.now)
