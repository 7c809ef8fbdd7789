-- The digits before the last one, if any, then the last. Assumes nothing.
use Rattle.std.proofs.Common.{ℕ, sym, subst, arith}
use Rattle.lines.proofs.Laws.{length_more, Front, front_none, front_more, last_fits, last_put}
use Rattle.lines.proofs.text.Line.+put_digits.Goals as goal
use Rattle.lines.proofs.text.Line.+put_digits.Goals.{Joined-k-ge-TEN, then-k-ge-TEN, else-k-ge-TEN}

front : {t : ℕ} (c : Joined-k-ge-TEN t) → Front c.args.self.now.text.now c.args.self.now.at c.args.k c.if-k-ge-TEN.self.at c.if-k-ge-TEN.self.text.now
front c =
    let was = c.args.self.now in
    elim c.if-k-ge-TEN.branch [
      | then-k-ge-TEN w ↦
          subst (λ x. Front was.text.now was.at c.args.k x.at x.text.now) (sym w.self-is) (front_more c.args.k w.if-k-ge-TEN.true w.put_digits.ensures.put)
      | else-k-ge-TEN w ↦
          subst (λ x. Front was.text.now was.at c.args.k x.at x.text.now) (sym w.self-is)
          (front_none was.text.now was.at c.args.k (omega (arith, c.requires)) w.if-k-ge-TEN.false)
    ]

pub put_digits-requires : goal.put_digits-requires
put_digits-requires t c = (omega arith, omega (arith, length_more c.args.k c.if-k-ge-TEN.true, c.requires))

pub put_byte-requires : goal.put_byte-requires
put_byte-requires t c = last_fits c.requires (front (goal.at.put_byte-requires t c).Joined-k-ge-TEN)

pub returns-clause-put : goal.returns-clause-put
returns-clause-put t c = last_put c.requires (front (goal.at.returns-clause-put t c).Joined-k-ge-TEN) c.put_byte.ensures.put
