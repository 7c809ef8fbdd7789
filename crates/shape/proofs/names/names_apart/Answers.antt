-- No row passed has the name of one below it, and the mark of each key passed is set. Assumes nothing.
use Rattle.std.proofs.Common.{arith, ap, below_more, length, true, ◌<◌, ◌∙◌, sym}
use Rattle.shape.proofs.Laws.{apart_new, marked, names_each, names_fail}
use Rattle.shape.specs.Parts.{key}
use lib.ListN.{length-map, length-set}
use Rattle.shape.proofs.names.names_apart.Goals as goal
use Rattle.shape.proofs.names.names_apart.Goals.{else-seen-mark-via-then-seen-mark+else-not-apart, else-seen-mark-via-else-seen-mark}

pub returns-then-not-apart : goal.returns-then-not-apart
returns-then-not-apart c = sym (names_fail _ c.loop-p.p (omega arith) (sym c.apart.ensures ∙ c.if-not-apart.true))

pub loop-p-preserved : goal.loop-p-preserved
loop-p-preserved c =
    let s = c.args.s.now in
    let p = c.loop-p.p in
    let keys = c.keys_of-keys.result in
    let marks = c.loop-p.invariant.0 in
    let held : s.count < length s.blocks = omega (arith, ap length c.keys_of-keys.ensures, length-map s.blocks (λ b. key b.name)) in (
      marked c.loop-p.seen keys p c.loop-p.invariant.2 marks,
      below_more _ _ c.loop-p.invariant.1
          (elim c.else-seen-mark.branch [
            | else-seen-mark-via-then-seen-mark+else-not-apart w ↦ sym w.apart.ensures ∙ w.if-not-apart.false
            | else-seen-mark-via-else-seen-mark w ↦ apart_new s keys c.keys_of-keys.ensures p (omega arith) held c.loop-p.seen marks w.if-seen-mark.false
          ]),
      length-set c.loop-p.seen _ true ∙ c.loop-p.invariant.2,
    )

pub returns : goal.returns
returns c = sym (names_each _ (λ p l. c.loop-p.invariant.1 p (omega arith)))
