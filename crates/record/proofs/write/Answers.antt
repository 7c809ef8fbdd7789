-- A record is written: five copies, one after the other, fill a buffer of 96 bytes. Assumes nothing.
use Rattle.std.proofs.Common.{rules, sym, [], ◌∷◌, ◌∙◌, arith}
use Rattle.record.proofs.Laws.{written}
use Rattle.table.proofs.Laws.{pick_yes}
use borrow.Author.Tests.{eq-eqb}
use Rattle.pala.specs.Record.{low_first}
use Rattle.record.proofs.write.Goals as goal

pub returns : goal.returns
unfolding low_first
returns c =
    let held = c.if-out-ne-RECORD_BYTES.false in
    let kind = c.low_byte.ensures in
    let sender = c.low_byte-2.ensures in
    written _ _ _ _ c.args.out.now _ _ _ _ _ _ _ _ _ _ held
    c.copy_from_slice.ensures.after (λ i. kind i ∷ sender i ∷ 0 ∷ 0 ∷ [])
    c.copy_from_slice-2.ensures.after c.to_le_bytes.ensures
    c.copy_from_slice-3.ensures.after (search rules)
    c.copy_from_slice-4.ensures.after (search rules)
    c.copy_from_slice-5.ensures.after (search rules) (omega arith)
    ∙ sym (pick_yes _ _ _ (eq-eqb _ _ held))
