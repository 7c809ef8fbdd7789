-- The fields of a record, each as it was read. Assumes nothing.
use Rattle.std.proofs.Common.{Some, sym, ◌∙◌}
use Rattle.pala.specs.Record.{name_of, parent_name_of, payload_of}
use Rattle.record.proofs.Laws.{epoch_bytes}
use Rattle.record.specs.Fields.{fields_of, fields_in}
use Rattle.table.proofs.Laws.{pick_yes}
use borrow.Author.Tests.{eq-eqb}
use Rattle.record.proofs.fields_at.Goals as goal

pub returns : goal.returns
unfolding fields_in fields_of name_of parent_name_of payload_of
returns c =
    let r = c.args.rec.now in
    let held = c.if-rec-ne-RECORD_BYTES.false in
    let name = c.part.ensures in
    let parent = c.part-2.ensures in
    let payload = c.part-3.ensures in
    let epoch = epoch_bytes r held _ _ c.part-4.ensures c.from_le_bytes.ensures in
    let sender = c.from.ensures in
    let kind = c.from-2.ensures in
    let clean = c.unused_zero.ensures in
    (λ i. Some record { name = name i; parent = parent i; payload = payload i; epoch = record { 0 = epoch i }; sender = record { 0 = sender i }; kind = kind i; clean = clean i })
    ∙ sym (pick_yes _ _ _ (eq-eqb _ _ held))
