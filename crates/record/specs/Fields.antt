-- A record's fields as one value, each by the definition that `pala` gives of it.
use Rattle.std.specs.Prelude.{ℕ, List, Option, Some, None, eqb, length}
use Rattle.table.specs.Scan.{pick}
use Rattle.pala.specs.Record.{record_bytes, kind_of, sender_of, epoch_of, name_of, parent_name_of, payload_of, unused_zero}
use Rattle.record.specs.declared.Fields.{Fields}

-- the fields of a record of 96 bytes; `clean`: "Fields a kind doesn't use are zero"
unfoldable pub fields_of : List ℕ → Fields
unfolding epoch_of name_of parent_name_of payload_of unused_zero
fields_of r =
    record {
      name = name_of r;
      parent = parent_name_of r;
      payload = payload_of r;
      epoch = record { 0 = epoch_of r };
      sender = record { 0 = sender_of r };
      kind = kind_of r;
      clean = unused_zero r;
    }

-- the fields of a record, none where it isn't 96 bytes
unfoldable pub fields_in : List ℕ → Option Fields
unfolding pick fields_of
fields_in r = pick (eqb (length r) record_bytes) (Some (fields_of r)) None
