-- What the five steps need of a table's columns and of what stands beside it.
use Rattle.std.specs.Prelude.{ℕ, max, min, Bool, List, Option, Some, None, ltb}
use Rattle.table.specs.declared.Epoch.{Epoch}
use Rattle.table.specs.declared.Place.{Place}
use Rattle.table.specs.declared.State.{State}
use Rattle.table.specs.Scan.{pick}
use Rattle.table.specs.Rows.{rows, size}
use Rattle.pala.specs.Rules.{lower, fall, among, agreed, ballot}
use Rattle.rules.specs.declared.Standing.{Standing}
use Rattle.rules.specs.declared.Top.{Top}
use Rattle.rules.specs.declared.columns.Columns.{Columns}
use Rattle.rules.specs.declared.scans.Tops.{Tops}
use Rattle.rules.specs.Columns.{places, up_in, epoch_in, mark_in, freshest_by, freshest_normal_by}

-- a place and its epoch
abbrev pub top_at : (ℕ → ℕ) → ℕ → Top
top_at epoch p = record { place = record { 0 = p }; epoch = record { 0 = epoch p } }

-- the freshest block and the freshest normal one
unfoldable pub tops_by : ℕ → (ℕ → ℕ) → (ℕ → ℕ) → (ℕ → Bool) → Tops
unfolding freshest_by freshest_normal_by
tops_by k up epoch mark =
    record {
      fresh = top_at epoch (freshest_by k up epoch mark);
      normal = top_at epoch (freshest_normal_by k up epoch mark);
    }

-- steps 2, 3 and 5, over no more places than the columns have
unfoldable pub standing_by : Columns → List Epoch → ℕ → ℕ → ℕ → Standing
unfolding tops_by lower fall among agreed
standing_by c clocks n local kept =
    let up : ℕ → ℕ = up_in c in
    let tops : Tops = tops_by (min c.size places) up (epoch_in c) (mark_in c) in
    let next : ℕ = lower up tops.normal.place.0 in
    record {
      fresh = tops.fresh.epoch;
      clock = record { 0 = max local (agreed n clocks) };
      candidate = record { 0 = next };
      forward = among kept (fall up next);
      back = among next (fall up kept);
    }

-- "the lowest place that may be voted for"; none where `ballot` is past the end
unfoldable pub chosen : State → Option Place
unfolding pick ballot rows
chosen s =
    let p : ℕ = ballot s.n (rows s) s.local.0 s.bar.0 s.voted.0 in
    pick (ltb p (size (rows s))) (Some (record { 0 = p })) None
