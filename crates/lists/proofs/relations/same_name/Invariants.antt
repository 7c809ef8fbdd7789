-- Two names are the same: those bytes passed are, where the flag still stands, and those left are. Assumes nothing.
use Rattle.std.proofs.Common.{◌≡◌, ◌&&◌, length}
use Rattle.std.specs.Iterator.Adapters.{zip_first, zip_second}
use Rattle.std.specs.Slice.Iter.{iter_rest}
use Rattle.table.specs.Bytes.{same}
use Rattle.lists.proofs.relations.same_name.Given as goal

abbrev pub invariant-loop-x : goal.invariant-loop-x
invariant-loop-x l =
    let a = iter_rest (zip_first l.x-iterator) in
    let b = iter_rest (zip_second l.x-iterator) in
    (length a ≡ length b) × (same l.a l.b ≡ (l.alike && same a b))
