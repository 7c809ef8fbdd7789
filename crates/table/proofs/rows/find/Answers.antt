-- The place of a name: no row passed has it. Assumes nothing.
use Rattle.std.proofs.Common.{rules, arith, ◌≡◌, ◌∙◌, suc, length, sym, ap, false, [], get_or, below_more}
use Rattle.table.proofs.Laws.{at_rows, found_at, found_none, same_differs, size-rows}
use Rattle.table.specs.Bytes.{same}
use Rattle.table.specs.Rows.{capacity, rows, size}
use Rattle.table.specs.declared.Block.{Block}
use Rattle.table.proofs.rows.find.Goals as goal
use Rattle.table.proofs.rows.find.Goals.{Start, After-size_of-k-end, else-held-name-via-then-held-name+else-same_name, else-held-name-via-else-held-name}

held : (c : Start) → length c.args.s.now.blocks ≡ suc capacity
held c = search rules

-- the loop's end is the table's
ends : (c : After-size_of-k-end) → c.size_of-k-end.result ≡ size (rows c.args.s.now)
ends c =
    let l = held c.before in
    omega (arith, size-rows c.args.s.now)

-- what the kit reads past an array
abbrev unread : Block
unread = record { name = []; payload = []; voters = []; epoch = record { 0 = 0 }; parent = record { 0 = 0 } }

pub returns-then-same_name : goal.returns-then-same_name
returns-then-same_name c =
    let h = held (goal.at.returns-then-same_name c).Start in
    let there = at_rows c.args.s.now c.loop-k.k unread (omega arith) (omega arith) in
    let here = ap (λ (b : Block). same b.name c.args.name.now) there ∙ sym c.same_name.ensures ∙ c.if-same_name.true in
    sym (found_at _ _ c.loop-k.k (omega (arith, ends (goal.at.returns-then-same_name c).After-size_of-k-end)) here c.loop-k.invariant)

pub loop-k-preserved : goal.loop-k-preserved
loop-k-preserved c =
    let h = held (goal.at.loop-k-preserved c).Start in
    let name = c.args.name.now in
    let there = at_rows c.args.s.now c.loop-k.k unread (omega arith) (omega arith) in
    let other : same (get_or c.args.s.now.blocks c.loop-k.k unread).name name ≡ false =
    elim c.else-held-name.branch [
      | else-held-name-via-then-held-name+else-same_name w ↦ sym w.same_name.ensures ∙ w.if-same_name.false
      | else-held-name-via-else-held-name w ↦ same_differs _ name 0 w.if-held-name.false
    ] in
    below_more _ _ c.loop-k.invariant (ap (λ (b : Block). same b.name name) there ∙ other)

pub returns : goal.returns
returns c =
    let e = ends (goal.at.returns c).After-size_of-k-end in
    sym (found_none _ _ (λ i m. c.loop-k.invariant i (omega arith)))
