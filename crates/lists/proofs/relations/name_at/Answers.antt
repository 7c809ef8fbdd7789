-- The k-th name. Assumes nothing.
use Rattle.std.proofs.Common.{ℕ, ◌+◌, ◌-◌, ◌*◌, ◌≡◌, take, drop, ap, arith}
use Rattle.pala.specs.Lists.{name_at}
use Rattle.table.specs.Rows.{name_bytes}
use Rattle.lists.proofs.relations.name_at.Goals as goal

pub returns : goal.returns
unfolding name_at
returns c =
    let from = name_bytes * c.args.k in
    let size : from + name_bytes - from ≡ name_bytes = omega arith in
    ap (λ (n : ℕ). take n (drop from c.args.list.now)) size
