-- A head: each test by itself, then the hall of a good one. Assumes nothing.
use Rattle.hall.proofs.Fresh.{bits_read, hall_read, opens_bits, opens-cut, opens-fresh, opens-many, opens_none}
use Rattle.std.proofs.Common.{arith, ◌∙◌, sym, ap, Some}
use Rattle.hall.proofs.heads.fresh_hall.Goals as goal
use Rattle.hall.proofs.heads.fresh_hall.Goals.{then-n-lt1-via-then-n-lt1, then-n-lt1-via-else-n-lt1+then-n-gt-MOST_GATEWAYS, then-n-lt1-via-else-n-lt1+else-n-gt-MOST_GATEWAYS+then-not-none_from}

pub returns-in_default : goal.returns-in_default
returns-in_default c = opens-cut c.args.head.now c.in_default.len_below

pub returns-then-n-lt1 : goal.returns-then-n-lt1
returns-then-n-lt1 c =
    let head = c.args.head.now in
    elim c.then-n-lt1.branch [
      | then-n-lt1-via-then-n-lt1 w ↦ opens_none head (omega (arith, c.from-n.ensures, w.if-n-lt1.true))
      | then-n-lt1-via-else-n-lt1+then-n-gt-MOST_GATEWAYS w ↦ opens-many head (omega (arith, c.from-n.ensures, w.if-n-gt-MOST_GATEWAYS.true))
      | then-n-lt1-via-else-n-lt1+else-n-gt-MOST_GATEWAYS+then-not-none_from w ↦
          opens_bits head (sym (w.none_from.ensures ∙ bits_read head _ _ c.from-n.ensures c.honest_of-honest.ensures) ∙ w.if-not-none_from.true)
    ]

pub returns : goal.returns
returns c =
    let head = c.args.head.now in
    ap Some (ap (λ s. record { states = s; honest = c.honest_of-honest.result; n = c.from-n.result }) c.started.ensures ∙ hall_read head _ _ c.from-n.ensures c.honest_of-honest.ensures)
    ∙ opens-fresh head c.in-len2-up.len_at_least (omega (arith, c.from-n.ensures, c.if-n-lt1.false)) (omega (arith, c.from-n.ensures, c.if-n-gt-MOST_GATEWAYS.false))
    (sym (c.none_from.ensures ∙ bits_read head _ _ c.from-n.ensures c.honest_of-honest.ensures) ∙ c.if-not-none_from.false)
