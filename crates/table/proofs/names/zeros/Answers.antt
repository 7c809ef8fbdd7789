-- No byte passed is other than zero, where the flag still stands. Assumes nothing.
use Rattle.std.proofs.Common.{Bool, ◌&&◌, nat_eq, get_or, arith, refl, ap, ◌∙◌, sym}
use Rattle.table.proofs.Laws.{zeros-more}
use Rattle.table.specs.Bytes.{zeros}
use Rattle.table.proofs.names.zeros.Goals as goal

pub loop-b-init : goal.loop-b-init
unfolding zeros
loop-b-init c = refl

pub loop-b-preserved : goal.loop-b-preserved
loop-b-preserved c =
    let a = c.args.bytes.now in
    let i = c.loop-b.b-index in
    ap (λ (t : Bool). t && nat_eq (get_or a i 0) 0) c.loop-b.invariant ∙ sym (zeros-more a i (omega arith))
