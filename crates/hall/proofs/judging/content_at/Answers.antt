-- The block's epoch and payload, and its parent's name. Assumes nothing.
use Rattle.accord.specs.Rulings.{content_at}
use Rattle.pala.specs.Rules.{epoch_at, lower, parent_of}
use Rattle.std.proofs.Common.{◌∙◌, ap, ltb}
use Rattle.table.specs.Rows.{at, rows}
use Rattle.table.specs.Scan.{pick}
use Rattle.table.specs.declared.Block.{Block}
use Rattle.table.specs.declared.Place.{Place}
use Rattle.hall.proofs.judging.content_at.Goals as goal

pub returns : goal.returns
unfolding content_at epoch_at parent_of lower
returns c =
    let t = rows c.args.s.now in
    let p = c.args.p.0 in
    let b = c.at-b.ensures in
    let up = c.at.ensures ∙ ap (λ (q : Place). at t q.0) c.lower.ensures ∙ ap (λ (x : Block). at t (pick (ltb x.parent.0 p) x.parent.0 0)) b in
    λ i. record { epoch = (b i).epoch.0; parent = (up i).name; payload = (b i).payload }
