-- No voter from number n on: so far none was. Assumes nothing.
use Rattle.std.proofs.Common.{ℕ, Bool, not, ◌&&◌, ◌||◌, ltb, ◌≡◌, ◌∙◌, ap, refl, rules, sym}
use Rattle.pala.specs.Shape.{voters_ok}
use Rattle.table.proofs.Laws.{all_below-step}
use Rattle.table.specs.Rows.{has_voter, most_nodes}
use Rattle.table.specs.Scan.{all_below}
use Rattle.shape.proofs.places.voters_ok.Goals as goal

pub loop-k-init : goal.loop-k-init
unfolding all_below
loop-k-init c = refl

pub loop-k-preserved : goal.loop-k-preserved
unfolding has_voter
loop-k-preserved c =
    let a = c.args in
    let ok : ℕ → Bool = λ i. ltb i a.n || not (has_voter a.b.now i) in
    let k = c.loop-k.k in
    ap (λ (t : Bool). t && ok k) c.loop-k.invariant ∙ sym (all_below-step k ok)

pub returns : goal.returns
unfolding voters_ok
returns c =
    let a = c.args in
    let end : c.loop-k.k ≡ most_nodes = search rules in
    c.loop-k.invariant ∙ ap (λ (k : ℕ). all_below k (λ i. ltb i a.n || not (has_voter a.b.now i))) end
