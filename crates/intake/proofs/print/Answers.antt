-- A short text: what was put is what is written.
use Rattle.std.proofs.Common.{rules, length, ◌≡◌, refl, subst}
use Rattle.std.specs.Io.KnownBytes.{Appends}
use Rattle.std.proofs.lemmas.Result.{on_ok_weaker}
use Rattle.intake.proofs.Laws.{cut_take}
use Rattle.intake.proofs.print.Goals as goal

pub returns : goal.returns
returns g c =
    let text = c.put-length.new.arg2 in
    let size : length text ≡ g.row.TEXT = search rules in
    let cut = cut_take c.put-length.result _ _ text size c.min.ensures in
    on_ok_weaker c.write_all.result (λ w. (c.put-length.result, text, record { shown = _; shows = refl; left = _; met = c.put-length.ensures; leaves = refl }, subst (Appends (g.W.Write.contents c.args.writer.now) (g.W.Write.contents c.write_all.new.self)) cut w)) c.write_all.ensures.bytes
