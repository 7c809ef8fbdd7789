-- The turns so far, each of a full piece.
use Rattle.std.proofs.Common.{◌≡◌, List, All, length}
use denote.Param.Always.{always_mut}
use Rattle.intake.specs.Turns.{Turn, Took}
use Rattle.intake.proofs.drive.Given as goal

abbrev pub invariant-turns : goal.invariant-turns
invariant-turns g l =
    always_mut g.F.FnMut l.play
    × ((turns : List Turn)
    × Took g.F.FnMut g.row.TEXT (g.R.Read.remaining l.initial.reader) (g.W.Write.contents l.initial.writer) l.initial.play turns (g.R.Read.remaining l.reader) (g.W.Write.contents l.writer) l.play
    × All (λ (t : Turn). length t.piece ≡ g.row.PIECE) turns
    × (length turns ≡ l.counter))
