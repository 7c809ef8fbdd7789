-- One record of a recording: its answer's number, and its line. Assumes nothing.
use Prim.Native.Nat.{ℕ, ◌+◌, ◌≤◌, ◌<◌}
use mathlib.Core.List.{List, [], ◌∷◌}
use mathlib.Core.Bool.{Bool, true, false}
use mathlib.Core.Path.{◌≡◌, refl, sym, ap, ◌∙◌}
use Rattle.std.specs.Prelude.{Result, Ok, Err, unwrap_or}
use Rattle.std.specs.Result.{result_err}
use lib.Dec.{lit<}
use lib.ListN.{length}
use Rattle.table.specs.declared.Answer.{Answer}
use Rattle.table.specs.declared.State.{State}
use Rattle.table.specs.declared.Place.{Place}
use Rattle.table.specs.Scan.{pick}
use Rattle.pala.specs.Answers.{number, taken, answered}
use Rattle.pala.specs.Lines.{spaced, line_of}
use Rattle.pala.specs.Lists.{final_names}
use Rattle.pala.specs.Run.{lent}
use Rattle.pala.specs.Shape.{well_shaped}
use Rattle.pala.specs.Step.{step}
use Rattle.node.specs.declared.Decision.{Decision}
use Rattle.node.specs.Moves.{decision}
use Rattle.node.proofs.Calls.{taken_is, decided-verdict}
use Rattle.lines.specs.Text.{Put, line_most}
use Rattle.lines.proofs.Laws.{put_as}
use Rattle.lines.proofs.Going.{Recorded}
use Rattle.lines.proofs.Recording.{recording}

-- the answers' numbers are 0 to 15
pub number-few : (a : Answer) → number a < 16
unfolding number
number-few Answer.Taken = lit< tt
number-few Answer.State = lit< tt
number-few Answer.Torn = lit< tt
number-few Answer.Length = lit< tt
number-few Answer.Kind = lit< tt
number-few Answer.Filler = lit< tt
number-few Answer.Sender = lit< tt
number-few Answer.Epoch = lit< tt
number-few Answer.Name = lit< tt
number-few Answer.Unknown = lit< tt
number-few Answer.Order = lit< tt
number-few Answer.Turn = lit< tt
number-few Answer.Repeat = lit< tt
number-few Answer.Nothing = lit< tt
number-few Answer.Full = lit< tt
number-few Answer.Setup = lit< tt

-- the answer that a verdict is
told_by : (a : Answer) (p : Place) → unwrap_or (result_err (answered a p)) Answer.Taken ≡ a
unfolding answered pick
told_by a p = go (taken a) refl
  where
    go : (b : Bool) → taken a ≡ b → unwrap_or (result_err (pick b (Ok p) (Err a))) Answer.Taken ≡ a
    go true t = sym (taken_is a t)
    go false t = refl

pub told_is :
    (s : State) (r : List ℕ) {d : Decision} → well_shaped s ≡ true → d ≡ decision s r
    → unwrap_or (result_err d.verdict) Answer.Taken ≡ (step s r lent).answer
told_is s r shaped e =
    ap (λ (v : Result Place Answer). unwrap_or (result_err v) Answer.Taken) (decided-verdict s r e shaped) ∙ told_by _ _

-- a record played, and its line put
pub recorded :
    {s u : State} {r text after : List ℕ} {end past : ℕ} {a : Answer} {k answer names : ℕ} → a ≡ (step s r lent).answer → answer ≡ number a
    → u ≡ (step s r lent).state → names ≡ length (final_names u) → Put text end (spaced (k ∷ answer ∷ u.local.0 ∷ u.bar.0 ∷ names ∷ [])) past after
    → past ≤ end + line_most → Recorded recording s k r text end u past after
unfolding line_of
recorded {s} {u} {r} {k = k} told f state counted p short =
    record {
      state = state;
      line = put_as ((λ i. spaced (k ∷ f i ∷ u.local.0 ∷ u.bar.0 ∷ counted i ∷ [])) ∙ (λ i. line_of k (told i) (state i))) p;
      short = short;
    }
