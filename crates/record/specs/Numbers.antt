-- 01's numbers of the kinds.
use Rattle.std.specs.Prelude.{ℕ, Result, Ok, Err, eqb}
use Rattle.table.specs.Scan.{pick}
use Rattle.table.specs.declared.Answer.{Answer}
use Rattle.pala.specs.Record.{proposal_heard, vote_heard, clock_heard, propose_now, cast_now, minute_up}
use Rattle.record.specs.declared.kinds.Kind.{Kind}

-- the number of each kind
abbrev pub kind_number : Kind → ℕ
kind_number Kind.ProposalHeard = proposal_heard
kind_number Kind.VoteHeard = vote_heard
kind_number Kind.ClockHeard = clock_heard
kind_number Kind.ProposeNow = propose_now
kind_number Kind.CastNow = cast_now
kind_number Kind.MinuteUp = minute_up

-- the kind of each number; answer 4 for any other
unfoldable pub kind_in : ℕ → Result Kind Answer
unfolding pick
kind_in n =
    pick (eqb n proposal_heard) (Ok Kind.ProposalHeard)
    (pick (eqb n vote_heard) (Ok Kind.VoteHeard)
    (pick (eqb n clock_heard) (Ok Kind.ClockHeard)
    (pick (eqb n propose_now) (Ok Kind.ProposeNow)
    (pick (eqb n cast_now) (Ok Kind.CastNow)
    (pick (eqb n minute_up) (Ok Kind.MinuteUp)
    (Err Answer.Kind))))))
