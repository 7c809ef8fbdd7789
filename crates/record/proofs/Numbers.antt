-- Laws of the kinds' numbers. Assumes nothing.
use Rattle.std.proofs.Common.{◌≡◌, refl, ℕ, ◌+◌, false, [], ◌∷◌, Ok, Err, arith}
use denote.Enum.Declared.{tag_of}
use Rattle.table.specs.Scan.{pick}
use Rattle.table.specs.declared.Answer.{Answer}
use Rattle.pala.specs.Record.{known_kind}
use Rattle.record.specs.declared.kinds.Kind.{Kind}
use Rattle.record.specs.contracts.kinds.Kind.{the_type}
use Rattle.record.specs.Numbers.{kind_in, kind_number}

-- `k as u32` is the kind's number
pub tag_number : (k : Kind) → tag_of the_type k + 1 ≡ kind_number k
tag_number Kind.ProposalHeard = refl
tag_number Kind.VoteHeard = refl
tag_number Kind.ClockHeard = refl
tag_number Kind.ProposeNow = refl
tag_number Kind.CastNow = refl
tag_number Kind.MinuteUp = refl

-- a kind's number gives it back
pub kind_back : (k : Kind) → kind_in (kind_number k) ≡ Ok k
unfolding kind_in pick
kind_back Kind.ProposalHeard = refl
kind_back Kind.VoteHeard = refl
kind_back Kind.ClockHeard = refl
kind_back Kind.ProposeNow = refl
kind_back Kind.CastNow = refl
kind_back Kind.MinuteUp = refl

-- a kind that is read has the number that it was read from
pub kind_ok : (n : ℕ) (k : Kind) → Ok k ≡ kind_in n → kind_number k ≡ n
unfolding kind_in pick
kind_ok n k h = grind arith

-- a number that is no kind: row 4
pub kind_err : (n : ℕ) (e : Answer) → Err e ≡ kind_in n → (e ≡ Answer.Kind) × (known_kind (n ∷ []) ≡ false)
unfolding kind_in pick known_kind
kind_err n e h = (grind arith, grind arith)
