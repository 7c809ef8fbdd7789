-- 01, "A session at node 0 of 4 (A is 32 bytes of 0x0A, B of 0x0B, and so on)", and the cases marked P.
use Rattle.std.specs.Prelude.{◌≡◌, ℕ, ◌+◌, Bool, true, false, List, [], ◌∷◌, map, take, drop, replicate}
use Rattle.table.specs.Rows.{name_bytes, payload_bytes}
use Rattle.pala.specs.Answers.{number}
use Rattle.pala.specs.Counts.{no_name, no_payload}
use Rattle.pala.specs.Record.{message, proposal_heard, vote_heard, clock_heard, cast_now}
use Rattle.pala.specs.Lists.{joined, final_names}
use Rattle.pala.specs.Run.{lent}
use Rattle.pala.specs.Step.{Outcome, step, start}

-- "A is 32 bytes of 0x0A"
abbrev pub letter : ℕ → List ℕ
letter x = replicate name_bytes x

abbrev pub genesis_name : List ℕ
genesis_name = no_name

abbrev pub A : List ℕ
A = letter 0x0A

abbrev pub B : List ℕ
B = letter 0x0B

abbrev pub C : List ℕ
C = letter 0x0C

abbrev pub E : List ℕ
E = letter 0x0E

abbrev pub F : List ℕ
F = letter 0x0F

-- "A', D' and E', whose names are 32 bytes of 0x1A, 0x1D and 0x1E", their payloads "0x01 throughout"
abbrev pub A' : List ℕ
A' = letter 0x1A

abbrev pub D' : List ℕ
D' = letter 0x1D

abbrev pub E' : List ℕ
E' = letter 0x1E

abbrev pub one_payload : List ℕ
one_payload = replicate payload_bytes 1

-- records as a host puts them: a block heard, a vote heard, a clock heard, a cast at node 0
abbrev pub hear : ℕ → ℕ → List ℕ → List ℕ → List ℕ
hear sender epoch name parent = message proposal_heard sender epoch name parent no_payload

abbrev pub hear' : ℕ → ℕ → List ℕ → List ℕ → List ℕ
hear' sender epoch name parent = message proposal_heard sender epoch name parent one_payload

abbrev pub vote : ℕ → List ℕ → List ℕ
vote sender name = message vote_heard sender 0 name no_name no_payload

abbrev pub clock : ℕ → ℕ → List ℕ
clock sender epoch = message clock_heard sender epoch no_name no_name no_payload

abbrev pub cast : List ℕ
cast = message cast_now 0 0 no_name no_name no_payload

-- "A heard from 1 (epoch 1, on genesis); cast; vote A from 1; vote A from 2; B heard from 2 (epoch 2, on A); cast; vote B from 1; vote B from 2"
unfoldable pub session : List (List ℕ)
unfolding message
session =
    hear 1 1 A genesis_name
    ∷ cast
    ∷ vote 1 A
    ∷ vote 2 A
    ∷ hear 2 2 B A
    ∷ cast
    ∷ vote 1 B
    ∷ vote 2 B
    ∷ []

-- "Input 4, 0, then"
unfoldable pub session_input : List ℕ
unfolding joined session
session_input = 4 ∷ 0 ∷ joined session

-- a line of five numbers below ten, in ASCII
abbrev pub said : ℕ → ℕ → ℕ → ℕ → ℕ → List ℕ
said a b c d e = (48 + a) ∷ 32 ∷ (48 + b) ∷ 32 ∷ (48 + c) ∷ 32 ∷ (48 + d) ∷ 32 ∷ (48 + e) ∷ 10 ∷ []

-- "Output", the last line being "end 8"
unfoldable pub session_text : List ℕ
unfolding joined
session_text =
    joined
    (said 1 0 1 0 0
    ∷ said 2 0 1 0 0
    ∷ said 3 0 1 0 0
    ∷ said 4 0 2 1 0
    ∷ said 5 0 2 1 0
    ∷ said 6 0 2 1 0
    ∷ said 7 0 2 1 0
    ∷ said 8 0 3 2 1
    ∷ (101 ∷ 110 ∷ 100 ∷ 32 ∷ 56 ∷ 10 ∷ [])
    ∷ [])

-- what is looked at after the last record
pub data Look : Type 0 where
  the_answer the_local the_bar the_finals the_sent the_torn : Look

unfoldable pub bit : Bool → ℕ
bit true = 1
bit false = 0

unfoldable pub seen : Look → Outcome → List ℕ
unfolding number joined final_names bit
seen the_answer o = number o.answer ∷ []
seen the_local o = o.state.local.0 ∷ []
seen the_bar o = o.state.bar.0 ∷ []
seen the_finals o = joined (final_names o.state)
seen the_sent o = o.out
seen the_torn o = bit o.state.torn ∷ []

-- a row of the table: records to play next, what is looked at after the last of them, what it must be
pub record Case : Type 0 where
  pub plays : List (List ℕ)
  pub looks : List (Look × List ℕ)

-- the outcome of the last of some records
unfoldable pub last : Outcome → List (List ℕ) → Outcome
unfolding step lent
last o [] = o
last o (r ∷ more) = last (step o.state r lent) more

-- what the rows show, each played on from where the one before it stopped
unfoldable pub shown : Outcome → List Case → List (List (List ℕ))
unfolding last seen
shown o [] = []
shown o (c ∷ more) = let q = last o c.plays in map (λ l. seen l.0 q) c.looks ∷ shown q more

unfoldable pub musts : List Case → List (List (List ℕ))
musts = map (λ c. map (λ l. l.1) c.looks)

-- node 0 of n, started
unfoldable pub began : ℕ → Outcome
unfolding start lent
began n = record { answer = (start n 0).answer; state = (start n 0).state; out = lent }

-- at node 0 of n, every row shows what it must
abbrev pub Holds : ℕ → List Case → Type 0
Holds n table = shown (began n) table ≡ musts table

abbrev pub play : List (List ℕ) → List (Look × List ℕ) → Case
play records looks = record { plays = records; looks = looks }

unfoldable pub p_table : List Case
unfolding session message
p_table =
    -- "P1 after record 4: final list empty. P2 after record 8: it is A alone."
    play (take 4 session) ((the_finals, []) ∷ [])
    ∷ play (drop 4 session) ((the_finals, A) ∷ [])
    -- "P3 vote B from 2 again: 12. P4 vote C from 3: 9."
    ∷ play (vote 2 B ∷ []) ((the_answer, 12 ∷ []) ∷ [])
    ∷ play (vote 3 C ∷ []) ((the_answer, 9 ∷ []) ∷ [])
    -- "P5 proposal, name new, of epoch 2 on B from 2: 10. P6 likewise epoch 5 on B from 2: 11."
    ∷ play (hear 2 2 C B ∷ []) ((the_answer, 10 ∷ []) ∷ [])
    ∷ play (hear 2 5 C B ∷ []) ((the_answer, 11 ∷ []) ∷ [])
    -- "P7 clock 5 from 1, 2, 3: local 5, bar 2 after the third."
    ∷ play (clock 1 5 ∷ clock 2 5 ∷ clock 3 5 ∷ []) ((the_local, 5 ∷ []) ∷ (the_bar, 2 ∷ []) ∷ [])
    -- "P8 then E heard from 1 (epoch 5, on A): 0, and cast: 13, since 1 is below the bar."
    ∷ play (hear 1 5 E A ∷ []) ((the_answer, 0 ∷ []) ∷ [])
    ∷ play (cast ∷ []) ((the_answer, 13 ∷ []) ∷ [])
    -- "P9 then F heard from 1 (epoch 5, on B): 0, cast votes F."
    ∷ play (hear 1 5 F B ∷ []) ((the_answer, 0 ∷ []) ∷ [])
    ∷ play (cast ∷ []) ((the_answer, 0 ∷ []) ∷ (the_sent, vote 0 F) ∷ [])
    -- "P10 votes F from 1 and 2: local 6, bar 5, final still A, as F is no normal block."
    ∷ play (vote 1 F ∷ vote 2 F ∷ []) ((the_local, 6 ∷ []) ∷ (the_bar, 5 ∷ []) ∷ (the_finals, A) ∷ [])
    ∷ []
