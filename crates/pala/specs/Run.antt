-- 01, "Reading it out": a run of records.
use Rattle.std.specs.Prelude.{ℕ, zero, suc, ◌+◌, ◌*◌, ◌%◌, not, ◌||◌, List, [], ◌∷◌, eqb, ltb, length, take, drop, replicate}
use Rattle.table.specs.declared.Answer.{Answer}
use Rattle.table.specs.declared.State.{State}
use Rattle.table.specs.Scan.{pick}
use Rattle.table.specs.Rows.{capacity, name_bytes}
use Rattle.pala.specs.Answers.{number, taken, lowest_of}
use Rattle.pala.specs.Counts.{nodes}
use Rattle.pala.specs.Record.{record_bytes}
use Rattle.pala.specs.Lists.{final_list}
use Rattle.pala.specs.Step.{step, start}

-- bytes in stretches of one size, the last as long as what is left; there are no more of them than bytes
unfoldable pub cut_in : ℕ → ℕ → List ℕ → List (List ℕ)
cut_in size zero bytes = []
cut_in size (suc k) [] = []
cut_in size (suc k) (b ∷ bytes) = take size (b ∷ bytes) ∷ cut_in size k (drop size (b ∷ bytes))

unfoldable pub cut : ℕ → List ℕ → List (List ℕ)
unfolding cut_in
cut size bytes = cut_in size (length bytes) bytes

-- "Each 96-byte stretch"
unfoldable pub stretches : List ℕ → List (List ℕ)
unfolding cut
stretches bytes = cut record_bytes bytes

-- an out buffer to lend
unfoldable pub lent : List ℕ
lent = replicate record_bytes 0

-- the state after each record has been put to the newest state: "Refused records are passed over"
unfoldable pub played : State → List (List ℕ) → State
unfolding step lent
played s [] = s
played s (r ∷ more) = played (step s r lent).state more

-- what a run hands back
pub record Ran : Type 0 where
  pub code : ℕ
  pub list : List ℕ

-- "list buffer under 2,048 bytes": the room for the names of a full table
abbrev pub full_list : ℕ
full_list = name_bytes * capacity

-- "3: slice not a multiple of 96, or list buffer under 2,048 bytes; 15 as above; lowest first"
unfoldable pub run_answer : ℕ → ℕ → List ℕ → List ℕ → Answer
unfolding lowest_of nodes
run_answer n own records list =
    lowest_of
    ((not (eqb (length records % record_bytes) 0) || ltb (length list) full_list, Answer.Length)
    ∷ (not (nodes n own), Answer.Setup)
    ∷ [])

-- "The answer is refusal x 65,536 + count of final names."
unfoldable pub run_code : Answer → ℕ → ℕ
unfolding number
run_code a held = number a * 65536 + held

-- "A run: n, own number, a slice of records one after the other, a list buffer."; a refusal: "then count 0 and nothing written"
unfoldable pub ran : Answer → ℕ → ℕ → List ℕ → List ℕ → Ran
unfolding pick taken run_code final_list played start stretches
ran a n own records list =
    record {
      code = run_code a (pick (taken a) (final_list (played (start n own).state (stretches records)) list).count 0);
      list = pick (taken a) (final_list (played (start n own).state (stretches records)) list).list list;
    }

unfoldable pub run : ℕ → ℕ → List ℕ → List ℕ → Ran
unfolding ran run_answer
run n own records list = ran (run_answer n own records list) n own records list
