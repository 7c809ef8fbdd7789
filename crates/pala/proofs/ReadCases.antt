-- "Reading it out": the final list, two of them side by side, and runs. Assumes nothing.
use Prim.Native.Nat.{ℕ}
use mathlib.Core.Bool.{true}
use mathlib.Core.List.{List, [], ◌∷◌, ◌++◌}
use mathlib.Core.Path.{◌≡◌, refl}
use lib.ListN.{drop, replicate}
use Rattle.table.specs.declared.Answer.{Answer}
use Rattle.table.specs.declared.State.{State}
use Rattle.table.specs.Rows.{blank}
use Rattle.pala.specs.Cases.{session, vote, A, B, C}
use Rattle.pala.specs.Record.{message}
use Rattle.pala.specs.Lists.{joined, final_list, relation, relation_number, relation_index, relation_code, tail}
use Rattle.pala.specs.Run.{run}
use Rattle.pala.proofs.States.{block, table, state_of}

-- a torn state that keeps B, on A, as its final block, beside C; own number 4 is a bad shape
abbrev final_b : ℕ → State
final_b own = state_of 4 own 3 3 3 [] (blank ∷ block A 1 0 3 ∷ block C 1 0 0 ∷ block B 2 1 3 ∷ []) true

abbrev sevens : ℕ → List ℕ
sevens k = replicate k 7

-- "names from the first block after genesis to the kept final block, 32 bytes each, into a lent buffer; the rest of it unchanged; the
-- count is returned. 1 for a badly shaped state, 3 for too little room, nothing written. A torn state can be read."
lists_hold :
    (final_list (final_b 0) (sevens 70) ≡ record { answer = Answer.Taken; count = 2; list = A ++ B ++ sevens 6 })
    × (final_list (final_b 0) (sevens 64) ≡ record { answer = Answer.Taken; count = 2; list = A ++ B })
    × (final_list (final_b 0) (sevens 63) ≡ record { answer = Answer.Length; count = 0; list = sevens 63 })
    × (final_list (final_b 4) (sevens 63) ≡ record { answer = Answer.State; count = 0; list = sevens 63 })
unfolding final_list table blank
lists_hold = (refl, refl, refl, refl)

-- what two lists show: relation, index, what reaches C, and the tail
record Pair : Type 0 where
  number : ℕ
  index : ℕ
  code : ℕ
  rest : List ℕ

unfoldable pair : List ℕ → List ℕ → Pair
unfolding relation relation_number relation_index relation_code tail
pair a b =
    record {
      number = relation_number (relation a b);
      index = relation_index (relation a b);
      code = relation_code (relation a b);
      rest = tail a b;
    }

-- a name that differs from B in its last byte
abbrev near_b : List ℕ
near_b = replicate 31 0x0B ++ (0x0C ∷ [])

-- "relation 0 equal, 1 first longer and beginning with the second, 2 the reverse, 3 fork, with the index of the first name that
-- differs (0 in the other relations), 4 a length that isn't a multiple of 32 (index 0)"; "relation x 2^60 + index"
relations_hold :
    (pair (A ++ B) (A ++ B) ≡ record { number = 0; index = 0; code = 0; rest = [] })
    × (pair [] [] ≡ record { number = 0; index = 0; code = 0; rest = [] })
    × (pair (A ++ B ++ C) A ≡ record { number = 1; index = 0; code = 1152921504606846976; rest = B ++ C })
    × (pair [] (A ++ B) ≡ record { number = 2; index = 0; code = 2305843009213693952; rest = A ++ B })
    × (pair (A ++ near_b) (A ++ B ++ C) ≡ record { number = 3; index = 1; code = 3458764513820540929; rest = [] })
    × (pair (A ++ B ++ C) B ≡ record { number = 3; index = 0; code = 3458764513820540928; rest = [] })
    × (pair (A ++ (0 ∷ [])) A ≡ record { number = 4; index = 0; code = 4611686018427387904; rest = [] })
    × (pair A (drop 1 B) ≡ record { number = 4; index = 0; code = 4611686018427387904; rest = [] })
unfolding pair
relations_hold = (refl, refl, refl, refl, refl, refl, refl, refl)

-- "The answer is refusal x 65,536 + count of final names": the session, where refused records "are passed over", and nothing played
runs_hold :
    (run 4 0 (joined (vote 3 C ∷ session ++ (vote 3 C ∷ []))) (sevens 2050) ≡ record { code = 1; list = A ++ sevens 2018 })
    × (run 4 0 [] (sevens 2048) ≡ record { code = 0; list = sevens 2048 })
unfolding run joined session message
runs_hold = (refl, refl)

-- "3: slice not a multiple of 96, or list buffer under 2,048 bytes; 15 as above; lowest first; then count 0 and nothing written"
runs_refused :
    (run 4 0 (drop 1 (joined session)) (sevens 2048) ≡ record { code = 196608; list = sevens 2048 })
    × (run 4 0 (joined session) (sevens 2047) ≡ record { code = 196608; list = sevens 2047 })
    × (run 33 0 (joined session) (sevens 2048) ≡ record { code = 983040; list = sevens 2048 })
    × (run 4 4 [] (sevens 2048) ≡ record { code = 983040; list = sevens 2048 })
    × (run 0 0 (0 ∷ []) (sevens 2047) ≡ record { code = 196608; list = sevens 2047 })
unfolding run joined session
runs_refused = (refl, refl, refl, refl, refl)
