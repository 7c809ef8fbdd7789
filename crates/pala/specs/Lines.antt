-- 01, "A session at node 0 of 4": what `replay` prints, as bytes.
use Rattle.std.specs.Prelude.{ℕ, zero, suc, ◌+◌, ◌/◌, ◌%◌, true, false, List, [], ◌∷◌, ◌++◌, ltb, length}
use Rattle.table.specs.declared.Answer.{Answer}
use Rattle.table.specs.declared.State.{State}
use Rattle.pala.specs.Answers.{number, taken}
use Rattle.pala.specs.Lists.{final_names}
use Rattle.pala.specs.Run.{stretches, lent}
use Rattle.pala.specs.Step.{step, start}

-- a number in decimal digits; it has no more digits than its own value counts, and one at least
unfoldable pub digits_in : ℕ → ℕ → List ℕ
digits_in zero k = (48 + k % 10) ∷ []
digits_in (suc d) k = elim (ltb k 10) [ true ↦ (48 + k) ∷ [] | false ↦ digits_in d (k / 10) ++ ((48 + k % 10) ∷ []) ]

unfoldable pub digits : ℕ → List ℕ
unfolding digits_in
digits k = digits_in k k

-- a space, a new line, "end", "setup"
abbrev pub space : ℕ
space = 32

abbrev pub new_line : ℕ
new_line = 10

abbrev pub end_word : List ℕ
end_word = 101 ∷ 110 ∷ 100 ∷ []

abbrev pub setup_word : List ℕ
setup_word = 115 ∷ 101 ∷ 116 ∷ 117 ∷ 112 ∷ []

-- numbers with a space between them, and a new line
unfoldable pub spaced : List ℕ → List ℕ
unfolding digits
spaced [] = new_line ∷ []
spaced (x ∷ []) = digits x ++ (new_line ∷ [])
spaced (x ∷ y ∷ l) = digits x ++ (space ∷ spaced (y ∷ l))

-- "Per record a line: record number, answer, local epoch, bar, length of the final list."
unfoldable pub line_of : ℕ → Answer → State → List ℕ
unfolding spaced number final_names
line_of k a s = spaced (k ∷ number a ∷ s.local.0 ∷ s.bar.0 ∷ length (final_names s) ∷ [])

-- the lines of records, of which `before` came earlier
unfoldable pub lines : State → ℕ → List (List ℕ) → List ℕ
unfolding line_of step lent
lines s before [] = []
lines s before (r ∷ more) =
    let o = step s r lent in
    line_of (suc before) o.answer o.state ++ lines o.state (suc before) more

-- "Last, `end` and the number of lines."
unfoldable pub end_line : ℕ → List ℕ
unfolding spaced
end_line k = end_word ++ (space ∷ spaced (k ∷ []))

-- "If the start is refused or under two bytes come: only `setup 15`."
unfoldable pub setup_line : List ℕ
unfolding spaced number
setup_line = setup_word ++ (space ∷ spaced (number Answer.Setup ∷ []))

-- "The program `replay` reads standard input: n, own number, then records."
unfoldable pub replay : List ℕ → List ℕ
unfolding lines end_line setup_line start taken stretches
replay [] = setup_line
replay (n ∷ []) = setup_line
replay (n ∷ own ∷ records) =
    elim (taken (start n own).answer)
    [ true ↦ lines (start n own).state 0 (stretches records) ++ end_line (length (stretches records)) | false ↦ setup_line ]
