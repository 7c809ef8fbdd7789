-- "After each record the program prints its number, the answer and yes or no", as bytes.
use Rattle.std.specs.Prelude.{ℕ, suc, Bool, true, false, List, [], ◌∷◌, ◌++◌, get_or, drop}
use Rattle.table.specs.Scan.{pick}
use Rattle.pala.specs.Lines.{digits, space, new_line, setup_line}
use Rattle.pala.specs.Run.{cut}
use Rattle.accord.specs.declared.Hall.{Hall}
use Rattle.accord.specs.declared.Verdict.{Verdict}
use Rattle.accord.specs.Head.{good_head, opened}
use Rattle.accord.specs.Rulings.{verdict, verdict_number, hall_after}
use Rattle.accord.specs.Words.{agree}

-- "yes", "no"
abbrev pub yes_word : List ℕ
yes_word = 121 ∷ 101 ∷ 115 ∷ []

abbrev pub no_word : List ℕ
no_word = 110 ∷ 111 ∷ []

-- a line of two numbers and a word
unfoldable pub worded : ℕ → ℕ → List ℕ → List ℕ
unfolding digits
worded k answer word = digits k ++ (space ∷ (digits answer ++ (space ∷ (word ++ (new_line ∷ [])))))

-- a record's line: its number, the answer, yes or no
unfoldable pub hall_line : ℕ → Verdict → Bool → List ℕ
unfolding worded verdict_number pick
hall_line k v word = worded k (verdict_number v) (pick word yes_word no_word)

-- "one byte before each record names the receiver": 97 bytes together
abbrev pub sent_bytes : ℕ
sent_bytes = 97

abbrev pub receiver_of : List ℕ → ℕ
receiver_of x = get_or x 0 0

abbrev pub record_of : List ℕ → List ℕ
record_of x = drop 1 x

-- the hall after records, each put to the newest one
unfoldable pub hall_played : Hall → List (List ℕ) → Hall
unfolding hall_after
hall_played h [] = h
hall_played h (x ∷ more) = hall_played (hall_after h (receiver_of x) (record_of x)) more

-- the lines of records, of which `before` came earlier, with a word for the hall after each
unfoldable pub lines_with : (Hall → Bool) → Hall → ℕ → List (List ℕ) → List ℕ
unfolding hall_line verdict hall_after
lines_with word h before [] = []
lines_with word h before (x ∷ more) =
    let next : Hall = hall_after h (receiver_of x) (record_of x) in
    hall_line (suc before) (verdict h (receiver_of x) (record_of x)) (word next) ++ lines_with word next (suc before) more

unfoldable pub hall_lines : Hall → ℕ → List (List ℕ) → List ℕ
unfolding lines_with agree
hall_lines h before xs = lines_with agree h before xs

-- a recording's text: "15 a head with another n, .., and nothing is played"
unfoldable pub hall_text : List ℕ → List ℕ
unfolding good_head hall_lines opened cut setup_line
hall_text bytes =
    elim (good_head bytes) [ true ↦ hall_lines (opened bytes).hall 0 (cut sent_bytes (drop 2 bytes)) | false ↦ setup_line ]
