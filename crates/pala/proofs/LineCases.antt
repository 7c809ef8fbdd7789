-- "The program `replay`": numbers, lines and the short inputs, as text. Assumes nothing.
use Prim.Native.Nat.{ℕ, ◌+◌}
use mathlib.Core.List.{List, [], ◌∷◌, ◌++◌, map}
use mathlib.Core.Path.{◌≡◌, refl}
use Rattle.pala.specs.Cases.{hear, clock, said, genesis_name, A}
use Rattle.pala.specs.Lines.{digits, replay}
use Rattle.pala.specs.Record.{message}

-- "0", "9", "10", "4294967295"
digits_are :
    (digits 0 ≡ 48 ∷ [])
    × (digits 9 ≡ 57 ∷ [])
    × (digits 10 ≡ 49 ∷ 48 ∷ [])
    × (digits 4294967295 ≡ 52 ∷ 50 ∷ 57 ∷ 52 ∷ 57 ∷ 54 ∷ 55 ∷ 50 ∷ 57 ∷ 53 ∷ [])
unfolding digits
digits_are = (refl, refl, refl, refl)

-- "setup 15" and "end" with a number below ten, each a line
abbrev setup15 : List ℕ
setup15 = 115 ∷ 101 ∷ 116 ∷ 117 ∷ 112 ∷ 32 ∷ 49 ∷ 53 ∷ 10 ∷ []

abbrev ended : ℕ → List ℕ
ended lines = 101 ∷ 110 ∷ 100 ∷ 32 ∷ (48 + lines) ∷ 10 ∷ []

-- "If the start is refused or under two bytes come: only `setup 15`."
setup_holds :
    map replay ([] ∷ (4 ∷ []) ∷ (0 ∷ 0 ∷ []) ∷ (33 ∷ 0 ∷ []) ∷ (4 ∷ 4 ∷ clock 1 2) ∷ []) ≡ setup15 ∷ setup15 ∷ setup15 ∷ setup15 ∷ setup15 ∷ []
unfolding replay message
setup_holds = refl

-- "Last, `end` and the number of lines."
none_holds : replay (4 ∷ 0 ∷ []) ≡ ended 0
unfolding replay
none_holds = refl

-- "A short last record answers 3, .. and gets a line like any other."
short_holds :
    replay (4 ∷ 0 ∷ hear 1 1 A genesis_name ++ clock 1 9 ++ (5 ∷ [])) ≡ said 1 0 1 0 0 ++ said 2 0 1 0 0 ++ said 3 3 1 0 0 ++ ended 3
unfolding replay message
short_holds = refl
