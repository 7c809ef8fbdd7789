-- 01, "Reading it out": the final list, and two of them side by side.
use Rattle.std.specs.Prelude.{ℕ, ◌+◌, ◌*◌, ◌/◌, ◌%◌, ◌^◌, min, Bool, not, ◌&&◌, List, [], ◌∷◌, ◌++◌, map, reverse, eqb, ltb, length, take, drop}
use Rattle.table.specs.declared.Answer.{Answer}
use Rattle.table.specs.declared.Relation.{Relation}
use Rattle.table.specs.declared.State.{State}
use Rattle.table.specs.Scan.{pick, lowest}
use Rattle.table.specs.Bytes.{same}
use Rattle.table.specs.Rows.{name_bytes, rows, at}
use Rattle.pala.specs.Answers.{taken, lowest_of}
use Rattle.pala.specs.Rules.{line}
use Rattle.pala.specs.Shape.{well_shaped}

-- lists of bytes one after the other
unfoldable pub joined : List (List ℕ) → List ℕ
joined [] = []
joined (x ∷ l) = x ++ joined l

-- "names from the first block after genesis to the kept final block"
unfoldable pub final_places : State → List ℕ
unfolding line rows
final_places s = drop 1 (reverse (line (rows s) s.kept.0))

unfoldable pub final_names : State → List (List ℕ)
unfolding at rows final_places
final_names s = map (λ p. (at (rows s) p).name) (final_places s)

-- what reading a final list hands back
pub record Listed : Type 0 where
  pub answer : Answer
  pub count : ℕ
  pub list : List ℕ

-- "1 for a badly shaped state, 3 for too little room"
unfoldable pub list_answer : State → List ℕ → Answer
unfolding lowest_of well_shaped final_names
list_answer s buffer =
    lowest_of
    ((not (well_shaped s), Answer.State)
    ∷ (ltb (length buffer) (name_bytes * length (final_names s)), Answer.Length)
    ∷ [])

-- "32 bytes each, into a lent buffer; the rest of it unchanged; the count is returned", else "nothing written"
unfoldable pub listed : Answer → State → List ℕ → Listed
unfolding pick taken final_names joined
listed a s buffer =
    record {
      answer = a;
      count = pick (taken a) (length (final_names s)) 0;
      list =
          pick (taken a) (joined (final_names s) ++ drop (name_bytes * length (final_names s)) buffer) buffer;
    }

unfoldable pub final_list : State → List ℕ → Listed
unfolding list_answer listed
final_list s buffer = listed (list_answer s buffer) s buffer

-- the k-th name of a list of names
unfoldable pub name_at : List ℕ → ℕ → List ℕ
name_at a k = take name_bytes (drop (name_bytes * k) a)

-- how many names of both lists agree before the first that differs
unfoldable pub agreeing : List ℕ → List ℕ → ℕ
unfolding lowest same name_at
agreeing a b = lowest (min (length a / name_bytes) (length b / name_bytes)) (λ k. not (same (name_at a k) (name_at b k)))

-- "a length that isn't a multiple of 32"
unfoldable pub broken : List ℕ → List ℕ → Bool
broken a b = not (eqb (length a % name_bytes) 0 && eqb (length b % name_bytes) 0)

-- "relation 0 equal, 1 first longer and beginning with the second, 2 the reverse, 3 fork, with the index of the first name that
-- differs (0 in the other relations), 4 a length that isn't a multiple of 32 (index 0)"
unfoldable pub relation : List ℕ → List ℕ → Relation
unfolding pick broken agreeing
relation a b =
    pick (broken a b) Relation.Broken
    (pick (ltb (agreeing a b) (min (length a / name_bytes) (length b / name_bytes))) (Relation.Fork (agreeing a b))
    (pick (eqb (length a) (length b)) Relation.Equal
    (pick (ltb (length b) (length a)) Relation.FirstLonger Relation.SecondLonger)))

-- the number and the index of each relation
unfoldable pub relation_number : Relation → ℕ
relation_number Relation.Equal = 0
relation_number Relation.FirstLonger = 1
relation_number Relation.SecondLonger = 2
relation_number (Relation.Fork k) = 3
relation_number Relation.Broken = 4

unfoldable pub relation_index : Relation → ℕ
relation_index Relation.Equal = 0
relation_index Relation.FirstLonger = 0
relation_index Relation.SecondLonger = 0
relation_index (Relation.Fork k) = k
relation_index Relation.Broken = 0

-- "The relation reaches C as relation x 2^60 + index."
unfoldable pub relation_code : Relation → ℕ
unfolding relation_number relation_index
relation_code x = relation_number x * 2 ^ 60 + relation_index x

-- "the tail of whichever list is longer": "empty for relations 0, 3 and 4, where it is the empty start of the first list"
unfoldable pub tail_of : Relation → List ℕ → List ℕ → List ℕ
tail_of Relation.Equal a b = take 0 a
tail_of Relation.FirstLonger a b = drop (length b) a
tail_of Relation.SecondLonger a b = drop (length a) b
tail_of (Relation.Fork k) a b = take 0 a
tail_of Relation.Broken a b = take 0 a

unfoldable pub tail : List ℕ → List ℕ → List ℕ
unfolding relation tail_of
tail a b = tail_of (relation a b) a b
