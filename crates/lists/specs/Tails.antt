-- "as a part of that caller's own slice": a slice starts at a pointer, an allocation and a number of bytes into it.
use Rattle.std.specs.Prelude.{ℕ, ◌+◌, List, length}
use Rattle.table.specs.declared.Relation.{Relation}

-- so many bytes further on
abbrev pub past : ℕ × ℕ → ℕ → ℕ × ℕ
past start k = (start.0, k + start.1)

-- where the tail of two lists starts that start at p and q: in the longer list, as far in as the other is long;
-- "empty for relations 0, 3 and 4, where it is the empty start of the first list"
unfoldable pub tail_start : Relation → List ℕ → List ℕ → ℕ × ℕ → ℕ × ℕ → ℕ × ℕ
tail_start Relation.Equal a b p q = p
tail_start Relation.FirstLonger a b p q = past p (length b)
tail_start Relation.SecondLonger a b p q = past q (length a)
tail_start (Relation.Fork k) a b p q = p
tail_start Relation.Broken a b p q = p
