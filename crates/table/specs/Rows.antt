-- The table that the rules see, and what the leaves do to a row and to a state.
use Rattle.std.specs.Prelude.{ℕ, suc, Bool, true, false, List, Option, Some, None, leb, ltb, length, get_or, take, set, replicate}
use Rattle.table.specs.Bytes.{same}
use Rattle.table.specs.Scan.{pick, count, lowest}
use Rattle.table.specs.declared.Block.{Block}
use Rattle.table.specs.declared.Place.{Place}
use Rattle.table.specs.declared.State.{State}

-- "Nodes: n from 1 to 32"
abbrev pub most_nodes : ℕ
most_nodes = 32

-- "A node's table holds up to 64 further blocks"
abbrev pub capacity : ℕ
capacity = 64

-- "32-byte name", "24 opaque payload bytes"
abbrev pub name_bytes : ℕ
name_bytes = 32

abbrev pub payload_bytes : ℕ
payload_bytes = 24

-- a row of zeros: the genesis ("the all-zero name", "place 0, epoch 0"), and what an unused place holds
unfoldable pub blank : Block
blank =
    record {
      name = replicate name_bytes 0;
      payload = replicate payload_bytes 0;
      voters = replicate most_nodes false;
      epoch = record { 0 = 0 };
      parent = record { 0 = 0 };
    }

-- the row that a place names; past the capacity, the root's
unfoldable pub row_of : ℕ → ℕ
unfolding pick
row_of p = pick (leb p capacity) p 0

-- a state's table: the root at place 0, then the blocks held "at places 1 to 64, in order of arrival"
unfoldable pub rows : State → List Block
rows s = take (suc s.count) s.blocks

-- how many rows a table has, the root included
abbrev pub size : List Block → ℕ
size t = length t

-- the row at a place; past the end the root
unfoldable pub at : List Block → ℕ → Block
unfolding blank
at t p = get_or t p (get_or t 0 blank)

-- the place of a name, the lowest; past the end where no row has it
unfoldable pub find : List Block → List ℕ → ℕ
unfolding lowest same at
find t name = lowest (size t) (λ p. same (at t p).name name)

-- that place, or none
unfoldable pub found : List Block → List ℕ → Option Place
unfolding pick find
found t name = pick (ltb (find t name) (size t)) (Some (record { 0 = find t name })) None

-- "Beside each: the set of voters counted": is the node among them
unfoldable pub has_voter : Block → ℕ → Bool
has_voter b i = get_or b.voters i false

-- how many voters a block has
unfoldable pub votes : Block → ℕ
unfolding count has_voter
votes b = count most_nodes (λ i. has_voter b i)

-- the block with one voter more
unfoldable pub with_voter : Block → ℕ → Block
with_voter b i =
    record {
      name = b.name;
      payload = b.payload;
      voters = set b.voters i true;
      epoch = b.epoch;
      parent = b.parent;
    }

-- "Fresh: local 1, all else 0, no blocks, not torn"; with n, own number and local of 0 it is the all-zero state
unfoldable pub plain : ℕ → ℕ → ℕ → State
unfolding blank
plain n own local =
    record {
      blocks = replicate (suc capacity) blank;
      clocks = replicate most_nodes (record { 0 = 0 });
      n = n;
      own = record { 0 = own };
      local = record { 0 = local };
      bar = record { 0 = 0 };
      voted = record { 0 = 0 };
      proposed = record { 0 = 0 };
      count = 0;
      kept = record { 0 = 0 };
      torn = false;
    }

unfoldable pub fresh : ℕ → ℕ → State
unfolding plain
fresh n own = plain n own 1

-- "an all-zero state, which every later call refuses with 1"
unfoldable pub all_zero : State
unfolding plain
all_zero = plain 0 0 0
