-- 01, "The gateway's counts and names".
use Rattle.std.specs.Prelude.{ℕ, ◌+◌, ◌*◌, ◌/◌, Bool, ◌&&◌, List, ltb, leb, get_or, replicate}
use Rattle.table.specs.declared.Epoch.{Epoch}
use Rattle.table.specs.Rows.{most_nodes, name_bytes, payload_bytes}

-- "Quorum: the least q with 3q at least 2n, worked out as (2n + 2) / 3 rounded down"
unfoldable pub quorum : ℕ → ℕ
quorum n = (2 * n + 2) / 3

-- "Block epochs run from 1 to 4,294,967,294, local epochs from 1 to 4,294,967,295"
abbrev pub top_epoch : ℕ
top_epoch = 4294967295

unfoldable pub block_epoch : ℕ → Bool
block_epoch e = ltb 0 e && ltb e top_epoch

-- "the highest clock kept from each node (own included)"
unfoldable pub clock_of : List Epoch → ℕ → ℕ
clock_of clocks i = (get_or clocks i (record { 0 = 0 })).0

-- "Nodes: n from 1 to 32, numbered 0 to n-1", the own number among them
unfoldable pub nodes : ℕ → ℕ → Bool
nodes n own = ltb 0 n && leb n most_nodes && ltb own n

-- a name and a payload of zeros, as a field that a kind doesn't use
abbrev pub no_name : List ℕ
no_name = replicate name_bytes 0

abbrev pub no_payload : List ℕ
no_payload = replicate payload_bytes 0
