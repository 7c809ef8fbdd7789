-- 01, "The 96-byte record".
use Rattle.std.specs.Prelude.{ℕ, ◌+◌, ◌*◌, ◌/◌, ◌%◌, Bool, ◌&&◌, ◌||◌, List, [], ◌∷◌, ◌++◌, eqb, leb, get_or, take, drop}
use Rattle.table.specs.Bytes.{zeros}
use Rattle.table.specs.Rows.{name_bytes, payload_bytes}

abbrev pub record_bytes : ℕ
record_bytes = 96

-- "Byte 0 kind, 1 sender"
abbrev pub kind_of : List ℕ → ℕ
kind_of r = get_or r 0 0

abbrev pub sender_of : List ℕ → ℕ
sender_of r = get_or r 1 0

-- "2 and 3 zero"
unfoldable pub spare : List ℕ → List ℕ
spare r = take 2 (drop 2 r)

-- "4 to 7 epoch (low byte first)"
unfoldable pub epoch_field : List ℕ → List ℕ
epoch_field r = take 4 (drop 4 r)

unfoldable pub epoch_of : List ℕ → ℕ
epoch_of r = get_or r 4 0 + 256 * get_or r 5 0 + 65536 * get_or r 6 0 + 16777216 * get_or r 7 0

-- "8 to 39 name, 40 to 71 parent name, 72 to 95 payload"
unfoldable pub name_of : List ℕ → List ℕ
name_of r = take name_bytes (drop 8 r)

unfoldable pub parent_name_of : List ℕ → List ℕ
parent_name_of r = take name_bytes (drop 40 r)

unfoldable pub payload_of : List ℕ → List ℕ
payload_of r = take payload_bytes (drop 72 r)

-- the kinds: "1 proposal heard, 2 vote heard, 3 clock heard, 4 propose now, 5 cast a vote now, 6 the minute is up"
abbrev pub proposal_heard : ℕ
proposal_heard = 1

abbrev pub vote_heard : ℕ
vote_heard = 2

abbrev pub clock_heard : ℕ
clock_heard = 3

abbrev pub propose_now : ℕ
propose_now = 4

abbrev pub cast_now : ℕ
cast_now = 5

abbrev pub minute_up : ℕ
minute_up = 6

abbrev pub is : ℕ → List ℕ → Bool
is k r = eqb (kind_of r) k

unfoldable pub known_kind : List ℕ → Bool
known_kind r = leb proposal_heard (kind_of r) && leb (kind_of r) minute_up

-- kinds 1 to 3 are heard from another node, kinds 4 to 6 are the node's own
unfoldable pub heard : List ℕ → Bool
heard r = leb (kind_of r) clock_heard

-- "fields used": the epoch by kinds 1 and 3, the name by 1, 2 and 4, the parent name by 1, the payload by 1 and 4
unfoldable pub uses_epoch : List ℕ → Bool
uses_epoch r = is proposal_heard r || is clock_heard r

unfoldable pub uses_name : List ℕ → Bool
uses_name r = is proposal_heard r || is vote_heard r || is propose_now r

unfoldable pub uses_parent : List ℕ → Bool
uses_parent r = is proposal_heard r

unfoldable pub uses_payload : List ℕ → Bool
uses_payload r = is proposal_heard r || is propose_now r

-- "Fields a kind doesn't use are zero"
unfoldable pub unused_zero : List ℕ → Bool
unfolding zeros spare epoch_field name_of parent_name_of payload_of uses_epoch uses_name uses_parent uses_payload
unused_zero r =
    zeros (spare r)
    && (uses_epoch r || zeros (epoch_field r))
    && (uses_name r || zeros (name_of r))
    && (uses_parent r || zeros (parent_name_of r))
    && (uses_payload r || zeros (payload_of r))

-- a number in four bytes, low byte first
unfoldable pub low_first : ℕ → List ℕ
low_first e = e % 256 ∷ e / 256 % 256 ∷ e / 65536 % 256 ∷ e / 16777216 % 256 ∷ []

-- the 96 bytes of a record
unfoldable pub message : ℕ → ℕ → ℕ → List ℕ → List ℕ → List ℕ → List ℕ
unfolding low_first
message kind sender epoch name parent payload =
    kind ∷ sender ∷ 0 ∷ 0 ∷ (low_first epoch ++ name ++ parent ++ payload)
