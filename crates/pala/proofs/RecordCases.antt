-- "The 96-byte record": each field at its bytes, the fields that each kind uses, a record written. Assumes nothing.
use Prim.Native.Nat.{ℕ, zero, suc}
use mathlib.Core.Bool.{Bool, true, false}
use mathlib.Core.List.{List, [], ◌∷◌, ◌++◌, map}
use mathlib.Core.Path.{◌≡◌, refl}
use lib.ListN.{set, replicate}
use Rattle.pala.specs.Record.{kind_of, sender_of, spare, epoch_field, epoch_of, name_of, parent_name_of, payload_of, known_kind, heard, uses_epoch, uses_name, uses_parent, uses_payload, unused_zero, message}

-- k bytes that count up from a first
unfoldable counting : ℕ → ℕ → List ℕ
counting zero b = []
counting (suc k) b = b ∷ counting k (suc b)

-- the record whose byte i is i
bytes : List ℕ
bytes = counting 96 0

-- "Byte 0 kind, 1 sender, 2 and 3 zero, 4 to 7 epoch (low byte first), 8 to 39 name, 40 to 71 parent name, 72 to 95 payload."
fields_at :
    (kind_of bytes ≡ 0)
    × (sender_of bytes ≡ 1)
    × (spare bytes ≡ 2 ∷ 3 ∷ [])
    × (epoch_field bytes ≡ 4 ∷ 5 ∷ 6 ∷ 7 ∷ [])
    × (epoch_of bytes ≡ 0x07060504)
    × (name_of bytes ≡ counting 32 8)
    × (parent_name_of bytes ≡ counting 32 40)
    × (payload_of bytes ≡ counting 24 72)
unfolding bytes counting spare epoch_field epoch_of name_of parent_name_of payload_of
fields_at = (refl, refl, refl, refl, refl, refl, refl, refl)

-- .. and the same bytes written
written : message 3 2 0x04030201 (counting 32 8) (counting 32 40) (counting 24 72) ≡ 3 ∷ 2 ∷ 0 ∷ 0 ∷ 1 ∷ 2 ∷ 3 ∷ 4 ∷ counting 88 8
unfolding message counting
written = refl

-- a record of a kind, with no field used
abbrev kind : ℕ → List ℕ
kind k = k ∷ replicate 95 0

abbrev kinds : List (List ℕ)
kinds = map kind (counting 6 1)

-- "kind isn't 1 to 6"; kinds 1 to 3 are heard
kinds_known :
    (map known_kind (kind 0 ∷ kinds ++ (kind 7 ∷ kind 255 ∷ [])) ≡ false ∷ replicate 6 true ++ (false ∷ false ∷ []))
    × (map heard kinds ≡ replicate 3 true ++ replicate 3 false)
unfolding counting known_kind heard
kinds_known = (refl, refl)

-- "fields used": 1 all, 2 name, 3 epoch, 4 name and payload, 5 and 6 none
fields_used :
    (map uses_epoch kinds ≡ true ∷ false ∷ true ∷ false ∷ false ∷ false ∷ [])
    × (map uses_name kinds ≡ true ∷ true ∷ false ∷ true ∷ false ∷ false ∷ [])
    × (map uses_parent kinds ≡ true ∷ false ∷ false ∷ false ∷ false ∷ false ∷ [])
    × (map uses_payload kinds ≡ true ∷ false ∷ false ∷ true ∷ false ∷ false ∷ [])
unfolding counting uses_epoch uses_name uses_parent uses_payload
fields_used = (refl, refl, refl, refl)

-- may a record of the kind have another byte than 0 at bytes 2 and 3, and at the first and the last byte of the epoch, the name, the
-- parent name and the payload
abbrev allowed : ℕ → List Bool
allowed k = map (λ i. unused_zero (set (kind k) i 1)) (2 ∷ 3 ∷ 4 ∷ 7 ∷ 8 ∷ 39 ∷ 40 ∷ 71 ∷ 72 ∷ 95 ∷ [])

abbrev bytes_of : Bool → Bool → Bool → Bool → List Bool
bytes_of epoch name parent payload = false ∷ false ∷ epoch ∷ epoch ∷ name ∷ name ∷ parent ∷ parent ∷ payload ∷ payload ∷ []

-- "Fields a kind doesn't use are zero."
unused_zero_lem :
    (allowed 1 ≡ bytes_of true true true true)
    × (allowed 2 ≡ bytes_of false true false false)
    × (allowed 3 ≡ bytes_of true false false false)
    × (allowed 4 ≡ bytes_of false true false true)
    × (allowed 5 ≡ bytes_of false false false false)
    × (allowed 6 ≡ bytes_of false false false false)
unfolding unused_zero
unused_zero_lem = (refl, refl, refl, refl, refl, refl)
