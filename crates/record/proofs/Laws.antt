-- Laws of the record's bytes: bytes that are copied, the fields of a record, and the fields of a message. Assumes nothing.
use Prim.Native.Nat.{ℕ, ◌+◌, ◌*◌, ◌/◌, ◌%◌, ◌^◌, ◌≤◌, ◌<◌}
use borrow.Rule.Slice.PartMut.{put_mid, same_len_mid}
use Rattle.std.proofs.lemmas.Slice.{take-put_mid}
use Rattle.std.specs.Int.{from_le_bytes, w32}
use Rattle.std.proofs.lemmas.Nat.{from_le_bytes-to_le_bytes_4}
use mathlib.Core.Bool.{Bool, ◌&&◌, and-true}
use mathlib.Core.List.{List, [], ◌∷◌, ◌++◌, append_assoc, append-nil}
use mathlib.Core.Path.{◌≡◌, refl, sym, ap, ◌∙◌}
use native.Mathlib.Omega.{arith}
use borrow.Author.Tests.{eqb-true, eq-eqb}
use lib.Dec.{eqb}
use lib.ListN.{length, get_or, take, drop, length-append, length-drop, drop_of_length-le}
use lib.Seq.{paste, take-length, length-take-le, take_all, take_at, drop_at, drop-cons}
use Rattle.table.specs.Bytes.{zeros}
use Rattle.table.specs.Rows.{name_bytes, payload_bytes}
use Rattle.table.proofs.Laws.{same_test, zeros_true}
use Rattle.pala.specs.Record.{record_bytes, kind_of, sender_of, epoch_of, epoch_field, name_of, parent_name_of, payload_of, spare, low_first, message}

-- ---- bytes copied

-- what is copied over a whole list of its length stands in its place
pub copied_whole : (d s : List ℕ) → length d ≡ length s → paste d 0 s (length s) ≡ s
copied_whole d s e =
    let past : length d ≤ 0 + length s = omega arith in
    ap (λ (l : List ℕ). l ++ drop (0 + length s) d) (take-length s)
    ∙ ap (λ (l : List ℕ). s ++ l) (drop_of_length-le d past)
    ∙ append-nil s

-- a buffer of 96 bytes that begins with these, up to an index
abbrev Begins : List ℕ → ℕ → List ℕ → Type 0
Begins d at p = (length d ≡ record_bytes) × (take at d ≡ p)

-- what is copied to that index follows them
begins_more : (d p s t : List ℕ) (at n : ℕ) → Begins d at p → t ≡ s → length s ≡ n → at + n ≤ record_bytes → Begins (put_mid at n d t) (at + n) (p ++ s)
begins_more d p s t at n b e l h =
    let size : length t ≡ n = ap length e ∙ l in (
      same_len_mid at n d t (omega (arith, length-take-le n (drop at d) (omega (arith, length-drop at d)))) ∙ b.0,
      take-put_mid at n d t (at + n) (omega arith) (omega arith) ∙ ap (λ (x : List ℕ). x ++ t) b.1 ∙ ap (λ (x : List ℕ). p ++ x) e,
    )

-- five copies, one after the other, fill the buffer with a message
pub written : (k s e n : ℕ) (d b₀ b₁ b₂ b₃ b₄ first epoch name parent payload : List ℕ) → length d ≡ record_bytes → b₀ ≡ first → first ≡ k ∷ s ∷ 0 ∷ 0 ∷ [] → b₁ ≡ epoch → epoch ≡ low_first e → b₂ ≡ name → length name ≡ name_bytes → b₃ ≡ parent → length parent ≡ name_bytes → b₄ ≡ payload → length payload ≡ payload_bytes → n ≡ payload_bytes → put_mid 72 n (put_mid 40 32 (put_mid 8 32 (put_mid 4 4 (put_mid 0 4 d b₀) b₁) b₂) b₃) b₄ ≡ message k s e name parent payload
unfolding low_first message
written k s e n d b₀ b₁ b₂ b₃ b₄ first epoch name parent payload l w₀ f w₁ g w₂ ln w₃ lp w₄ ll m =
    let c₀ = begins_more d [] (k ∷ s ∷ 0 ∷ 0 ∷ []) b₀ 0 4 (l, refl) (w₀ ∙ f) refl (omega arith) in
    let c₁ = begins_more _ _ (low_first e) b₁ 4 4 c₀ (w₁ ∙ g) refl (omega arith) in
    let c₂ = begins_more _ _ name b₂ 8 name_bytes c₁ w₂ ln (omega arith) in
    let c₃ = begins_more _ _ parent b₃ 40 name_bytes c₂ w₃ lp (omega arith) in
    let c₄ = begins_more _ _ payload b₄ 72 n c₃ w₄ (omega arith) (omega arith) in
    let whole : 72 + n ≡ record_bytes = omega arith in
    sym (take_all (72 + n) _ (omega (arith, c₄.0))) ∙ c₄.1

-- ---- the fields of a record

-- "2 and 3 zero"
pub spare-zero : (r : List ℕ) → length r ≡ record_bytes → zeros (spare r) ≡ (eqb (get_or r 2 0) 0 && eqb (get_or r 3 0) 0)
unfolding spare zeros
spare-zero r h =
    ap (λ (l : List ℕ). zeros (take 2 l)) (drop-cons r 2 0 (omega arith) ∙ ap (λ (l : List ℕ). get_or r 2 0 ∷ l) (drop-cons r 3 0 (omega arith)))
    ∙ ap (λ (t : Bool). eqb (get_or r 2 0) 0 && t) (and-true (eqb (get_or r 3 0) 0))

-- four bytes are zero exactly where their number is
pub four_zero : (a b c d : ℕ) → zeros (a ∷ b ∷ c ∷ d ∷ []) ≡ eqb (a + 256 * b + 65536 * c + 16777216 * d) 0
unfolding zeros
four_zero a b c d =
    same_test (zeros (a ∷ b ∷ c ∷ d ∷ [])) (eqb (a + 256 * b + 65536 * c + 16777216 * d) 0)
    (λ z.
    let all : a ∷ b ∷ c ∷ d ∷ [] ≡ 0 ∷ 0 ∷ 0 ∷ 0 ∷ [] = zeros_true (a ∷ b ∷ c ∷ d ∷ []) z in
    let a0 : a ≡ 0 = cc in
    let b0 : b ≡ 0 = cc in
    let c0 : c ≡ 0 = cc in
    let d0 : d ≡ 0 = cc in
    eq-eqb (a + 256 * b + 65536 * c + 16777216 * d) 0 (omega arith))
    (λ z.
    let sum = eqb-true (a + 256 * b + 65536 * c + 16777216 * d) 0 z in
    let a0 : a ≡ 0 = omega arith in
    let b0 : b ≡ 0 = omega arith in
    let c0 : c ≡ 0 = omega arith in
    let d0 : d ≡ 0 = omega arith in
    rw (a0, b0, c0, d0))

-- the four bytes of the epoch, one by one
epoch_four : (r : List ℕ) → length r ≡ record_bytes → epoch_field r ≡ get_or r 4 0 ∷ get_or r 5 0 ∷ get_or r 6 0 ∷ get_or r 7 0 ∷ []
unfolding epoch_field
epoch_four r l =
    ap (take 4) (drop-cons r 4 0 (omega arith) ∙ ap (λ t. get_or r 4 0 ∷ t) (drop-cons r 5 0 (omega arith) ∙ ap (λ t. get_or r 5 0 ∷ t) (drop-cons r 6 0 (omega arith) ∙ ap (λ t. get_or r 6 0 ∷ t) (drop-cons r 7 0 (omega arith)))))

pub epoch-zero : (r : List ℕ) → length r ≡ record_bytes → zeros (epoch_field r) ≡ eqb (epoch_of r) 0
unfolding epoch_of
epoch-zero r h = ap zeros (epoch_four r h) ∙ four_zero (get_or r 4 0) (get_or r 5 0) (get_or r 6 0) (get_or r 7 0)

-- the epoch, from its four bytes
pub epoch_read : (r : List ℕ) (a b c d : ℕ) → a ≡ get_or r 4 0 → b ≡ get_or r 5 0 → c ≡ get_or r 6 0 → d ≡ get_or r 7 0 → a + 256 * b + 65536 * c + 16777216 * d ≡ epoch_of r
unfolding epoch_of
epoch_read r a b c d ha hb hc hd = omega arith

-- .. as they are read together
pub epoch_bytes : (r : List ℕ) → length r ≡ record_bytes → (bytes : List ℕ) (e : ℕ) → bytes ≡ take 4 (drop 4 r) → e ≡ from_le_bytes w32 bytes → e ≡ epoch_of r
unfolding epoch_field
epoch_bytes r l bytes e h w =
    w ∙ ap (from_le_bytes w32) (h ∙ epoch_four r l) ∙ omega (arith, epoch_read r (get_or r 4 0) (get_or r 5 0) (get_or r 6 0) (get_or r 7 0) refl refl refl refl)

-- ---- the fields of a message

-- the four bytes give the number back
pub low_first_back : (e : ℕ) → e < 2 ^ 32 → e % 256 + 256 * (e / 256 % 256) + 65536 * (e / 65536 % 256) + 16777216 * (e / 16777216 % 256) ≡ e
low_first_back e h = omega (arith, from_le_bytes-to_le_bytes_4 e h)

-- a part of three joined lists is the one in the middle
pub part_middle : (p q t : List ℕ) (at n : ℕ) → length p ≡ at → length q ≡ n → take n (drop at (p ++ q ++ t)) ≡ q
part_middle p q t at n hp hq = ap (take n) (ap (drop at) (append_assoc p q t) ∙ drop_at p (q ++ t) at hp) ∙ take_at q t n hq

module _ (k s e : ℕ) (name parent payload : List ℕ) where
  pub message-kind : kind_of (message k s e name parent payload) ≡ k
  unfolding message
  message-kind = refl

  pub message_sender : sender_of (message k s e name parent payload) ≡ s
  unfolding message
  message_sender = refl

  pub message-epoch : e < 2 ^ 32 → epoch_of (message k s e name parent payload) ≡ e
  unfolding message epoch_of low_first
  message-epoch h = low_first_back e h

  pub message-length : length name ≡ name_bytes → length parent ≡ name_bytes → length payload ≡ payload_bytes → length (message k s e name parent payload) ≡ record_bytes
  unfolding message low_first
  message-length a b c = omega (arith, length-append (name ++ parent) payload, length-append name parent)

  pub message-name : length name ≡ name_bytes → name_of (message k s e name parent payload) ≡ name
  unfolding message low_first name_of
  message-name a = ap (take name_bytes) (append_assoc name parent payload) ∙ take_at name (parent ++ payload) name_bytes a

  pub message-parent : length name ≡ name_bytes → length parent ≡ name_bytes → parent_name_of (message k s e name parent payload) ≡ parent
  unfolding message low_first parent_name_of
  message-parent a b = part_middle name parent payload name_bytes name_bytes a b

  pub message-payload : length name ≡ name_bytes → length parent ≡ name_bytes → length payload ≡ payload_bytes → payload_of (message k s e name parent payload) ≡ payload
  unfolding message low_first payload_of
  message-payload a b c =
      ap (take payload_bytes) (drop_at (name ++ parent) payload 64 (omega (arith, length-append name parent)))
      ∙ take_all payload_bytes payload (omega arith)
