-- A line of two numbers and a word, put part by part. Assumes nothing.
use Prim.Native.Nat.{ℕ, ◌+◌, ◌^◌, ◌≤◌, ◌<◌}
use mathlib.Core.Bool.{Bool}
use mathlib.Core.List.{List, [], ◌∷◌, ◌++◌, append_assoc}
use mathlib.Core.Path.{◌≡◌, sym, ap, ◌∙◌}
use native.Mathlib.Omega.{arith}
use borrow.Author.Tests.{le-leb, lt-leb}
use lib.Dec.{leb}
use lib.ListN.{length, length-append}
use lib.Seq.{append_snoc}
use Rattle.table.proofs.Laws.{pick_yes, pick_no}
use Rattle.pala.specs.Lines.{digits, space, new_line}
use Rattle.accord.specs.Text.{worded}
use Rattle.lines.specs.Text.{written, Put, numbers_most, Lined, worded_at}
use Rattle.lines.proofs.Laws.{put_then, put_as, put-length, number-most, digits-most}

-- a buffer that has no room for the longest such line stays as it is
pub worded_none :
    (k answer : ℕ) (word : List ℕ) (from : ℕ) (text : List ℕ) → length text < from + numbers_most + length word
    → ◌≡◌ {A = Lined} (record { length = from; text = text }) (worded_at k answer word from text)
unfolding worded_at
worded_none k answer word from text h =
    let fits : Bool = leb (from + numbers_most + length word) (length text) in
    let past : ℕ = from + length (worded k answer word) in
    let after : List ℕ = written text from (worded k answer word) in
    λ i. record { length = sym (pick_no fits past from (lt-leb _ _ h)) i; text = sym (pick_no fits after text (lt-leb _ _ h)) i }

-- a number and the space after it
abbrev space_after : ℕ → List ℕ
space_after k = digits k ++ (space ∷ [])

-- the parts of such a line, one after the other
worded_parts : (k answer : ℕ) (word : List ℕ) → space_after k ++ space_after answer ++ word ++ (new_line ∷ []) ≡ worded k answer word
unfolding worded
worded_parts k answer word =
    append_assoc (space_after k ++ space_after answer) word (new_line ∷ [])
    ∙ append_assoc (space_after k) (space_after answer) (word ++ (new_line ∷ []))
    ∙ append_snoc (digits k) space (space_after answer ++ (word ++ (new_line ∷ [])))
    ∙ ap (λ (l : List ℕ). digits k ++ (space ∷ l)) (append_snoc (digits answer) space (word ++ (new_line ∷ [])))

-- two numbers of 64 bits, and room for the longest such line of the word
pub record Spacious (text : List ℕ) (from k answer : ℕ) (word : List ℕ) : Type 0 where
  pub room : from + numbers_most + length word ≤ length text
  pub first : k < 2 ^ 64
  pub second : answer < 2 ^ 64

module _ {text : List ℕ} {from k answer : ℕ} {word : List ℕ} (h : Spacious text from k answer word) where
  worded-room : worded_at k answer word from text ≡ record { length = from + length (worded k answer word); text = written text from (worded k answer word) }
  unfolding worded_at
  worded-room =
      let fits : Bool = leb (from + numbers_most + length word) (length text) in
      let past : ℕ = from + length (worded k answer word) in
      let after : List ℕ = written text from (worded k answer word) in
      λ i. record { length = pick_yes fits past from (le-leb _ _ h.room) i; text = pick_yes fits after text (le-leb _ _ h.room) i }

  -- so the line is no longer than the longest ..
  pub worded-most : length (worded k answer word) ≤ numbers_most + length word
  worded-most =
      omega (
        arith,
        ap length (worded_parts k answer word),
        length-append (space_after k ++ space_after answer ++ word) (new_line ∷ []),
        length-append (space_after k ++ space_after answer) word,
        length-append (space_after k) (space_after answer),
        number-most k space h.first,
        number-most answer space h.second,
      )

  -- .. and is put
  pub worded-is :
      {past : ℕ} {after : List ℕ} → ◌≡◌ {A = Lined} (record { length = past; text = after }) (worded_at k answer word from text)
      → Put text from (worded k answer word) past after
  worded-is e =
      let put = e ∙ worded-room in record { ends = ap (λ (l : Lined). l.length) put; holds = ap (λ (l : Lined). l.text) put }

-- then each part fits, and the parts make the line
module _ {text : List ℕ} {from k answer : ℕ} {word : List ℕ} (h : Spacious text from k answer word) where
  pub first_fits : from + length (digits k) < length text
  first_fits = omega (arith, h.room, digits-most 19 k (omega (arith, h.first)))

  module _ {a : ℕ} {x : List ℕ} (p : Put text from (space_after k) a x) where
    pub second_fits : a + length (digits answer) < length x
    second_fits =
        let most = number-most k space h.first in
        omega (arith, h.room, put-length (omega (arith, h.room, most)) p, p.ends, most, digits-most 19 answer (omega (arith, h.second)))

    module _ {b : ℕ} {y : List ℕ} (q : Put x a (space_after answer) b y) where
      two_most : length (space_after k ++ space_after answer) ≤ 42
      two_most = omega (arith, length-append (space_after k) (space_after answer), number-most k space h.first, number-most answer space h.second)

      two : Put text from (space_after k ++ space_after answer) b y
      two = put_then (omega (arith, h.room, two_most, length-append (space_after k) (space_after answer))) p q

      pub word_fits : b + length word ≤ length y
      word_fits = omega (arith, h.room, put-length (omega (arith, h.room, two_most)) two, two.ends, two_most)

      module _ {c : ℕ} {z : List ℕ} (w : Put y b word c z) where
        three_most : length (space_after k ++ space_after answer ++ word) ≤ 42 + length word
        three_most = omega (arith, length-append (space_after k ++ space_after answer) word, two_most)

        three : Put text from (space_after k ++ space_after answer ++ word) c z
        three = put_then (omega (arith, h.room, two_most)) two w

        pub end_fits : c < length z
        end_fits = omega (arith, h.room, put-length (omega (arith, h.room, three_most)) three, three.ends, three_most)

        pub worded-put :
            {past : ℕ} {after later : List ℕ} → Put z c (new_line ∷ []) past after → later ≡ after
            → ◌≡◌ {A = Lined} (record { length = past; text = later }) (worded_at k answer word from text)
        worded-put {past} {after} n same =
            let all : Put text from (worded k answer word) past after =
            put_as (worded_parts k answer word) (put_then (omega (arith, h.room, three_most)) three n) in
            (λ i. record { length = all.ends i; text = (same ∙ all.holds) i }) ∙ sym (worded-room h)
