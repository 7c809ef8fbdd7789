-- Text written piece by piece, and the digits of a number. Assumes nothing.
use Prim.Native.Nat.{ℕ, zero, suc, ◌+◌, ◌-◌, ◌/◌, ◌%◌, ◌^◌, ◌≤◌, ◌<◌}
use mathlib.Core.Bool.{true, false}
use mathlib.Core.List.{List, [], ◌∷◌, ◌++◌, append_assoc, append-nil}
use mathlib.Core.Path.{◌≡◌, refl, sym, ap, ◌∙◌, subst}
use native.Mathlib.Decide.{dec_lt}
use native.Mathlib.Nat.{add-zero, zero-add}
use borrow.Rule.Slice.PartMut.{put_mid}
use native.Mathlib.Numerals.{add-one}
use native.Mathlib.Omega.{arith}
use borrow.Author.Tests.{lt-ltb, le-ltb}
use lib.Dec.{ltb}
use lib.ListN.{length, take, drop, set, length-append, length-take, length-drop, take-append-drop}
use lib.Seq.{set_split, append_snoc, take_at, drop_at, drop-drop}
use Rattle.table.specs.declared.Answer.{Answer}
use Rattle.table.specs.Scan.{pick}
use Rattle.pala.specs.Answers.{number}
use Rattle.table.proofs.Laws.{pick_yes, pick_no}
use Rattle.pala.specs.Lines.{digits_in, digits, spaced, space, new_line, end_line, setup_line}
use Rattle.lines.specs.Text.{written, Put, line_most, end_most, Lined, lined}

-- ---- written

-- one byte stored is one byte written
pub written_byte : (text : List ℕ) (i b : ℕ) → i < length text → set text i b ≡ written text i (b ∷ [])
unfolding written
written_byte text i b h = set_split text i b h ∙ rw (add-one i) (sym (append_snoc (take i text) b (drop (suc i) text)))

-- bytes copied over a part of the buffer are bytes written
pub written_over :
    (text : List ℕ) (at : ℕ) (bytes : List ℕ) {after : List ℕ} → after ≡ bytes
    → put_mid at (at + length bytes - at) text after ≡ written text at bytes
unfolding written
written_over text at bytes {after} e =
    let size : at + (at + length bytes - at) ≡ at + length bytes = omega arith in
    ap (λ (x : List ℕ). take at text ++ (x ++ drop (at + length bytes - at) (drop at text))) e
    ∙ ap (λ (x : List ℕ). take at text ++ (bytes ++ x)) (drop-drop (at + length bytes - at) at text)
    ∙ ap (λ (n : ℕ). take at text ++ (bytes ++ drop n text)) size
    ∙ sym (append_assoc (take at text) bytes (drop (at + length bytes) text))

-- what is written leaves the length
pub length-written : (text : List ℕ) (from : ℕ) (a : List ℕ) → from + length a ≤ length text → length (written text from a) ≡ length text
unfolding written
length-written text from a h = simp (length-append, length-take, length-drop) (omega arith)

-- a piece, and then another right after it
pub written_then :
    (text : List ℕ) (from : ℕ) (a b : List ℕ) → from + length a + length b ≤ length text
    → written (written text from a) (from + length a) b ≡ written text from (a ++ b)
unfolding written
written_then text from a b h =
    let front : length (take from text ++ a) ≡ from + length a = simp (length-append, length-take) (omega arith) in
    ap (λ (x : List ℕ). x ++ b ++ drop (from + length a + length b) (take from text ++ a ++ drop (from + length a) text))
    (take_at (take from text ++ a) (drop (from + length a) text) (from + length a) front)
    ∙ ap (λ (x : List ℕ). take from text ++ a ++ b ++ x) (rest front)
    ∙ ap (λ (x : List ℕ). x ++ drop (from + length (a ++ b)) text) (append_assoc (take from text) a b)
  where
    rest :
        length (take from text ++ a) ≡ from + length a
        → drop (from + length a + length b) (take from text ++ a ++ drop (from + length a) text) ≡ drop (from + length (a ++ b)) text
    rest front =
        let ends : from + length a + length b ≡ from + length (a ++ b) = omega (arith, length-append a b) in
        sym (drop-drop (length b) (from + length a) (take from text ++ a ++ drop (from + length a) text))
        ∙ ap (λ (x : List ℕ). drop (length b) x) (drop_at (take from text ++ a) (drop (from + length a) text) (from + length a) front)
        ∙ drop-drop (length b) (from + length a) text
        ∙ ap (λ (n : ℕ). drop n text) ends

-- ---- digits

digits_in-one : (d k : ℕ) → k < 10 → digits_in d k ≡ (48 + k) ∷ []
unfolding digits_in
digits_in-one zero k h = ap (λ (n : ℕ). (48 + n) ∷ []) (omega arith)
digits_in-one (suc d) k h = rw (lt-ltb k 10 h, digits_in)

digits_in_more : (d k : ℕ) → 10 ≤ k → digits_in (suc d) k ≡ digits_in d (k / 10) ++ ((48 + k % 10) ∷ [])
unfolding digits_in
digits_in_more d k h = rw (le-ltb k 10 h, digits_in)

-- more steps than the number counts change nothing
digits_fuel : (d e k : ℕ) → k ≤ d → k ≤ e → digits_in d k ≡ digits_in e k
digits_fuel zero e k h g = digits_in-one zero k (omega arith) ∙ sym (digits_in-one e k (omega arith))
digits_fuel (suc d) zero k h g = digits_in-one (suc d) k (omega arith) ∙ sym (digits_in-one zero k (omega arith))
digits_fuel (suc d) (suc e) k h g =
    elim (dec_lt k 10) [
      | yes l ↦ digits_in-one (suc d) k l ∙ sym (digits_in-one (suc e) k l)
      | no l ↦
          digits_in_more d k (omega arith)
          ∙ ap (λ (x : List ℕ). x ++ ((48 + k % 10) ∷ [])) (digits_fuel d e (k / 10) (omega arith) (omega arith))
          ∙ sym (digits_in_more e k (omega arith))
    ]

-- a number below ten is one digit; any other ends in its last digit
pub digits-one : (k : ℕ) → k < 10 → digits k ≡ (48 + k) ∷ []
unfolding digits
digits-one k h = digits_in-one k k h

pub digits_more : (k : ℕ) → 10 ≤ k → digits k ≡ digits (k / 10) ++ ((48 + k % 10) ∷ [])
unfolding digits
digits_more zero h = absurd (omega arith)
digits_more (suc k) h =
    digits_in_more k (suc k) h
    ∙ ap (λ (x : List ℕ). x ++ ((48 + suc k % 10) ∷ [])) (digits_fuel k (suc k / 10) (suc k / 10) (omega arith) (omega arith))

pub length-one : (k : ℕ) → k < 10 → length (digits k) ≡ 1
length-one k h = ap length (digits-one k h)

pub length_more : (k : ℕ) → 10 ≤ k → length (digits k) ≡ length (digits (k / 10)) + 1
length_more k h = ap length (digits_more k h) ∙ length-append (digits (k / 10)) ((48 + k % 10) ∷ [])

-- ---- put

-- nothing put
pub put_none : (text : List ℕ) (from : ℕ) → from ≤ length text → Put text from [] from text
unfolding written
put_none text from h =
    let front : take from text ++ [] ++ drop (from + 0) text ≡ text =
    ap (λ (l : List ℕ). l ++ drop (from + 0) text) (append-nil (take from text))
    ∙ ap (λ (n : ℕ). take from text ++ drop n text) (add-zero from)
    ∙ take-append-drop from text in
    record { ends = sym (add-zero from); holds = sym front }

-- a piece put, and then another right after it
pub put_then :
    {text x y : List ℕ} {from mid past : ℕ} {a b : List ℕ} → from + length a + length b ≤ length text
    → Put text from a mid x → Put x mid b past y → Put text from (a ++ b) past y
put_then {text} {x} {y} {from} {mid} {past} {a} {b} h p q =
    record {
      ends = q.ends ∙ ap (λ (n : ℕ). n + length b) p.ends ∙ ends;
      holds =
          q.holds
          ∙ ap (λ (t : List ℕ). written t mid b) p.holds
          ∙ ap (λ (n : ℕ). written (written text from a) n b) p.ends
          ∙ written_then text from a b h;
    }
  where
    ends : from + length a + length b ≡ from + length (a ++ b)
    ends = omega (arith, length-append a b)

pub put-length :
    {text after : List ℕ} {from past : ℕ} {a : List ℕ} → from + length a ≤ length text → Put text from a past after
    → length after ≡ length text
put-length {text} {after} {from} {past} {a} h p = ap length p.holds ∙ length-written text from a h

-- the same bytes, otherwise worded
pub put_as : {text after : List ℕ} {from past : ℕ} {a b : List ℕ} → a ≡ b → Put text from a past after → Put text from b past after
put_as {text} {after} {from} {past} e p = subst (λ l. Put text from l past after) e p

-- the digits of a number before its last one, put
pub record Front (text : List ℕ) (from k past : ℕ) (after : List ℕ) : Type 0 where
  pub front : List ℕ
  pub put : Put text from front past after
  pub all : digits k ≡ front ++ ((48 + k % 10) ∷ [])

pub front_none : (text : List ℕ) (from k : ℕ) → from ≤ length text → k < 10 → Front text from k from text
front_none text from k h l =
    record {
      front = [];
      put = put_none text from h;
      all = digits-one k l ∙ ap (λ (n : ℕ). (48 + n) ∷ []) (omega arith);
    }

pub front_more : {text after : List ℕ} {from past : ℕ} (k : ℕ) → 10 ≤ k → Put text from (digits (k / 10)) past after → Front text from k past after
front_more k l p = record { front = digits (k / 10); put = p; all = digits_more k l }

module _ {text x : List ℕ} {from k mid : ℕ} (room : from + length (digits k) ≤ length text) (f : Front text from k mid x) where
  one_more : length (digits k) ≡ length f.front + 1
  one_more = ap length f.all ∙ length-append f.front ((48 + k % 10) ∷ [])

  pub last_fits : mid < length x
  last_fits = omega (arith, room, one_more, f.put.ends, put-length (omega (arith, room, one_more)) f.put)

  pub last_put : {y : List ℕ} {past : ℕ} → Put x mid ((48 + k % 10) ∷ []) past y → Put text from (digits k) past y
  last_put p = put_as (sym f.all) (put_then (omega (arith, room, one_more)) f.put p)

-- a number, the byte after it and the numbers after that are a line
pub spaced_more : (x y : ℕ) (l : List ℕ) → (digits x ++ (space ∷ [])) ++ spaced (y ∷ l) ≡ spaced (x ∷ y ∷ l)
unfolding spaced
spaced_more x y l = append_snoc (digits x) space (spaced (y ∷ l))

pub spaced-last : (x : ℕ) → digits x ++ (new_line ∷ []) ≡ spaced (x ∷ [])
unfolding spaced
spaced-last x = refl

pub length-spaced : (x y : ℕ) (l : List ℕ) → length (spaced (x ∷ y ∷ l)) ≡ length (digits x) + 1 + length (spaced (y ∷ l))
unfolding spaced
length-spaced x y l = omega (arith, length-append (digits x) (space ∷ spaced (y ∷ l)))

pub length-spaced-last : (x : ℕ) → length (spaced (x ∷ [])) ≡ length (digits x) + 1
unfolding spaced
length-spaced-last x = length-append (digits x) (new_line ∷ [])

-- a line of numbers fits into a buffer from an index on
pub record Room (text : List ℕ) (from : ℕ) (numbers : List ℕ) : Type 0 where
  pub fits : from + length (spaced numbers) ≤ length text

-- where a line fits, its first number and the byte after it fit, and then the rest of the line
pub room_first : {text : List ℕ} {from x : ℕ} {l : List ℕ} → Room text from (x ∷ l) → from + length (digits x) < length text
room_first {text} {from} {x} {l} h = go l h.fits
  where
    go : (m : List ℕ) → from + length (spaced (x ∷ m)) ≤ length text → from + length (digits x) < length text
    go [] h = omega (arith, length-spaced-last x)
    go (y ∷ m) h = omega (arith, length-spaced x y m)

pub room_next :
    {text u : List ℕ} {from mid x y : ℕ} {l : List ℕ} → Room text from (x ∷ y ∷ l)
    → Put text from (digits x ++ (space ∷ [])) mid u → Room u mid (y ∷ l)
room_next {text} {u} {from} {mid} {x} {y} {l} h p =
    let one : length (digits x ++ (space ∷ [])) ≡ length (digits x) + 1 = length-append (digits x) (space ∷ []) in
    let kept : length u ≡ length text = put-length (omega (arith, length-spaced x y l, h.fits)) p in
    record { fits = omega (arith, length-spaced x y l, p.ends, h.fits) }

-- a number put with the space after it, and then the rest of a line
pub put-spaced :
    {text u v : List ℕ} {from mid past x y : ℕ} {l : List ℕ} → Room text from (x ∷ y ∷ l)
    → Put text from (digits x ++ (space ∷ [])) mid u → Put u mid (spaced (y ∷ l)) past v → Put text from (spaced (x ∷ y ∷ l)) past v
put-spaced {text} {u} {v} {from} {mid} {past} {x} {y} {l} h p q =
    put_as (spaced_more x y l)
    (put_then (omega (arith, length-spaced x y l, length-append (digits x) (space ∷ []), h.fits)) p q)

-- ---- how long a line can be

-- a number below a power of ten has no more digits than the power
pub digits-most : (d k : ℕ) → k < 10 ^ suc d → length (digits k) ≤ suc d
digits-most zero k h = omega (arith, length-one k (omega arith))
digits-most (suc d) k h =
    elim (dec_lt k 10) [
      | yes l ↦ omega (arith, length-one k l)
      | no l ↦ omega (arith, length_more k (omega arith), digits-most d (k / 10) (omega arith))
    ]

-- a number of 64 bits and the byte after it
pub number-most : (k e : ℕ) → k < 2 ^ 64 → length (digits k ++ (e ∷ [])) ≤ 21
number-most k e h = omega (arith, length-append (digits k) (e ∷ []), digits-most 19 k (omega arith))

-- a line of a record: a number of 64 bits, one of two digits, two of 32 bits and one of two digits
pub line-most :
    (k answer local bar names : ℕ) → k < 2 ^ 64 → answer < 100 → local < 2 ^ 32 → bar < 2 ^ 32 → names < 100
    → length (spaced (k ∷ answer ∷ local ∷ bar ∷ names ∷ [])) ≤ line_most
line-most k answer local bar names hk ha hl hb hn =
    omega (
      arith,
      length-spaced k answer (local ∷ bar ∷ names ∷ []),
      length-spaced answer local (bar ∷ names ∷ []),
      length-spaced local bar (names ∷ []),
      length-spaced bar names [],
      length-spaced-last names,
      digits-most 19 k (omega arith),
      digits-most 1 answer (omega arith),
      digits-most 9 local (omega arith),
      digits-most 9 bar (omega arith),
      digits-most 1 names (omega arith),
    )

-- ---- the first and the last line

-- a line at the start of a buffer that has room for the longest, and one that has not
pub lined_none : (line text : List ℕ) → length text < end_most → ◌≡◌ {A = Lined} (record { length = 0; text = text }) (lined line text)
unfolding lined
lined_none line text h =
    let test : ltb (length text) end_most ≡ true = lt-ltb (length text) end_most h in
    let first : 0 ≡ pick (ltb (length text) end_most) 0 (length line) = sym (pick_yes (ltb (length text) end_most) 0 (length line) test) in
    let rest : text ≡ pick (ltb (length text) end_most) text (written text 0 line) =
    sym (pick_yes (ltb (length text) end_most) text (written text 0 line) test) in
    λ i. record { length = first i; text = rest i }

pub lined-put :
    {text after later : List ℕ} {past : ℕ} (line : List ℕ) → end_most ≤ length text → Put text 0 line past after → later ≡ after
    → ◌≡◌ {A = Lined} (record { length = past; text = later }) (lined line text)
unfolding lined
lined-put {text} {after} {later} {past} line h p same =
    let test : ltb (length text) end_most ≡ false = le-ltb (length text) end_most h in
    let first : past ≡ pick (ltb (length text) end_most) 0 (length line) =
    p.ends ∙ zero-add (length line) ∙ sym (pick_no (ltb (length text) end_most) 0 (length line) test) in
    let rest : later ≡ pick (ltb (length text) end_most) text (written text 0 line) =
    same ∙ p.holds ∙ sym (pick_no (ltb (length text) end_most) text (written text 0 line) test) in
    λ i. record { length = first i; text = rest i }

-- "end" or "setup", a space and a number are such a line
pub end_line_lem : (k : ℕ) → (101 ∷ 110 ∷ 100 ∷ 32 ∷ []) ++ (digits k ++ (new_line ∷ [])) ≡ end_line k
unfolding end_line spaced
end_line_lem k = refl

pub setup_line_lem : (k : ℕ) → k ≡ number Answer.Setup → (115 ∷ 101 ∷ 116 ∷ 117 ∷ 112 ∷ 32 ∷ []) ++ (digits k ++ (new_line ∷ [])) ≡ setup_line
unfolding setup_line spaced
setup_line_lem k e = ap (λ (n : ℕ). (115 ∷ 101 ∷ 116 ∷ 117 ∷ 112 ∷ 32 ∷ []) ++ (digits n ++ (new_line ∷ []))) e
