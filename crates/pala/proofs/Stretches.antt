-- A recording in pieces: its stretches, and the lines of one piece after another. Assumes nothing.
use Prim.Native.Nat.{ℕ, zero, suc, ◌+◌, ◌-◌, ◌*◌, ◌/◌, ◌≤◌, ◌<◌, min}
use mathlib.Core.List.{List, [], ◌∷◌, ◌++◌, append_assoc}
use mathlib.Core.Path.{◌≡◌, refl, sym, ap, ◌∙◌}
use native.Mathlib.Decide.{dec_le}
use native.Mathlib.Nat.{add-zero, suc-mul}
use native.Mathlib.Omega.{arith}
use lib.ListN.{length, take, drop, length-append, length-drop, drop_of_length-le}
use lib.Seq.{take-append-le, drop-append-le, take_all, take_at, drop_at}
use Rattle.table.specs.declared.State.{State}
use Rattle.pala.specs.Record.{record_bytes}
use Rattle.pala.specs.Run.{cut_in, cut, stretches, played, lent}
use Rattle.pala.specs.Step.{step}
use Rattle.pala.specs.Lines.{line_of, lines}

-- ---- stretches of any size

module _ (size : ℕ) (some : 1 ≤ size) where
  -- more steps than there are bytes change nothing
  cut_fuel : (k j : ℕ) (bytes : List ℕ) → length bytes ≤ k → length bytes ≤ j → cut_in size k bytes ≡ cut_in size j bytes
  unfolding cut_in
  cut_fuel zero zero bytes h g = refl
  cut_fuel zero (suc j) [] h g = refl
  cut_fuel zero (suc j) (b ∷ bytes) h g = absurd (omega arith)
  cut_fuel (suc k) zero [] h g = refl
  cut_fuel (suc k) zero (b ∷ bytes) h g = absurd (omega arith)
  cut_fuel (suc k) (suc j) [] h g = refl
  cut_fuel (suc k) (suc j) (b ∷ bytes) h g =
      let short : length (drop size (b ∷ bytes)) ≤ length bytes = omega (arith, length-drop size (b ∷ bytes)) in
      ap (λ (l : List (List ℕ)). take size (b ∷ bytes) ∷ l) (cut_fuel k j (drop size (b ∷ bytes)) (omega arith) (omega arith))

  -- no byte, no stretch
  pub cut_none : cut size [] ≡ []
  unfolding cut
  cut_none = refl

  -- the first stretch, and then those of what is left
  pub cut_more : (bytes : List ℕ) → 0 < length bytes → cut size bytes ≡ take size bytes ∷ cut size (drop size bytes)
  unfolding cut
  cut_more [] h = absurd (omega arith)
  cut_more (b ∷ bytes) h =
      let short : length (drop size (b ∷ bytes)) ≤ length bytes = omega (arith, length-drop size (b ∷ bytes)) in
      unfold cut_in in
      ap (λ (l : List (List ℕ)). take size (b ∷ bytes) ∷ l)
      (cut_fuel (length bytes) (length (drop size (b ∷ bytes))) (drop size (b ∷ bytes)) (omega arith) (omega arith))

  -- whole stretches, and then the rest
  pub cut-append : (k : ℕ) (xs ys : List ℕ) → length xs ≡ k * size → cut size (xs ++ ys) ≡ cut size xs ++ cut size ys
  cut-append zero [] ys h = sym (ap (λ (l : List (List ℕ)). l ++ cut size ys) cut_none)
  cut-append zero (x ∷ xs) ys h = absurd (omega arith)
  cut-append (suc k) xs ys h =
      let whole : length xs ≡ k * size + size = h ∙ suc-mul k size in
      cut_more (xs ++ ys) (omega (arith, length-append xs ys))
      ∙ ap (λ (l : List ℕ). l ∷ cut size (drop size (xs ++ ys))) (take-append-le size xs ys (omega arith))
      ∙ ap (λ (l : List ℕ). take size xs ∷ cut size l) (drop-append-le size xs ys (omega arith))
      ∙ ap (λ (l : List (List ℕ)). take size xs ∷ l) (cut-append k (drop size xs) ys (omega (arith, length-drop size xs)))
      ∙ ap (λ (l : List (List ℕ)). l ++ cut size ys) (sym (cut_more xs (omega arith)))

  -- there is one for each stretch begun
  abbrev Counts : ℕ → ℕ → Type 0
  Counts long many = (long ≤ many * size) × (many * size < long + size) × (long ≡ 0 → many * size ≡ 0)

  cut_in-count : (k : ℕ) (bytes : List ℕ) → length bytes ≤ k → Counts (length bytes) (length (cut_in size k bytes))
  unfolding cut_in
  cut_in-count zero [] h = (omega arith, omega arith, λ _. omega arith)
  cut_in-count zero (b ∷ bytes) h = absurd (omega arith)
  cut_in-count (suc k) [] h = (omega arith, omega arith, λ _. omega arith)
  cut_in-count (suc k) (b ∷ bytes) h =
      let left : length (drop size (b ∷ bytes)) ≡ suc (length bytes) - size = length-drop size (b ∷ bytes) in
      let rest = cut_in-count k (drop size (b ∷ bytes)) (omega arith) in
      let more = suc-mul (length (cut_in size k (drop size (b ∷ bytes)))) size in (
        omega (arith, rest.0, more),
        elim (dec_le (suc (length bytes)) size) [ yes l ↦ omega (arith, rest.2 (omega arith), more) | no l ↦ omega (arith, rest.1, more) ],
        λ z. absurd (omega arith),
      )

  pub cut-count : (bytes : List ℕ) → (length bytes ≤ length (cut size bytes) * size) × (length (cut size bytes) * size < length bytes + size)
  unfolding cut
  cut-count bytes = let counted = cut_in-count (length bytes) bytes (omega arith) in (counted.0, counted.1)

-- a stretch is of that size, or what is left where that is less
part_cut : (d : List ℕ) (whole size : ℕ) → size ≡ min (length d) whole → (take whole d ≡ take size d) × (drop whole d ≡ drop size d)
part_cut d whole size e =
    elim (dec_le whole (length d)) [
      | yes l ↦
          let same : size ≡ whole = omega arith in
          (ap (λ (n : ℕ). take n d) (sym same), ap (λ (n : ℕ). drop n d) (sym same))
      | no l ↦ (
        take_all whole d (omega arith) ∙ sym (take_all size d (omega arith)),
        drop_of_length-le d {i = whole} (omega arith) ∙ sym (drop_of_length-le d {i = size} (omega arith)),
      )
    ]

-- a chunk that `chunks` hands on of what is left, and the rest
pub record Chunk (whole : ℕ) (left chunk rest : List ℕ) : Type 0 where
  pub parts : left ≡ chunk ++ rest
  pub long : length chunk ≡ min whole (length left)
  pub some : 0 < length left

-- it is the first stretch of what is left
pub next_chunk : {whole : ℕ} {left chunk rest : List ℕ} → 1 ≤ whole → Chunk whole left chunk rest → cut whole left ≡ chunk ∷ cut whole rest
next_chunk {whole} {left} {chunk} {rest} some c =
    let ends = part_cut left whole (length chunk) (omega (arith, c.long)) in
    let first : take whole left ≡ chunk = ends.0 ∙ ap (take (length chunk)) c.parts ∙ take_at chunk rest (length chunk) refl in
    let after : drop whole left ≡ rest = ends.1 ∙ ap (drop (length chunk)) c.parts ∙ drop_at chunk rest (length chunk) refl in
    cut_more whole some left c.some ∙ ap (λ (x : List ℕ). x ∷ cut whole (drop whole left)) first ∙ ap (λ (x : List ℕ). chunk ∷ cut whole x) after

-- nothing left, no stretch
pub cut_end : (whole : ℕ) → 1 ≤ whole → (left : List ℕ) → length left ≡ 0 → cut whole left ≡ []
cut_end whole some [] e = cut_none whole some
cut_end whole some (x ∷ left) e = absurd (omega arith)

-- ---- those of 96 bytes

-- whole records, and then the rest
pub stretches-append :
    (k : ℕ) (xs ys : List ℕ) → length xs ≡ record_bytes * k → stretches (xs ++ ys) ≡ stretches xs ++ stretches ys
unfolding stretches
stretches-append k xs ys h = cut-append record_bytes (omega arith) k xs ys (omega (arith, h))

pub stretches-count : (bytes : List ℕ) → length (stretches bytes) ≡ (length bytes + 95) / record_bytes
unfolding stretches
stretches-count bytes = let counted = cut-count record_bytes (omega arith) bytes in omega (arith, counted.0, counted.1)

-- ---- one record

-- playing on from after a chunk is playing on from before it
pub played_chunk :
    (t : State) {u : State} {left chunk rest : List ℕ} → Chunk record_bytes left chunk rest → u ≡ (step t chunk lent).state
    → played u (stretches rest) ≡ played t (stretches left)
unfolding played stretches
played_chunk t {u} {left} {chunk} {rest} c e =
    ap (λ (x : State). played x (stretches rest)) e ∙ ap (λ (x : List (List ℕ)). played t x) (sym (next_chunk (omega arith) c))

-- with nothing left nothing is played
pub played_over : (t : State) (left : List ℕ) → length left ≡ 0 → played t (stretches left) ≡ t
unfolding played stretches
played_over t left e = ap (λ (x : List (List ℕ)). played t x) (cut_end record_bytes (omega arith) left e)

-- ---- one piece after another

-- playing records and then others is playing them all
pub played-append : (s : State) (xs ys : List (List ℕ)) → played s (xs ++ ys) ≡ played (played s xs) ys
unfolding played
played-append s [] ys = refl
played-append s (r ∷ xs) ys = played-append (step s r lent).state xs ys

-- the lines of two pieces joined, the second starting from the state and the record number that the first one left
pub lines-append :
    (s : State) (before : ℕ) (xs ys : List (List ℕ))
    → lines s before (xs ++ ys) ≡ lines s before xs ++ lines (played s xs) (before + length xs) ys
unfolding lines played
lines-append s before [] ys = ap (λ (n : ℕ). lines s n ys) (sym (add-zero before))
lines-append s before (r ∷ xs) ys =
    let first : List ℕ = line_of (suc before) (step s r lent).answer (step s r lent).state in
    let rest : State = (step s r lent).state in
    let number : suc before + length xs ≡ before + suc (length xs) = omega arith in
    ap (λ (l : List ℕ). first ++ l) (lines-append rest (suc before) xs ys)
    ∙ ap (λ (n : ℕ). first ++ (lines rest (suc before) xs ++ lines (played rest xs) n ys)) number
    ∙ sym (append_assoc first (lines rest (suc before) xs) (lines (played rest xs) (before + suc (length xs)) ys))
