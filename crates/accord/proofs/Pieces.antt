-- A recording in pieces: the lines of one piece after another are the lines of the whole. Assumes nothing.
use Prim.Native.Nat.{ℕ, suc, ◌+◌, ◌*◌}
use mathlib.Core.Bool.{Bool, true}
use mathlib.Core.List.{List, [], ◌∷◌, ◌++◌, append_assoc, append-nil}
use mathlib.Core.Path.{◌≡◌, refl, sym, ap, ◌∙◌}
use native.Mathlib.Nat.{add-zero}
use native.Mathlib.Omega.{arith}
use lib.ListN.{length, drop}
use Rattle.pala.specs.Lists.{joined}
use Rattle.pala.specs.Run.{cut}
use Rattle.pala.proofs.Stretches.{cut-append, cut-count}
use Rattle.accord.specs.declared.Hall.{Hall}
use Rattle.accord.specs.Head.{good_head, fresh_hall}
use Rattle.accord.specs.Rulings.{verdict}
use Rattle.accord.specs.Words.{agree}
use Rattle.accord.specs.Text.{sent_bytes, receiver_of, record_of, hall_played, hall_line, lines_with, hall_lines, hall_text}
use Rattle.accord.proofs.Played.{hall_next}
use Rattle.accord.proofs.NeverNo.{good-text}

-- ---- records and then others

pub hall-played-append : (h : Hall) (xs ys : List (List ℕ)) → hall_played h (xs ++ ys) ≡ hall_played (hall_played h xs) ys
unfolding hall_played
hall-played-append h [] ys = refl
hall-played-append h (x ∷ xs) ys = hall-played-append (hall_next h x) xs ys

-- the second part starts from the hall and the record number that the first one left
pub hall-lines-append : (word : Hall → Bool) (h : Hall) (before : ℕ) (xs ys : List (List ℕ))
    → lines_with word h before (xs ++ ys) ≡ lines_with word h before xs ++ lines_with word (hall_played h xs) (before + length xs) ys
unfolding lines_with hall_played
hall-lines-append word h before [] ys = ap (λ n. lines_with word h n ys) (sym (add-zero before))
hall-lines-append word h before (x ∷ xs) ys =
    let next : Hall = hall_next h x in
    let first : List ℕ = hall_line (suc before) (verdict h (receiver_of x) (record_of x)) (word next) in
    let number : suc before + length xs ≡ before + suc (length xs) = omega arith in
    ap (λ l. first ++ l) (hall-lines-append word next (suc before) xs ys)
    ∙ ap (λ n. first ++ (lines_with word next (suc before) xs ++ lines_with word (hall_played next xs) n ys)) number
    ∙ sym (append_assoc first (lines_with word next (suc before) xs) (lines_with word (hall_played next xs) (before + suc (length xs)) ys))

-- ---- pieces of bytes

-- k whole records of 97 bytes
pub cut-length : (k : ℕ) (xs : List ℕ) → length xs ≡ k * sent_bytes → length (cut sent_bytes xs) ≡ k
cut-length k xs e = let counted = cut-count sent_bytes (omega arith) xs in omega (arith, counted.0, counted.1)

-- .. and then the rest
module _ (k : ℕ) (xs ys : List ℕ) (e : length xs ≡ k * sent_bytes) where
  cut_whole : cut sent_bytes (xs ++ ys) ≡ cut sent_bytes xs ++ cut sent_bytes ys
  cut_whole = cut-append sent_bytes (omega arith) k xs ys e

  pub hall_pieces_played : (h : Hall) → hall_played h (cut sent_bytes (xs ++ ys)) ≡ hall_played (hall_played h (cut sent_bytes xs)) (cut sent_bytes ys)
  hall_pieces_played h = ap (hall_played h) cut_whole ∙ hall-played-append h (cut sent_bytes xs) (cut sent_bytes ys)

  pub hall_pieces : (h : Hall) (before : ℕ)
      → hall_lines h before (cut sent_bytes (xs ++ ys))
      ≡ hall_lines h before (cut sent_bytes xs) ++ hall_lines (hall_played h (cut sent_bytes xs)) (before + k) (cut sent_bytes ys)
  unfolding hall_lines
  hall_pieces h before =
      ap (hall_lines h before) cut_whole
      ∙ hall-lines-append agree h before (cut sent_bytes xs) (cut sent_bytes ys)
      ∙ ap (λ n. hall_lines h before (cut sent_bytes xs) ++ hall_lines (hall_played h (cut sent_bytes xs)) (before + n) (cut sent_bytes ys)) (cut-length k xs e)

-- pieces of which each but the last is of whole records
pub data Pieces : List (List ℕ) → Type 0 where
  lastly : (p : List ℕ) → Pieces (p ∷ [])
  firstly : {more : List (List ℕ)} (p : List ℕ) (k : ℕ) → length p ≡ k * sent_bytes → Pieces more → Pieces (p ∷ more)

-- their lines, each from the hall and the record number that the one before it left
unfoldable pub piece_lines : Hall → ℕ → List (List ℕ) → List ℕ
unfolding hall_lines hall_played cut
piece_lines h before [] = []
piece_lines h before (p ∷ more) =
    hall_lines h before (cut sent_bytes p) ++ piece_lines (hall_played h (cut sent_bytes p)) (before + length (cut sent_bytes p)) more

pub pieces_lines : {ps : List (List ℕ)} → Pieces ps → (h : Hall) (before : ℕ) → piece_lines h before ps ≡ hall_lines h before (cut sent_bytes (joined ps))
unfolding piece_lines joined
pieces_lines (lastly p) h before = append-nil (hall_lines h before (cut sent_bytes p)) ∙ ap (λ l. hall_lines h before (cut sent_bytes l)) (sym (append-nil p))
pieces_lines (firstly {more = more} p k e w) h before =
    ap (λ n. hall_lines h before (cut sent_bytes p) ++ piece_lines (hall_played h (cut sent_bytes p)) (before + n) more) (cut-length k p e)
    ∙ ap (λ l. hall_lines h before (cut sent_bytes p) ++ l) (pieces_lines w (hall_played h (cut sent_bytes p)) (before + k))
    ∙ sym (hall_pieces k p (joined more) e h before)

-- so the pieces joined are the text of the whole recording
pub hall_text_pieces : (bytes : List ℕ) → good_head bytes ≡ true → (ps : List (List ℕ)) → Pieces ps → joined ps ≡ drop 2 bytes
    → hall_text bytes ≡ piece_lines (fresh_hall bytes) 0 ps
hall_text_pieces bytes good ps w e =
    good-text bytes good
    ∙ ap (λ l. hall_lines (fresh_hall bytes) 0 (cut sent_bytes l)) (sym e)
    ∙ sym (pieces_lines w (fresh_hall bytes) 0)
