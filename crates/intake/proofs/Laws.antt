-- A text in a buffer, cut where the buffer ends; and an input in pieces: they are determined by the input and their size.
use Rattle.std.proofs.Common.{◌≡◌, ℕ, ◌<◌, List, [], ◌∷◌, ◌++◌, All, length, map, take, drop, min, suc, refl, ap, ◌∙◌, sym, append_assoc, length-append, arith}
use Rattle.std.proofs.lemmas.List.{take_min}
use lib.Seq.{take_at, drop_at}
use Rattle.intake.specs.Turns.{Turn, pieces}

pub cut_take : (n cut room : ℕ) (text : List ℕ) → length text ≡ room → cut ≡ min n room → take cut text ≡ take n text
cut_take n cut room text size e = ap (λ k. take k text) (e ∙ ap (min n) (sym size)) ∙ take_min n text

-- the same bytes in full pieces and a shorter one: the same pieces
pub pieces_one : (size : ℕ) (a b : List Turn) (x y : List ℕ) → All (λ (t : Turn). length t.piece ≡ size) a → All (λ (t : Turn). length t.piece ≡ size) b → length x < size → length y < size → pieces a ++ x ≡ pieces b ++ y → (map (λ (t : Turn). t.piece) a ≡ map (λ (t : Turn). t.piece) b) × (x ≡ y)
pieces_one size [] [] x y ha hb hx hy e = (refl, e)
pieces_one size [] (t ∷ b) x y ha hb hx hy e =
    let long : length t.piece ≡ size = hb 0 t (omega arith) in
    absurd (omega (arith, ap length e, length-append (t.piece ++ pieces b) y, length-append t.piece (pieces b)))
pieces_one size (t ∷ a) [] x y ha hb hx hy e =
    let long : length t.piece ≡ size = ha 0 t (omega arith) in
    absurd (omega (arith, ap length e, length-append (t.piece ++ pieces a) x, length-append t.piece (pieces a)))
pieces_one size (t ∷ a) (u ∷ b) x y ha hb hx hy e =
    let p = ha 0 t (omega arith) in
    let q = hb 0 u (omega arith) in
    let whole : t.piece ++ (pieces a ++ x) ≡ u.piece ++ (pieces b ++ y) = sym (append_assoc t.piece (pieces a) x) ∙ e ∙ append_assoc u.piece (pieces b) y in
    let first : t.piece ≡ u.piece = sym (take_at t.piece (pieces a ++ x) size p) ∙ ap (take size) whole ∙ take_at u.piece (pieces b ++ y) size q in
    let rest : pieces a ++ x ≡ pieces b ++ y = sym (drop_at t.piece (pieces a ++ x) size p) ∙ ap (drop size) whole ∙ drop_at u.piece (pieces b ++ y) size q in
    let more = pieces_one size a b x y (λ k d h. ha (suc k) d (omega arith)) (λ k d h. hb (suc k) d (omega arith)) hx hy rest in
    (λ i. first i ∷ more.0 i, more.1)
