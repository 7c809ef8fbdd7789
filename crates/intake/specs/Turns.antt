-- A reading in pieces, each of which is played and its text written.
use Rattle.std.specs.Prelude.{◌≡◌, ℕ, ◌-◌, ◌^◌, ◌<◌, ◌⊎◌, List, [], ◌∷◌, ◌++◌, All, length, take, replicate, flat_map, Option}
use Rattle.std.specs.List.{FoldsTo}
use Rattle.std.specs.Io.KnownBytes.{Appends, Consumes, IsAtEnd}
use Rattle.std.specs.Fn.{Called, Mut}
use denote.Ref.{Bor, MutBor}

-- a piece and its text
pub record Turn : Type 0 where
  pub piece : List ℕ
  pub text : List ℕ

-- the pieces joined, and the texts
abbrev pub pieces : List Turn → List ℕ
pieces turns = flat_map (λ (t : Turn). t.piece) turns

abbrev pub texts : List Turn → List ℕ
texts turns = flat_map (λ (t : Turn). t.text) turns

module _ {F : Type 0} (g : Mut F (Bor (List ℕ) × (MutBor (List ℕ) × Unit {0})) (ℕ × (MutBor (List ℕ) × Unit {0}))) (room : ℕ) where
  -- f played a piece: it was lent so many zero bytes, and the text is as many of them as it answered
  pub record Plays (f : F) (t : Turn) (f' : F) : Type 0 where
    pub shown : Bor (List ℕ)
    pub shows : shown.now ≡ t.piece
    pub lent : MutBor (List ℕ)
    pub blank : lent.now ≡ replicate room 0
    pub end : ℕ
    pub left : MutBor (List ℕ)
    pub called : Called g f (shown, (lent, tt)) (end, (left, tt)) f'
    pub told : t.text ≡ take end left.now

  -- turns, one after the other: the reader lost their pieces, and the writer got their texts
  pub record Took (read held : Option (List ℕ)) (f : F) (turns : List Turn) (read' held' : Option (List ℕ)) (f' : F) : Type 0 where
    pub played : FoldsTo Plays f turns f'
    pub consumed : Consumes read read' (pieces turns)
    pub written : Appends held held' (texts turns)

  -- full pieces and then a shorter one, at the end of the input; or as many full pieces as turns are counted
  pub record Driven (size : ℕ) (read held : Option (List ℕ)) (f : F) (read' held' : Option (List ℕ)) : Type 0 where
    pub full : List Turn
    pub whole : All (λ (t : Turn). length t.piece ≡ size) full
    pub ended :
        ((t : Turn) × (f' : F) × Took read held f (full ++ t ∷ []) read' held' f' × (length t.piece < size) × IsAtEnd read')
        ⊎ ((f' : F) × Took read held f full read' held' f' × (length full ≡ 2 ^ 64 - 1))
