-- A piece of a recording, record by record: what is written so far, then the lines of what is left. Assumes nothing.
use Prim.Native.Nat.{ℕ, suc, ◌+◌, ◌*◌, ◌≤◌, ◌<◌}
use mathlib.Core.List.{List, [], ◌∷◌, ◌++◌, append_assoc, append-nil}
use mathlib.Core.Path.{◌≡◌, refl, sym, ap, ◌∙◌}
use native.Mathlib.Nat.{zero-add, mul-suc}
use native.Mathlib.Numerals.{add-one}
use native.Mathlib.Omega.{arith}
use lib.ListN.{length}
use Rattle.pala.specs.Run.{cut}
use Rattle.pala.proofs.Stretches.{Chunk, next_chunk, cut_end}
use Rattle.lines.specs.Play.{last_number}
use Rattle.lines.specs.Text.{written, Put}
use Rattle.lines.proofs.Laws.{put_then, put_as, put-length, put_none}

-- records, stretches of one size, played one after the other: what follows each, and its line, no longer than the longest
pub record Tale (X : Type 0) : Type 0 where
  pub size : ℕ
  pub most : ℕ
  pub some : 1 ≤ size
  pub after : X → List ℕ → X
  pub line : X → ℕ → List ℕ → List ℕ
  pub last : X → List (List ℕ) → X
  pub text : X → ℕ → List (List ℕ) → List ℕ
  pub last_none : (x : X) → last x [] ≡ x
  pub last_more : (x : X) (r : List ℕ) (more : List (List ℕ)) → last x (r ∷ more) ≡ last (after x r) more
  pub text_none : (x : X) (k : ℕ) → text x k [] ≡ []
  pub text_more : (x : X) (k : ℕ) (r : List ℕ) (more : List (List ℕ)) → text x k (r ∷ more) ≡ line x (suc k) r ++ text (after x r) (suc k) more

-- one record played: what follows it, and its line put into the text
pub record Recorded {X : Type 0} (T : Tale X) (x : X) (k : ℕ) (r text : List ℕ) (end : ℕ) (y : X) (past : ℕ) (later : List ℕ) : Type 0 where
  pub state : y ≡ T.after x r
  pub line : Put text end (T.line x k r) past later
  pub short : past ≤ end + T.most

-- between two records: `done` is written, and what is left of the input gives the rest
pub record Going {X : Type 0} (T : Tale X) (x : X) (before : ℕ) (input text₀ : List ℕ) (y : X) (k : ℕ) (left : List ℕ) (end : ℕ) (text : List ℕ) : Type 0 where
  pub done : List ℕ
  pub put : Put text₀ 0 done end text
  pub fits : end + T.most * length (cut T.size left) ≤ length text₀
  pub number : k + length (cut T.size left) ≡ before + length (cut T.size input)
  pub states : T.last y (cut T.size left) ≡ T.last x (cut T.size input)
  pub texts : done ++ T.text y k (cut T.size left) ≡ T.text x before (cut T.size input)

-- a piece played to its end
pub record Gone {X : Type 0} (T : Tale X) (x : X) (before : ℕ) (input text₀ : List ℕ) (y : X) (k end : ℕ) (text : List ℕ) : Type 0 where
  pub state : y ≡ T.last x (cut T.size input)
  pub number : k ≡ before + length (cut T.size input)
  pub ends : end ≡ length (T.text x before (cut T.size input))
  pub holds : text ≡ written text₀ 0 (T.text x before (cut T.size input))

module _ {X : Type 0} (T : Tale X) {x : X} {before : ℕ} {input text₀ : List ℕ} where
  pub going_start : T.most * length (cut T.size input) ≤ length text₀ → Going T x before input text₀ x before input 0 text₀
  going_start room =
      record {
        done = [];
        put = put_none text₀ 0 (omega arith);
        fits = omega arith;
        number = refl;
        states = refl;
        texts = refl;
      }

  module _ {y : X} {k end : ℕ} {left text : List ℕ} (g : Going T x before input text₀ y k left end text) where
    pub going_length : length text ≡ length text₀
    going_length = put-length (omega (arith, g.put.ends, g.fits)) g.put

    -- a record handed on by `chunks`
    module _ {rec rest : List ℕ} (c : Chunk T.size left rec rest) where
      cuts : cut T.size left ≡ rec ∷ cut T.size rest
      cuts = next_chunk T.some c

      many : length (cut T.size left) ≡ suc (length (cut T.size rest))
      many = ap length cuts

      more : T.most * length (cut T.size left) ≡ T.most * length (cut T.size rest) + T.most
      more = ap (λ (n : ℕ). T.most * n) many ∙ mul-suc T.most (length (cut T.size rest))

      -- there is a number for it, and room for its line
      pub going_numbered : before + length (cut T.size input) ≤ last_number → k < last_number
      going_numbered h = omega (arith, many, g.number)

      pub going_room : end + T.most ≤ length text
      going_room = omega (arith, going_length, g.fits, more)

      pub going_next :
          {z : X} {past : ℕ} {later : List ℕ} → Recorded T y (k + 1) rec text end z past later
          → Going T x before input text₀ z (k + 1) rest past later
      going_next {z} r =
          let line : List ℕ = T.line y (k + 1) rec in
          record {
            done = g.done ++ line;
            put = put_then (omega (arith, r.line.ends, r.short, g.put.ends, g.fits, more)) g.put r.line;
            fits = omega (arith, r.short, g.fits, more);
            number = omega (arith, g.number, many);
            states =
                ap (λ (w : X). T.last w (cut T.size rest)) r.state
                ∙ sym (T.last_more y rec (cut T.size rest))
                ∙ ap (T.last y) (sym cuts)
                ∙ g.states;
            texts =
                ap (λ (w : X). g.done ++ line ++ T.text w (k + 1) (cut T.size rest)) r.state
                ∙ append_assoc g.done line (T.text (T.after y rec) (k + 1) (cut T.size rest))
                ∙ ap (λ (n : ℕ). g.done ++ (T.line y n rec ++ T.text (T.after y rec) n (cut T.size rest))) (add-one k)
                ∙ ap (λ (l : List ℕ). g.done ++ l) (sym (T.text_more y k rec (cut T.size rest)) ∙ ap (T.text y k) (sym cuts))
                ∙ g.texts;
          }

    -- with nothing left the piece is played
    pub going_end : length left ≡ 0 → Gone T x before input text₀ y k end text
    going_end l =
        let none : cut T.size left ≡ [] = cut_end T.size T.some left l in
        let count : length (cut T.size left) ≡ 0 = ap length none in
        let rest : T.text y k (cut T.size left) ≡ [] = ap (T.text y k) none ∙ T.text_none y k in
        let all : Put text₀ 0 (T.text x before (cut T.size input)) end text =
        put_as (sym (append-nil g.done) ∙ ap (λ (l : List ℕ). g.done ++ l) (sym rest) ∙ g.texts) g.put in
        record {
          state = sym (T.last_none y) ∙ ap (T.last y) (sym none) ∙ g.states;
          number = omega (arith, g.number);
          ends = all.ends ∙ zero-add (length (T.text x before (cut T.size input)));
          holds = all.holds;
        }
