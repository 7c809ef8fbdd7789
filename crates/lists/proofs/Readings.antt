-- How code finds and writes the names of a final list, and what reading it hands back. Assumes nothing.
use Rattle.std.proofs.Common.{Result, Ok, Err}
use Prim.Native.Nat.{ℕ, ◌+◌, ◌*◌, ◌≤◌, ◌<◌}
use mathlib.Core.Bool.{true, false, not}
use mathlib.Core.List.{List, [], ◌∷◌, ◌++◌, append-nil, append_assoc}
use mathlib.Core.Path.{◌≡◌, sym, ap, ◌∙◌}
use native.Mathlib.Decide.{dec_lt}
use native.Mathlib.Omega.{arith}
use borrow.Author.Tests.{lt-ltb, le-ltb}
use lib.Dec.{ltb}
use lib.ListN.{length, take, drop, length-append, take-append-drop}
use borrow.Rule.Slice.PartMut.{put_mid}
use lib.Seq.{drop-drop, take-append-le, drop_at, length-take-le, take-take, append_snoc}
use Rattle.table.specs.Scan.{pick}
use Rattle.table.specs.Rows.{name_bytes, rows, at}
use Rattle.table.specs.declared.Answer.{Answer}
use Rattle.table.specs.declared.Block.{Block}
use Rattle.table.specs.declared.Place.{Place}
use Rattle.table.specs.declared.State.{State}
use Rattle.table.proofs.Laws.{pick_yes, pick_no}
use Rattle.pala.specs.Rules.{lower, parent_of}
use Rattle.pala.specs.Answers.{answered, lowest_of, number, taken}
use Rattle.pala.specs.Shape.{well_shaped}
use Rattle.pala.specs.Lists.{list_answer, listed, final_list, joined, final_places, final_names}
use Rattle.pala.proofs.Finals.{names_to, names_zero, names_up, names_up_length}

-- ---- how code goes down a line

-- the block at a place, and the place below it
module _ (t : List Block) (p : ℕ) (b : Block) (is : b ≡ at t p) where
  pub next_place : (q : Place) → q ≡ record { 0 = pick (ltb b.parent.0 p) b.parent.0 0 } → q.0 ≡ parent_of t p
  unfolding parent_of lower
  next_place q e = ap (λ (x : Place). x.0) e ∙ ap (λ (x : Block). pick (ltb x.parent.0 p) x.parent.0 0) is

-- ---- writing names

-- a list into which the names after place p have been written, the first of them at `from`
pub record Written (t : List Block) (names : List (List ℕ)) (whole : List ℕ) (p from : ℕ) (list : List ℕ) : Type 0 where
  pub after : List (List ℕ)
  pub split : names ≡ names_to t p ++ after
  pub here : from ≡ name_bytes * length (names_to t p)
  pub bytes : list ≡ take from whole ++ (joined after ++ drop (name_bytes * length names) whole)

pub written_none : (s : State) (count : ℕ) (whole : List ℕ) → count ≡ length (final_names s) → Written (rows s) (final_names s) whole s.kept.0 (name_bytes * count) whole
unfolding final_names final_places names_to joined
written_none s count whole e =
    let start = name_bytes * count in
    record {
      after = [];
      split = sym (append-nil (final_names s));
      here = ap (λ (k : ℕ). name_bytes * k) e;
      bytes = sym (ap (λ (k : ℕ). take start whole ++ drop (name_bytes * k) whole) (sym e) ∙ take-append-drop start whole);
    }

module _ (t : List Block) (names : List (List ℕ)) (whole : List ℕ) (p from : ℕ) (list : List ℕ) (w : Written t names whole p from list) where
  -- while names are left, so is a place
  pub written_left : 0 < from → 0 < p
  written_left h =
      elim (dec_lt 0 p) [
        | yes l ↦ l
        | no l ↦
            let z : p ≡ 0 = omega arith in
            absurd (omega (arith, w.here, ap (λ (x : ℕ). length (names_to t x)) z, ap length (names_zero t)))
      ]

  -- the name at p goes in front of what is written, and the next is its parent's
  pub written_step : (q to size : ℕ) (name : List ℕ) → name_bytes * length names ≤ length whole → to + name_bytes ≡ from → size ≡ name_bytes → q ≡ parent_of t p → name ≡ (at t p).name → Written t names whole q to (put_mid to size list name)
  unfolding joined
  written_step q to size name fits f n e g =
      let tail = drop (name_bytes * length names) whole in
      let rest = joined w.after ++ tail in
      let below : 0 < p = written_left (omega arith) in
      let within : from ≤ length whole = omega (arith, w.here, ap length w.split, length-append (names_to t p) w.after) in
      let room : length (take from whole) ≡ from = length-take-le from whole within in
      let front : take to list ≡ take to whole = ap (λ (l : List ℕ). take to l) w.bytes ∙ take-append-le to (take from whole) rest (omega arith) ∙ take-take to from whole (omega arith) in
      let back : drop size (drop to list) ≡ rest = drop-drop size to list ∙ ap (λ (l : List ℕ). drop (to + size) l) w.bytes ∙ drop_at (take from whole) rest (to + size) (omega arith) in
      record {
        after = name ∷ w.after;
        split =
            w.split
            ∙ ap (λ (l : List (List ℕ)). l ++ w.after) (names_up t p below)
            ∙ append_snoc (names_to t (parent_of t p)) (at t p).name w.after
            ∙ ap (λ (x : List ℕ). names_to t (parent_of t p) ++ x ∷ w.after) (sym g)
            ∙ ap (λ (x : ℕ). names_to t x ++ name ∷ w.after) (sym e);
        here = omega (arith, w.here, names_up_length t p below, ap (λ (x : ℕ). length (names_to t x)) e);
        bytes =
            ap (λ (l : List ℕ). l ++ (name ++ drop size (drop to list))) front
            ∙ ap (λ (l : List ℕ). take to whole ++ (name ++ l)) back
            ∙ ap (λ (l : List ℕ). take to whole ++ l) (sym (append_assoc name (joined w.after) tail));
      }

-- ---- what reading a final list hands back

module _ (s : State) (buffer : List ℕ) where
  -- an answer and a list are those of reading the final list
  abbrev pub Told : Result ℕ Answer → List ℕ → Type 0
  Told r list = (r ≡ answered (final_list s buffer).answer (final_list s buffer).count) × (list ≡ (final_list s buffer).list)

  told : (a : Answer) → a ≡ list_answer s buffer → Told (answered a (listed a s buffer).count) (listed a s buffer).list
  unfolding final_list
  told a e = (ap (λ (x : Answer). answered x (listed x s buffer).count) e, ap (λ (x : Answer). (listed x s buffer).list) e)

  pub list_badly_shaped : well_shaped s ≡ false → Told (Err Answer.State) buffer
  unfolding pick taken number answered listed list_answer lowest_of
  list_badly_shaped h = told Answer.State (sym (pick_yes (not (well_shaped s)) _ _ (ap not h)))

  module _ (shaped : well_shaped s ≡ true) where
    roomy : list_answer s buffer ≡ pick (ltb (length buffer) (name_bytes * length (final_names s))) Answer.Length Answer.Taken
    unfolding list_answer lowest_of
    roomy = pick_no (not (well_shaped s)) _ _ (ap not shaped)

    pub list_too_short : length buffer < name_bytes * length (final_names s) → Told (Err Answer.Length) buffer
    unfolding pick taken number answered listed
    list_too_short h = told Answer.Length (sym (roomy ∙ pick_yes _ _ _ (lt-ltb _ _ h)))

    pub list_read : (count : ℕ) (list : List ℕ) → name_bytes * length (final_names s) ≤ length buffer → count ≡ length (final_names s) → list ≡ joined (final_names s) ++ drop (name_bytes * length (final_names s)) buffer → Told (Ok count) list
    unfolding pick taken number answered listed
    list_read count list h e f =
        let t = told Answer.Taken (sym (roomy ∙ pick_no _ _ _ (le-ltb _ _ h))) in
        (ap (λ (k : ℕ). Ok k) e ∙ t.0, f ∙ t.1)
