-- Which rows can apply to a record of each kind, in the words of its fields. Assumes nothing.
use Prim.Native.Nat.{ℕ}
use mathlib.Core.Bool.{Bool, true, false, not, ◌&&◌, ◌||◌, or-false}
use mathlib.Core.List.{List, [], ◌∷◌}
use mathlib.Core.Path.{◌≡◌, refl, sym, ap, subst, ◌∙◌}
use native.Mathlib.Numerals.{add-one}
use lib.Dec.{eqb, ltb, leb}
use lib.ListN.{drop}
use Rattle.std.specs.Prelude.{Result, Ok, Err}
use Rattle.table.specs.declared.Answer.{Answer}
use Rattle.table.specs.declared.Place.{Place}
use Rattle.table.specs.declared.State.{State}
use Rattle.table.specs.Bytes.{zeros}
use Rattle.table.specs.Scan.{pick}
use Rattle.table.specs.Rows.{rows, size, at, find, has_voter}
use Rattle.pala.specs.Counts.{top_epoch, clock_of}
use Rattle.pala.specs.Record.{kind_of, proposal_heard, vote_heard, clock_heard, propose_now, cast_now, minute_up, known_kind, heard}
use Rattle.pala.specs.Rules.{epoch_at, freshest}
use Rattle.pala.specs.Answers.{taken, lowest_of, shaped_rows, bad_sender, bad_epoch, bad_name, unknown, bad_order, bad_turn, proposer, repeats, nothing, full}
use Rattle.pala.specs.Effects.{picked}
use Rattle.pala.specs.Step.{room}
use Rattle.record.specs.declared.Fields.{Fields}
use Rattle.record.specs.Fields.{fields_of}
use Rattle.node.specs.Moves.{move_by, place_for, judged, decided}
use Rattle.record.specs.declared.kinds.Kind.{Kind}
use Rattle.record.specs.Numbers.{kind_in, kind_number}
use Rattle.record.proofs.Numbers.{kind_ok, kind_err}
use Rattle.node.proofs.Ways.{Through, through}
use Rattle.node.proofs.Ways.Through.{refuses, passes, rests}

-- ---- proposal

abbrev pub proposal_rows : State → Fields → List (Bool × Answer)
proposal_rows s f =
    (eqb f.epoch.0 0 || leb top_epoch f.epoch.0, Answer.Epoch)
    ∷ (zeros f.name || ltb (find (rows s) f.name) (size (rows s)), Answer.Name)
    ∷ (leb (size (rows s)) (find (rows s) f.parent), Answer.Unknown)
    ∷ (leb f.epoch.0 (epoch_at (rows s) (find (rows s) f.parent)), Answer.Order)
    ∷ (not (eqb f.sender.0 (proposer s.n f.epoch.0)), Answer.Turn)
    ∷ (not (room s.count), Answer.Full)
    ∷ []

proposal_rows_are : (s : State) (r : List ℕ) → kind_of r ≡ proposal_heard → judged s r ≡ move_by (proposal_rows s (fields_of r)) (find (rows s) (fields_of r).parent)
unfolding judged move_by lowest_of pick place_for picked shaped_rows bad_epoch bad_name unknown bad_order bad_turn repeats nothing full fields_of
proposal_rows_are s r k = simp (k, or-false)

pub proposal_judged : (s : State) (f : Fields) (m : Result Place Answer) → f.kind ≡ proposal_heard → Through (proposal_rows s f) (find (rows s) f.parent) m → (r : List ℕ) → f ≡ fields_of r → m ≡ judged s r
unfolding fields_of
proposal_judged s f m k way r e =
    subst (λ (g : Fields). g.kind ≡ proposal_heard → Through (proposal_rows s g) (find (rows s) g.parent) m → m ≡ judged s r) (sym e)
    (λ q w. through w ∙ sym (proposal_rows_are s r q)) k way

-- ---- vote

abbrev pub vote_rows : State → Fields → List (Bool × Answer)
vote_rows s f =
    (eqb (find (rows s) f.name) 0 || leb (size (rows s)) (find (rows s) f.name), Answer.Unknown)
    ∷ (has_voter (at (rows s) (find (rows s) f.name)) f.sender.0, Answer.Repeat)
    ∷ []

vote_rows_are : (s : State) (r : List ℕ) → kind_of r ≡ vote_heard → judged s r ≡ move_by (vote_rows s (fields_of r)) (find (rows s) (fields_of r).name)
unfolding judged move_by lowest_of pick place_for picked shaped_rows bad_epoch bad_name unknown bad_order bad_turn repeats nothing full fields_of
vote_rows_are s r k = simp (k, or-false)

pub vote_judged : (s : State) (f : Fields) (m : Result Place Answer) → f.kind ≡ vote_heard → Through (vote_rows s f) (find (rows s) f.name) m → (r : List ℕ) → f ≡ fields_of r → m ≡ judged s r
unfolding fields_of
vote_judged s f m k way r e =
    subst (λ (g : Fields). g.kind ≡ vote_heard → Through (vote_rows s g) (find (rows s) g.name) m → m ≡ judged s r) (sym e)
    (λ h w. through w ∙ sym (vote_rows_are s r h)) k way

-- ---- clock

abbrev pub clock_rows : State → Fields → List (Bool × Answer)
clock_rows s f =
    (eqb f.epoch.0 0, Answer.Epoch)
    ∷ (leb f.epoch.0 (clock_of s.clocks f.sender.0), Answer.Repeat)
    ∷ []

clock_rows_are : (s : State) (r : List ℕ) → kind_of r ≡ clock_heard → judged s r ≡ move_by (clock_rows s (fields_of r)) (0)
unfolding judged move_by lowest_of pick place_for picked shaped_rows bad_epoch bad_name unknown bad_order bad_turn repeats nothing full fields_of
clock_rows_are s r k = simp (k, or-false)

pub clock_judged : (s : State) (f : Fields) (m : Result Place Answer) → f.kind ≡ clock_heard → Through (clock_rows s f) (0) m → (r : List ℕ) → f ≡ fields_of r → m ≡ judged s r
unfolding fields_of
clock_judged s f m k way r e =
    subst (λ (g : Fields). g.kind ≡ clock_heard → Through (clock_rows s g) (0) m → m ≡ judged s r) (sym e)
    (λ h w. through w ∙ sym (clock_rows_are s r h)) k way

-- ---- propose

abbrev pub propose_rows : State → Fields → List (Bool × Answer)
propose_rows s f =
    (leb top_epoch s.local.0, Answer.Epoch)
    ∷ (zeros f.name || ltb (find (rows s) f.name) (size (rows s)), Answer.Name)
    ∷ (leb s.local.0 (epoch_at (rows s) (freshest s.n (rows s))), Answer.Order)
    ∷ (not (eqb s.own.0 (proposer s.n s.local.0)), Answer.Turn)
    ∷ (eqb s.proposed.0 s.local.0, Answer.Repeat)
    ∷ (not (room s.count), Answer.Full)
    ∷ []

propose_rows_are : (s : State) (r : List ℕ) → kind_of r ≡ propose_now → judged s r ≡ move_by (propose_rows s (fields_of r)) (freshest s.n (rows s))
unfolding judged move_by lowest_of pick place_for picked shaped_rows bad_epoch bad_name unknown bad_order bad_turn repeats nothing full fields_of
propose_rows_are s r k = simp (k, or-false)

pub propose_judged : (s : State) (f : Fields) (m : Result Place Answer) → f.kind ≡ propose_now → Through (propose_rows s f) (freshest s.n (rows s)) m → (r : List ℕ) → f ≡ fields_of r → m ≡ judged s r
unfolding fields_of
propose_judged s f m k way r e =
    subst (λ (g : Fields). g.kind ≡ propose_now → Through (propose_rows s g) (freshest s.n (rows s)) m → m ≡ judged s r) (sym e)
    (λ q w. through w ∙ sym (propose_rows_are s r q)) k way

-- ---- cast

abbrev pub cast_rows : State → List (Bool × Answer)
cast_rows s =
    (leb (size (rows s)) (picked s), Answer.Nothing)
    ∷ []

cast_rows_are : (s : State) (r : List ℕ) → kind_of r ≡ cast_now → judged s r ≡ move_by (cast_rows s) (picked s)
unfolding judged move_by lowest_of pick place_for picked shaped_rows bad_epoch bad_name unknown bad_order bad_turn repeats nothing full
cast_rows_are s r k = simp (k)

pub cast_judged : (s : State) (m : Result Place Answer) → Through (cast_rows s) (picked s) m → (r : List ℕ) → kind_of r ≡ cast_now → m ≡ judged s r
cast_judged s m way r k = through way ∙ sym (cast_rows_are s r k)

-- ---- minute

abbrev pub minute_rows : State → List (Bool × Answer)
minute_rows s =
    (leb top_epoch s.local.0, Answer.Epoch)
    ∷ (ltb s.local.0 (clock_of s.clocks s.own.0), Answer.Repeat)
    ∷ []

minute_rows_are : (s : State) (r : List ℕ) → kind_of r ≡ minute_up → judged s r ≡ move_by (minute_rows s) (0)
unfolding judged move_by lowest_of pick place_for picked shaped_rows bad_epoch bad_name unknown bad_order bad_turn repeats nothing full
minute_rows_are s r k = simp (k, add-one)

pub minute_judged : (s : State) (m : Result Place Answer) → Through (minute_rows s) (0) m → (r : List ℕ) → kind_of r ≡ minute_up → m ≡ judged s r
minute_judged s m way r k = through way ∙ sym (minute_rows_are s r k)

-- each kind is one of the six
known_number : (k : Kind) → (leb proposal_heard (kind_number k) && leb (kind_number k) minute_up) ≡ true
known_number Kind.ProposalHeard = refl
known_number Kind.VoteHeard = refl
known_number Kind.ClockHeard = refl
known_number Kind.ProposeNow = refl
known_number Kind.CastNow = refl
known_number Kind.MinuteUp = refl

-- ---- every kind: rows 4 to 6, before the others

abbrev first_rows : State → Fields → List (Bool × Answer) → List (Bool × Answer)
first_rows s f more =
    (not (leb proposal_heard f.kind && leb f.kind minute_up), Answer.Kind)
    ∷ (not f.clean, Answer.Filler)
    ∷ (leb s.n f.sender.0 || pick (leb f.kind clock_heard) (eqb f.sender.0 s.own.0) (not (eqb f.sender.0 s.own.0)), Answer.Sender)
    ∷ more

module _ (s : State) (f : Fields) (r : List ℕ) (fields : f ≡ fields_of r) where
  first_decided : (m : Result Place Answer) → Through (first_rows s f (drop 5 (shaped_rows room s r []))) (place_for s r) m → m ≡ decided s r
  unfolding decided move_by lowest_of shaped_rows known_kind bad_sender heard fields_of
  first_decided m way =
      subst (λ (g : Fields). Through (first_rows s g (drop 5 (shaped_rows room s r []))) (place_for s r) m → m ≡ decided s r) (sym fields) through way

  -- "kind isn't 1 to 6"
  pub no_kind : {a : Answer} → Err a ≡ kind_in f.kind → Err a ≡ decided s r
  unfolding taken known_kind
  no_kind {a} h =
      let k = kind_err f.kind a h in
      ap (λ (x : Answer). Err x) k.0 ∙ first_decided _ (refuses (ap not k.1) refl)

  module _ (k : Kind) (kind : Ok k ≡ kind_in f.kind) where
    known : not (leb proposal_heard f.kind && leb f.kind minute_up) ≡ false
    known = ap (λ (n : ℕ). not (leb proposal_heard n && leb n minute_up)) (sym (kind_ok f.kind k kind)) ∙ ap not (known_number k)

    -- "an unused field or byte 2 or 3 isn't zero"
    pub not_clean : f.clean ≡ false → Err Answer.Filler ≡ decided s r
    unfolding taken
    not_clean h = first_decided _ (passes known (refuses (ap not h) refl))

    module _ (clean : f.clean ≡ true) {b : Bool} (sender : b ≡ (leb s.n f.sender.0 || pick (leb (kind_number k) clock_heard) (eqb f.sender.0 s.own.0) (not (eqb f.sender.0 s.own.0)))) where
      said : (leb s.n f.sender.0 || pick (leb f.kind clock_heard) (eqb f.sender.0 s.own.0) (not (eqb f.sender.0 s.own.0))) ≡ b
      said = ap (λ (n : ℕ). leb s.n f.sender.0 || pick (leb n clock_heard) (eqb f.sender.0 s.own.0) (not (eqb f.sender.0 s.own.0))) (sym (kind_ok f.kind k kind)) ∙ sym sender

      pub not_sender : b ≡ true → Err Answer.Sender ≡ decided s r
      unfolding taken
      not_sender h = first_decided _ (passes known (passes (ap not clean) (refuses (said ∙ h) refl)))

      -- the rows of the kind
      pub by_judge : b ≡ false → {m : Result Place Answer} → m ≡ judged s r → m ≡ decided s r
      unfolding judged
      by_judge h e = first_decided _ (passes known (passes (ap not clean) (passes (said ∙ h) (rests e))))

-- the number of a kind that is told apart
pub kind_is : {n : ℕ} {k : Kind} (j : Kind) → Ok k ≡ kind_in n → k ≡ j → n ≡ kind_number j
kind_is {n} {k} j h e = sym (kind_ok n k h) ∙ ap kind_number e

pub kind_read : {f : Fields} (r : List ℕ) {n : ℕ} → f ≡ fields_of r → f.kind ≡ n → kind_of r ≡ n
unfolding fields_of
kind_read r e h = sym (ap (λ (x : Fields). x.kind) e) ∙ h

pub kind_was : {n : ℕ} {x : Result Kind Answer} (j : Kind) → x ≡ Ok j → x ≡ kind_in n → n ≡ kind_number j
kind_was {n} j h e = sym (kind_ok n j (sym h ∙ e))
