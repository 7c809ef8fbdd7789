-- What a run answers: "3 .. 15 .. lowest first", or the final list of the last state. Assumes nothing.
use Rattle.std.proofs.lemmas.Bool.{or_from}
use Prim.Native.Nat.{ℕ, ◌+◌, ◌*◌, ◌%◌, ◌≤◌, ◌<◌}
use mathlib.Core.Bool.{Bool, true, false, not, ◌||◌, or-true}
use mathlib.Core.List.{List}
use mathlib.Core.Path.{◌≡◌, refl, sym, ap, ◌∙◌}
use native.Mathlib.Omega.{arith}
use borrow.Author.Tests.{lt-ltb, le-ltb, eq-eqb, ne_eqb, eqb-true}
use lib.Dec.{eqb, ltb}
use lib.ListN.{length}
use Rattle.std.specs.Prelude.{Result, Ok, Err}
use Rattle.table.specs.declared.Answer.{Answer}
use Rattle.table.specs.declared.State.{State}
use Rattle.table.specs.Rows.{name_bytes}
use Rattle.table.specs.Scan.{pick}
use Rattle.table.proofs.Laws.{pick_yes, pick_no}
use Rattle.pala.specs.Answers.{number, taken, answered, lowest_of}
use Rattle.pala.specs.Counts.{nodes}
use Rattle.pala.specs.Lists.{list_answer, final_list, final_names}
use Rattle.pala.specs.Record.{record_bytes}
use Rattle.pala.specs.Run.{Ran, run, ran, run_answer, run_code, full_list, played, stretches}
use Rattle.pala.specs.Shape.{well_shaped}
use Rattle.pala.specs.Step.{start}
use Rattle.pala.proofs.Playing.{names_few}
use Rattle.pala.proofs.Rows.{answered_refused}

-- "15": a start is taken where the numbers are a node's
pub start_told : (n own : ℕ) → taken (start n own).answer ≡ nodes n own
unfolding start taken number pick
start_told n own = go (nodes n own)
  where
    go : (b : Bool) → taken (pick b Answer.Taken Answer.Setup) ≡ b
    go true = refl
    go false = refl

module _ (n own : ℕ) (records list : List ℕ) where
  wrong : Bool
  wrong = not (eqb (length records % record_bytes) 0) || ltb (length list) full_list

  -- what a run hands back
  abbrev pub Told : Result ℕ Answer → List ℕ → Type 0
  Told r l = (r ≡ answered (run_answer n own records list) (final_list (played (start n own).state (stretches records)) list).count) × (l ≡ (run n own records list).list)

  refused : (a : Answer) → taken a ≡ false → run_answer n own records list ≡ a → Told (Err a) list
  unfolding run ran
  refused a t e =
      let held : ℕ = (final_list (played (start n own).state (stretches records)) list).count in (
        sym (ap (λ (x : Answer). answered x held) e ∙ answered_refused a held t),
        sym (pick_no (taken (run_answer n own records list)) _ list (ap taken e ∙ t)),
      )

  -- "3: slice not a multiple of 96, or list buffer under 2,048 bytes"
  too_short : wrong ≡ true → Told (Err Answer.Length) list
  unfolding run_answer lowest_of wrong taken number
  too_short h = refused Answer.Length refl (pick_yes _ Answer.Length _ h)

  pub run-broken : (length records % record_bytes ≡ 0 → ⊥) → Told (Err Answer.Length) list
  unfolding wrong
  run-broken h = too_short (ap (λ (x : Bool). not x || ltb (length list) full_list) (ne_eqb (length records % record_bytes) 0 h))

  pub run_small : length list < full_list → Told (Err Answer.Length) list
  unfolding wrong
  run_small h =
      too_short
      (ap (λ (x : Bool). not (eqb (length records % record_bytes) 0) || x) (lt-ltb (length list) full_list h)
      ∙ or-true (not (eqb (length records % record_bytes) 0)))

  module _ (whole : length records % record_bytes ≡ 0) (big : full_list ≤ length list) where
    right : wrong ≡ false
    unfolding wrong
    right =
        or_from (not (eqb (length records % record_bytes) 0)) (ltb (length list) full_list) (ap not (eq-eqb (length records % record_bytes) 0 whole))
        (le-ltb (length list) full_list big)

    -- "15 as above"
    pub run_setup : {a : Answer} → a ≡ (start n own).answer → taken a ≡ false → Told (Err a) list
    unfolding run_answer lowest_of wrong start
    run_setup {a} e t =
        let off : nodes n own ≡ false = sym (start_told n own) ∙ ap taken (sym e) ∙ t in
        let setup : a ≡ Answer.Setup = e ∙ pick_no (nodes n own) Answer.Taken Answer.Setup off in
        refused a t (pick_no wrong Answer.Length _ right ∙ pick_yes (not (nodes n own)) Answer.Setup _ (ap not off) ∙ sym setup)

    -- the list that is written is the final list after the records were played; there is room for every name
    module _ (starts : nodes n own ≡ true) {s : State} (shaped : well_shaped s ≡ true) (last : s ≡ played (start n own).state (stretches records)) where
      takes : run_answer n own records list ≡ Answer.Taken
      unfolding run_answer lowest_of wrong
      takes = pick_no wrong Answer.Length _ right ∙ pick_no (not (nodes n own)) Answer.Setup _ (ap not starts)

      listed : list_answer s list ≡ Answer.Taken
      unfolding list_answer lowest_of
      listed =
          pick_no (not (well_shaped s)) Answer.State _ (ap not shaped)
          ∙ pick_no (ltb (length list) (name_bytes * length (final_names s))) Answer.Length _
          (le-ltb (length list) (name_bytes * length (final_names s)) (omega (arith, names_few s shaped, big)))

      pub run-taken :
          {r : Result ℕ Answer} {l : List ℕ} → r ≡ answered (final_list s list).answer (final_list s list).count → l ≡ (final_list s list).list → Told r l
      unfolding run ran final_list taken number
      run-taken p q = (
        p
            ∙ ap (λ (a : Answer). answered a (final_list s list).count) (listed ∙ sym takes)
            ∙ ap (λ (t : State). answered (run_answer n own records list) (final_list t list).count) last,
        q
            ∙ ap (λ (t : State). (final_list t list).list) last
            ∙ sym (pick_yes (taken (run_answer n own records list)) _ list (ap taken takes)),
      )

  -- both are the run's
  pub run_by :
      {code : ℕ} {after : List ℕ}
      → code ≡ run_code (run_answer n own records list) (pick (taken (run_answer n own records list)) (final_list (played (start n own).state (stretches records)) list).count 0)
      → after ≡ (run n own records list).list → ◌≡◌ {A = Ran} (record { code = code; list = after }) (run n own records list)
  unfolding run ran
  run_by p q = λ i. record { code = p i; list = q i }

-- "The answer is refusal x 65,536 + count of final names."
code_of : Result ℕ Answer → ℕ
code_of (Ok count) = count
code_of (Err refusal) = 65536 * number refusal

coded : (a : Answer) (held : ℕ) → code_of (answered a held) ≡ run_code a (pick (taken a) held 0)
unfolding answered run_code code_of taken pick
coded a held = go (taken a) refl
  where
    go : (b : Bool) → taken a ≡ b → code_of (pick b (Ok held) (Err a)) ≡ number a * 65536 + pick b held 0
    go true h = omega (arith, eqb-true (number a) 0 h)
    go false h = omega arith

pub coded-taken : (a : Answer) (held : ℕ) {count : ℕ} → Ok count ≡ answered a held → count ≡ run_code a (pick (taken a) held 0)
unfolding code_of
coded-taken a held e = ap code_of e ∙ coded a held

pub coded_refused : (a : Answer) (held : ℕ) {refusal : Answer} → Err refusal ≡ answered a held → 65536 * number refusal ≡ run_code a (pick (taken a) held 0)
unfolding code_of
coded_refused a held e = ap code_of e ∙ coded a held
