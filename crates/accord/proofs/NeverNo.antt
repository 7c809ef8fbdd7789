-- "Prove that with fewer than a third faulty it never says no." Assumes nothing.
use Prim.Native.Nat.{ℕ, suc}
use mathlib.Core.Bool.{Bool, true, false, false≢true}
use mathlib.Core.List.{List, [], ◌∷◌, ◌++◌}
use mathlib.Core.Path.{◌≡◌, refl, ap, subst₂, sym, ◌∙◌}
use native.Mathlib.Omega.{arith}
use lib.ListN.{length, drop}
use Rattle.table.specs.declared.State.{State}
use Rattle.table.proofs.Laws.{pick_yes}
use Rattle.pala.specs.Lists.{joined, final_names}
use Rattle.pala.specs.Run.{cut}
use Rattle.pala.specs.Safety.{Run, Honest, shown_at, Premises, OneBegins}
use Rattle.pala.proofs.Demand.Events.{by_event}
use Rattle.pala.proofs.Demand.Safety.{safe}
use Rattle.accord.specs.declared.Hall.{Hall}
use Rattle.accord.specs.Head.{nodes_of, in_set, good_head, fresh_hall, no_hall, opened}
use Rattle.accord.specs.Rulings.{verdict}
use Rattle.accord.specs.Words.{agree, list_of}
use Rattle.accord.specs.Text.{sent_bytes, receiver_of, record_of, hall_played, hall_line, lines_with, hall_lines, hall_text}
use Rattle.accord.specs.NeverNo.{FewHead, NeverNo}
use Rattle.accord.proofs.Halls.{Head, good_head_lem}
use Rattle.accord.proofs.Played.{hall_next, run_of, hosted, reached_end, honest_of}
use Rattle.accord.proofs.Premises.{last_book, each-taken}
use Rattle.accord.proofs.Agrees.{any_agree}

module _ (bytes : List ℕ) (f : FewHead bytes) (xs : List (List ℕ)) where
  head : Head bytes
  head = good_head_lem bytes f.good

  run : Run
  run = run_of bytes head xs

  h : Hall
  h = hall_played (fresh_hall bytes) xs

  premises : Premises (nodes_of bytes) (in_set bytes) run
  unfolding run
  premises =
      by_event (nodes_of bytes) (in_set bytes) run
      (record {
        some = head.some;
        most = omega (arith, head.most);
        few_faulty = f.few;
        book = last_book bytes head run (hosted bytes head xs);
        each = each-taken bytes head run (hosted bytes head xs);
      })

  -- what the hall shows is what the run shows
  shown-is : (i : ℕ) → Honest (nodes_of bytes) (in_set bytes) i → shown_at (nodes_of bytes) run (length run) i ≡ list_of h i
  unfolding shown_at list_of run h
  shown-is i hi = ap (λ (s : State). joined (final_names s)) (sym ((reached_end bytes head xs).follows i hi.0))

  -- of any two honest final lists, after any records, one begins the other
  pub always_agrees : agree (hall_played (fresh_hall bytes) xs) ≡ true
  unfolding h run
  always_agrees =
      any_agree h
      (λ i j _ _ a b.
      let hi = honest_of bytes head run (reached_end bytes head xs) i a in
      let hj = honest_of bytes head run (reached_end bytes head xs) j b in
      subst₂ OneBegins (shown-is i hi) (shown-is j hj)
      (safe (nodes_of bytes) (in_set bytes) run premises i j (length run) (length run) hi hj))

-- lines whose words are all yes
lines_yes : (word : Hall → Bool) (hall : Hall) → ((xs : List (List ℕ)) → word (hall_played hall xs) ≡ true)
    → (before : ℕ) (xs : List (List ℕ)) → lines_with word hall before xs ≡ lines_with (λ _. true) hall before xs
unfolding lines_with hall_played
lines_yes word hall always before [] = refl
lines_yes word hall always before (x ∷ more) =
    let next : Hall = hall_next hall x in
    let line : Bool → List ℕ = hall_line (suc before) (verdict hall (receiver_of x) (record_of x)) in
    ap (λ b. line b ++ lines_with word next (suc before) more) (always (x ∷ []))
    ∙ ap (λ l. line true ++ l) (lines_yes word next (λ xs. always (x ∷ xs)) (suc before) more)

-- the text of a good head
pub good-text : (bytes : List ℕ) → good_head bytes ≡ true → hall_text bytes ≡ hall_lines (fresh_hall bytes) 0 (cut sent_bytes (drop 2 bytes))
unfolding hall_text opened
good-text bytes e =
    first (good_head bytes) _ _ e
    ∙ ap (λ (z : Hall). hall_lines z 0 (cut sent_bytes (drop 2 bytes))) (pick_yes (good_head bytes) (fresh_hall bytes) no_hall e)
  where
    first : (b : Bool) (x y : List ℕ) → b ≡ true → elim b as (λ _. List ℕ) [ true ↦ x | false ↦ y ] ≡ x
    first true x y e = refl
    first false x y e = absurd (false≢true e)

pub never_no : NeverNo
unfolding hall_lines
never_no bytes f = good-text bytes f.good ∙ lines_yes agree (fresh_hall bytes) (always_agrees bytes f) 0 (cut sent_bytes (drop 2 bytes))
