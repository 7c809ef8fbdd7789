-- What a head opens. Assumes nothing.
use Prim.Native.Nat.{ℕ, zero, suc, ◌+◌, ◌/◌, ◌%◌, ◌^◌, ◌≤◌, ◌<◌}
use mathlib.Core.Bool.{Bool, true, false, not, ◌&&◌, ◌||◌}
use mathlib.Core.List.{List, [], ◌∷◌, map}
use mathlib.Core.Path.{◌≡◌, refl, sym, ap, subst, ◌∙◌}
use native.Mathlib.Decide.{ℕ_discrete}
use native.Mathlib.Omega.{arith}
use borrow.Author.Tests.{le-leb}
use lib.Dec.{eqb, ltb, leb}
use lib.ListN.{length, get_or}
use lib.Seq.{ext_get_or}
use denote.Param.Members.{Mut}
use Rattle.std.proofs.Common.{Option, Some, None}
use Rattle.std.specs.Array.{IsFromFnResult, IsFromFnResultFrom}
use Rattle.std.specs.Fn.{Called}
use Rattle.table.specs.declared.Answer.{Answer}
use Rattle.table.specs.declared.State.{State}
use Rattle.table.specs.Scan.{all_below, pick}
use Rattle.table.proofs.Laws.{pick_yes, pick_no, fails, not_both, all_below_all, all_below_same}
use Rattle.pala.specs.Shape.{well_shaped}
use Rattle.pala.specs.Step.{start}
use Rattle.pala.proofs.Calls.{start-shaped, start-sized}
use Rattle.pala.proofs.Shapes
use Rattle.accord.specs.declared.Hall.{Hall}
use Rattle.accord.specs.Head.{Opened, most_gateways, gateways, nodes_of, in_set, good_head, fresh_hall, no_hall, opened, gateway, honest_in, hall_shaped}
use Rattle.accord.specs.Text.{hall_played}
use Rattle.accord.proofs.Halls.{for_each, good_head_lem, fresh-gateway, fresh_honest}
use Rattle.hall.proofs.Named.{pick_none, pick_some}
use Rattle.hall.proofs.Seated.{low_test, hall_sound, hall-kept, kept-played, kept-shaped}

-- ---- something for each of the eight numbers

-- what `from_fn` makes of a closure that no call changes
module _ {F A : Type 0} (g : Mut F (ℕ × Unit {0}) A) (f : F) (h : ℕ → A) (told : (i : ℕ) (x : A) (q : F) → Called g f (i, tt) x q → (q ≡ f) × (x ≡ h i)) (xs : List A) (d : A) where
  made_from : (n i : ℕ) → IsFromFnResultFrom g f xs i n → (j : ℕ) → i ≤ j → j < i + n → get_or xs j d ≡ h j
  made_from zero i r j l m = absurd (omega arith)
  made_from (suc n) i (q, x, e, k, rest) j l m =
      let (same, here) = told i x q k in
      elim (ℕ_discrete j i) [
        | yes z ↦ ap (λ (t : ℕ). get_or xs t d) z ∙ e.1 d ∙ here ∙ ap h (sym z)
        | no z ↦ made_from n (i + 1) (subst (λ p. IsFromFnResultFrom g p xs (i + 1) n) same rest) j (omega arith) (omega arith)
      ]

  pub made_eight : IsFromFnResult g f xs most_gateways → xs ≡ map h gateways
  made_eight r = ext_get_or d xs (map h gateways) r.long (λ i l. made_from most_gateways 0 r.each i (omega arith) (omega (arith, r.long)) ∙ sym (for_each h d i (omega (arith, r.long))))

-- ---- a good head

-- no honest number at or above n
abbrev pub bits_test : List ℕ → Bool
bits_test bytes = all_below most_gateways (λ i. ltb i (nodes_of bytes) || not (in_set bytes i))

head_cut : (bytes : List ℕ) → length bytes < 2 → good_head bytes ≡ false
unfolding good_head
head_cut [] l = refl
head_cut (n ∷ []) l = refl
head_cut (n ∷ set ∷ more) l = absurd (omega arith)

head_tests : (bytes : List ℕ) → 2 ≤ length bytes → good_head bytes ≡ (leb 1 (nodes_of bytes) && leb (nodes_of bytes) most_gateways && bits_test bytes)
unfolding good_head
head_tests [] l = absurd (omega arith)
head_tests (n ∷ []) l = absurd (omega arith)
head_tests (n ∷ set ∷ more) l = refl

good_bits : (bytes : List ℕ) → good_head bytes ≡ true → bits_test bytes ≡ true
unfolding good_head
good_bits [] h = absurd (not_both h refl)
good_bits (n ∷ []) h = absurd (not_both h refl)
good_bits (n ∷ set ∷ more) h = Shapes.and_r (leb 1 n && leb n most_gateways) (bits_test (n ∷ set ∷ more)) h

-- ---- what it opens

-- the hall of a good head
abbrev pub Opens : List ℕ → Option Hall → Type 0
Opens bytes o = o ≡ pick (good_head bytes) (Some (fresh_hall bytes)) None

module _ (bytes : List ℕ) where
  refuses : good_head bytes ≡ false → Opens bytes None
  refuses f = sym (pick_no (good_head bytes) _ None f)

  -- "cut short"
  pub opens-cut : length bytes < 2 → Opens bytes None
  opens-cut l = refuses (head_cut bytes l)

  -- "with another n"
  pub opens_none : nodes_of bytes < 1 → Opens bytes None
  opens_none few = refuses (fails (good_head bytes) (λ e. absurd (omega (arith, (good_head_lem bytes e).some))))

  pub opens-many : most_gateways < nodes_of bytes → Opens bytes None
  opens-many many = refuses (fails (good_head bytes) (λ e. absurd (omega (arith, (good_head_lem bytes e).most))))

  -- "with a bit at or above n"
  pub opens_bits : bits_test bytes ≡ false → Opens bytes None
  opens_bits f = refuses (fails (good_head bytes) (λ e. not_both (good_bits bytes e) f))

  -- a good one
  pub opens-fresh : 2 ≤ length bytes → 1 ≤ nodes_of bytes → nodes_of bytes ≤ most_gateways → bits_test bytes ≡ true → Opens bytes (Some (fresh_hall bytes))
  opens-fresh l some most bits =
      let a = le-leb 1 (nodes_of bytes) some in
      let b = le-leb (nodes_of bytes) most_gateways most in
      let good : good_head bytes ≡ true = head_tests bytes l ∙ search Shapes.and_both in
      sym (pick_yes (good_head bytes) (Some (fresh_hall bytes)) None good)

  -- what is handed back of it: "15 .. and nothing is played"
  pub opened_some : {h : Hall} → Opens bytes (Some h) → ◌≡◌ {A = Opened} (record { answer = Answer.Taken; hall = h }) (opened bytes)
  unfolding opened
  opened_some e =
      let (y, q) = pick_some (good_head bytes) (fresh_hall bytes) e in
      λ i. record { answer = sym (pick_yes (good_head bytes) Answer.Taken Answer.Setup y) i; hall = (q ∙ sym (pick_yes (good_head bytes) (fresh_hall bytes) no_hall y)) i }

  pub opened_none : {h : Hall} → h ≡ no_hall → Opens bytes None → ◌≡◌ {A = Opened} (record { answer = Answer.Setup; hall = h }) (opened bytes)
  unfolding opened
  opened_none q e =
      let n = pick_none (good_head bytes) (fresh_hall bytes) e in
      λ i. record { answer = sym (pick_no (good_head bytes) Answer.Taken Answer.Setup n) i; hall = (q ∙ sym (pick_no (good_head bytes) (fresh_hall bytes) no_hall n)) i }

-- ---- the hall that it opens

module _ (bytes : List ℕ) where
  -- what is asked of its set is what was asked of the head's
  bits_honest : low_test (fresh_hall bytes) ≡ bits_test bytes
  unfolding fresh_hall
  bits_honest =
      all_below_same most_gateways (λ i. ltb i (nodes_of bytes) || not (honest_in (fresh_hall bytes) i)) (λ i. ltb i (nodes_of bytes) || not (in_set bytes i))
      (λ i l. ap (λ t. ltb i (nodes_of bytes) || not t) (fresh_honest bytes i l))

  -- n and the set as code reads them
  module _ (n : ℕ) (honest : List Bool) (number : n ≡ nodes_of bytes) (set : honest ≡ map (λ i. eqb (get_or bytes 1 0 / 2 ^ i % 2) 1) gateways) where
    pub bits_read : all_below most_gateways (λ i. ltb i n || not (get_or honest i false)) ≡ bits_test bytes
    unfolding fresh_hall honest_in in_set
    bits_read = (λ x. all_below most_gateways (λ i. ltb i (number x) || not (get_or (set x) i false))) ∙ bits_honest

    pub hall_read : record { states = map (λ i. (start n i).state) gateways; honest = honest; n = n } ≡ fresh_hall bytes
    unfolding fresh_hall in_set
    hall_read = λ x. record { states = map (λ i. (start (number x) i).state) gateways; honest = set x; n = number x }

  pub opened-shaped : good_head bytes ≡ true → hall_shaped (fresh_hall bytes) ≡ true
  unfolding fresh_hall
  opened-shaped good =
      let w = good_head_lem bytes good in
      let n : ℕ = nodes_of bytes in
      hall_sound (fresh_hall bytes) w.some w.most (bits_honest ∙ good_bits bytes good)
      ∙ all_below_all n (λ i. well_shaped (gateway (fresh_hall bytes) i))
      (λ i l.
      let nodes = Shapes.nodes_of_lem n i (w.some, omega (arith, w.most), l) in
      ap well_shaped (fresh-gateway bytes i (omega (arith, w.most))) ∙ start-shaped n i nodes)

-- a recording with a good head is never refused midway: after any records its hall is well shaped
pub played-shaped : (bytes : List ℕ) → good_head bytes ≡ true → (xs : List (List ℕ)) → hall_shaped (hall_played (fresh_hall bytes) xs) ≡ true
unfolding fresh_hall
played-shaped bytes good xs =
    let w = good_head_lem bytes good in
    kept-shaped
    (kept-played
    (hall-kept (fresh_hall bytes) refl refl
    (λ i l. ap (λ (s : State). length s.blocks) (fresh-gateway bytes i (omega (arith, w.most))) ∙ (start-sized (nodes_of bytes) i).blocks)
    (opened-shaped bytes good))
    xs)

-- a refused head opens none that is well shaped
pub no_hall_unshaped : hall_shaped no_hall ≡ false
unfolding hall_shaped no_hall
no_hall_unshaped = refl
