-- The final lists of the honest gateways, and whether of any two one begins the other. Assumes nothing.
use Rattle.pala.proofs.Playing.{names_few}
use Prim.Native.Nat.{ℕ, ◌+◌, ◌*◌, ◌≤◌, ◌<◌}
use mathlib.Core.Bool.{Bool, true, false, not, ◌&&◌, ◌||◌}
use mathlib.Core.List.{List, [], ◌++◌}
use mathlib.Core.Logic.{◌⊎◌, inl, inr}
use mathlib.Core.Path.{◌≡◌, refl, sym, ap, ap₂, ◌∙◌}
use native.Mathlib.Decide.{dec_le, ℕ_discrete}
use native.Mathlib.Omega.{arith}
use borrow.Author.Count.{below_more}
use borrow.Author.Tests.{le-ltb, not-true}
use lib.Dec.{ltb}
use lib.ListN.{length, take, drop, length-append, length-drop, length-take}
use lib.Seq.{length-take-le, take-take, take_all}
use Rattle.std.proofs.Common.{Result, Ok}
use Rattle.std.proofs.lemmas.List.{take_at}
use Rattle.table.specs.declared.Answer.{Answer}
use Rattle.table.specs.declared.State.{State}
use Rattle.table.specs.Rows.{capacity, name_bytes}
use Rattle.table.specs.Bytes.{same}
use Rattle.table.specs.Scan.{all_below, pick}
use Rattle.table.proofs.Laws.{fails, not_both, pick_no, same_refl, same_true, all_below-at, all_below_all, all_below_same}
use Rattle.pala.specs.Lists.{final_list, list_answer, listed, final_names, joined}
use Rattle.pala.specs.Answers.{answered, lowest_of, number, taken}
use Rattle.pala.specs.Shape.{well_shaped}
use Rattle.pala.proofs.Tests.{and_both, and_l, and_r, or_cases, or_l, or_r, either}
use Rattle.accord.specs.declared.Hall.{Hall}
use Rattle.accord.specs.Head.{most_gateways, gateway, honest_in}
use Rattle.accord.specs.Rulings.{seated}
use Rattle.accord.specs.Words.{list_of, begins, one_begins, agree}
use Rattle.accord.proofs.Halls.{seated-same, seated_other}

-- ---- a final list written into a room for the longest

-- what reading it into one tells: its count, and its names' bytes
pub record Whole (s : State) (room : List ℕ) (r : Result ℕ Answer) : Type 0 where
  pub count : r ≡ Ok (length (final_names s))
  pub few : length (final_names s) ≤ capacity
  pub names : take (name_bytes * length (final_names s)) room ≡ joined (final_names s)

-- they are 32 bytes each, since the room is as long as before
pub whole_list :
    (s : State) (room later : List ℕ) (r : Result ℕ Answer) → well_shaped s ≡ true → length room ≡ name_bytes * capacity → length later ≡ length room
    → r ≡ answered (final_list s room).answer (final_list s room).count → later ≡ (final_list s room).list → Whole s later r
unfolding final_list listed list_answer lowest_of answered taken number pick
whole_list s room later r shaped long same e f =
    let names : List ℕ = joined (final_names s) in
    let size : ℕ = name_bytes * length (final_names s) in
    let few = names_few s shaped in
    let answer : list_answer s room ≡ Answer.Taken =
    pick_no (not (well_shaped s)) Answer.State _ (ap not shaped)
    ∙ pick_no (ltb (length room) size) Answer.Length Answer.Taken (le-ltb _ _ (omega arith)) in
    let there : later ≡ names ++ drop size room = f ∙ ap (λ (a : Answer). (listed a s room).list) answer in
    let whole : length names ≡ size = omega (arith, ap length there, length-append names (drop size room), length-drop size room) in
    record {
      count = e ∙ ap (λ (a : Answer). answered a (listed a s room).count) answer;
      few = few;
      names = ap (take size) there ∙ take_at names (drop size room) size whole;
    }

-- ---- tests that are the same of each number

-- ---- one begins the other

-- the first is as long at most, and the second begins with it
begins_is : (a b : List ℕ) → begins a b ≡ true → (a ≡ take (length a) b) × (length a ≤ length b)
unfolding begins
begins_is a b h =
    let e = same_true a (take (length a) b) h in
    (e, omega (arith, ap length e, length-take (length a) b))

begins_of : (a b : List ℕ) (n : ℕ) → a ≡ take n b → n ≤ length b → begins a b ≡ true
unfolding begins
begins_of a b n e l =
    let long : length a ≡ n = ap length e ∙ length-take-le n b l in
    ap (λ (x : List ℕ). same a x) (ap (λ (k : ℕ). take k b) long ∙ sym e) ∙ same_refl a

-- in either order
one_either : (a b : List ℕ) → one_begins a b ≡ true → one_begins b a ≡ true
unfolding one_begins
one_either a b h = go (or_cases (begins a b) (begins b a) h)
  where
    go : (begins a b ≡ true) ⊎ (begins b a ≡ true) → (begins b a || begins a b) ≡ true
    go (inl e) = or_r (begins b a) (begins a b) e
    go (inr e) = or_l (begins b a) (begins a b) e

-- two that begin a third
both_begin : (a b l : List ℕ) → begins a l ≡ true → begins b l ≡ true → one_begins a b ≡ true
unfolding one_begins
both_begin a b l f g =
    let (e, m) = begins_is a l f in
    let (h, n) = begins_is b l g in
    elim (dec_le (length a) (length b)) [
      | yes k ↦ or_l (begins a b) (begins b a) (begins_of a b (length a) (e ∙ sym (ap (take (length a)) h ∙ take-take (length a) (length b) l k)) k)
      | no k ↦ or_r (begins a b) (begins b a) (begins_of b a (length b) (h ∙ sym (ap (take (length b)) e ∙ take-take (length b) (length a) l (omega arith))) (omega arith))
    ]

-- the shorter of two begins the other, and so does what begins it
shorter_begins : (a b : List ℕ) → one_begins a b ≡ true → length a ≤ length b → begins a b ≡ true
unfolding one_begins
shorter_begins a b h l = go (or_cases (begins a b) (begins b a) h)
  where
    go : (begins a b ≡ true) ⊎ (begins b a ≡ true) → begins a b ≡ true
    go (inl e) = e
    go (inr e) = let (f, m) = begins_is b a e in begins_of a b (length b) (sym (f ∙ take_all (length b) a l) ∙ sym (take_all (length b) b (omega arith))) (omega arith)

begins_on : (a b c : List ℕ) → begins a b ≡ true → begins b c ≡ true → begins a c ≡ true
begins_on a b c f g =
    let (e, l) = begins_is a b f in
    let (h, m) = begins_is b c g in
    begins_of a c (length a) (e ∙ ap (take (length a)) h ∙ take-take (length a) (length b) c l) (omega arith)

begins_refl : (a : List ℕ) → begins a a ≡ true
begins_refl a = begins_of a a (length a) (sym (take_all (length a) a (omega arith))) (omega arith)

none_begins : (a : List ℕ) → begins [] a ≡ true
unfolding begins same
none_begins a = refl

-- ---- one gateway after the other

-- what is read of an honest number's state is its list
pub list_here : (h : Hall) (i : ℕ) {s : State} {names : List ℕ} → s ≡ gateway h i → names ≡ joined (final_names s) → names ≡ list_of h i
unfolding list_of
list_here h i e f = f ∙ ap (λ (x : State). joined (final_names x)) e

-- the longest list of the honest numbers below k: each of theirs begins it
pub record Longest (h : Hall) (k : ℕ) (l : List ℕ) : Type 0 where
  pub each : (i : ℕ) → i < k → honest_in h i ≡ true → begins (list_of h i) l ≡ true
  pub own : (l ≡ []) ⊎ ((j : ℕ) × (j < k) × (honest_in h j ≡ true) × (l ≡ list_of h j))

module _ {h : Hall} {k : ℕ} {l : List ℕ} (w : Longest h k l) where
  still_own : (l ≡ []) ⊎ ((j : ℕ) × (j < k + 1) × (honest_in h j ≡ true) × (l ≡ list_of h j))
  still_own = go w.own
    where
      go : (l ≡ []) ⊎ ((j : ℕ) × (j < k) × (honest_in h j ≡ true) × (l ≡ list_of h j)) → (l ≡ []) ⊎ ((j : ℕ) × (j < k + 1) × (honest_in h j ≡ true) × (l ≡ list_of h j))
      go (inl e) = inl e
      go (inr (j, m, y, e)) = inr (j, omega arith, y, e)

  -- one who isn't honest is passed over
  pub longest_silent : honest_in h k ≡ false → Longest h (k + 1) l
  longest_silent f =
      record { each = below_more (λ i. honest_in h i ≡ true → begins (list_of h i) l ≡ true) k w.each (λ y. absurd (not_both y f)); own = still_own }

  module _ {x : List ℕ} (y : honest_in h k ≡ true) (here : x ≡ list_of h k) where
    -- a longer list is the longest now, ..
    pub longest_new : one_begins x l ≡ true → length l < length x → Longest h (k + 1) x
    longest_new e m =
        let on : begins l x ≡ true = shorter_begins l x (one_either x l e) (omega arith) in
        record {
          each =
              below_more (λ i. honest_in h i ≡ true → begins (list_of h i) x ≡ true) k (λ i n z. begins_on (list_of h i) l x (w.each i n z) on)
              (λ z. ap (λ (a : List ℕ). begins a x) (sym here) ∙ begins_refl x);
          own = inr (k, omega arith, y, here);
        }

    -- .. and another leaves the one before
    pub longest_still : one_begins x l ≡ true → length x ≤ length l → Longest h (k + 1) l
    longest_still e m =
        record {
          each =
              below_more (λ i. honest_in h i ≡ true → begins (list_of h i) l ≡ true) k w.each
              (λ z. ap (λ (a : List ℕ). begins a l) (sym here) ∙ shorter_begins x l e m);
          own = still_own;
        }

    -- a fork
    pub longest-forks : k < most_gateways → one_begins x l ≡ false → false ≡ agree h
    unfolding agree one_begins
    longest-forks m f = sym (fails (agree h) (λ t. go t w.own))
      where
        said : ℕ → ℕ → Bool
        said i j = not (honest_in h i && honest_in h j) || one_begins (list_of h i) (list_of h j)

        apart : (j : ℕ) → honest_in h j ≡ true → l ≡ list_of h j → (not (honest_in h k && honest_in h j) ≡ true) ⊎ (one_begins (list_of h k) (list_of h j) ≡ true) → ⊥
        apart j z e (inl t) = not_both (and_both (honest_in h k) (honest_in h j) y z) (not-true (honest_in h k && honest_in h j) t)
        apart j z e (inr t) = not_both (ap₂ one_begins here e ∙ t) f

        go : agree h ≡ true → (l ≡ []) ⊎ ((j : ℕ) × (j < k) × (honest_in h j ≡ true) × (l ≡ list_of h j)) → ⊥
        go t (inl e) = not_both (or_r (begins x l) (begins l x) (ap (λ (a : List ℕ). begins a x) e ∙ none_begins x)) f
        go t (inr (j, n, z, e)) =
            apart j z e
            (or_cases (not (honest_in h k && honest_in h j)) (one_begins (list_of h k) (list_of h j))
            (all_below-at k (said k) (all_below-at most_gateways (λ i. all_below i (said i)) t k m) j n))

pub longest_all : {h : Hall} {l : List ℕ} → Longest h most_gateways l → true ≡ agree h
unfolding agree
longest_all {h} {l} w =
    sym (all_below_all most_gateways (λ i. all_below i (said i)) (λ i m. all_below_all i (said i) (λ j n. pair i j m (omega arith) (either (honest_in h i && honest_in h j)))))
  where
    said : ℕ → ℕ → Bool
    said i j = not (honest_in h i && honest_in h j) || one_begins (list_of h i) (list_of h j)

    pair : (i j : ℕ) → i < most_gateways → j < most_gateways → ((honest_in h i && honest_in h j) ≡ true) ⊎ ((honest_in h i && honest_in h j) ≡ false) → said i j ≡ true
    pair i j m n (inl e) =
        or_r (not (honest_in h i && honest_in h j)) (one_begins (list_of h i) (list_of h j))
        (both_begin (list_of h i) (list_of h j) l (w.each i m (and_l (honest_in h i) (honest_in h j) e)) (w.each j n (and_r (honest_in h i) (honest_in h j) e)))
    pair i j m n (inr e) = or_l (not (honest_in h i && honest_in h j)) (one_begins (list_of h i) (list_of h j)) (ap not e)

-- ---- the same final names leave yes or no

pub agree_same : (h : Hall) (i : ℕ) (t : State) → i < length h.states → final_names t ≡ final_names (gateway h i) → agree (seated h i t) ≡ agree h
unfolding agree seated honest_in list_of
agree_same h i t l same =
    let said : Hall → ℕ → ℕ → Bool = λ g a b. not (honest_in g a && honest_in g b) || one_begins (list_of g a) (list_of g b) in
    all_below_same most_gateways (λ a. all_below a (said (seated h i t) a)) (λ a. all_below a (said h a))
    (λ a m. all_below_same a (said (seated h i t) a) (said h a) (λ b n. ap₂ (λ x y. not (honest_in h a && honest_in h b) || one_begins x y) (list_same a) (list_same b)))
  where
    list_same : (j : ℕ) → list_of (seated h i t) j ≡ list_of h j
    list_same j =
        elim (ℕ_discrete j i) [
          | yes e ↦ ap (list_of (seated h i t)) e ∙ ap (λ s. joined (final_names s)) (seated-same h i t l) ∙ ap joined same ∙ sym (ap (list_of h) e)
          | no d ↦ ap (λ s. joined (final_names s)) (seated_other h i t j d)
        ]
