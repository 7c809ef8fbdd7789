-- 22 keeps one name for one block among the honest tables, so the last hall's tables are a book for the whole run. Assumes nothing.
use Prim.Native.Nat.{ℕ, ◌<◌}
use mathlib.Core.Bool.{Bool, true, false, not, ◌&&◌, ◌||◌}
use mathlib.Core.List.{List}
use mathlib.Core.Logic.{inl, inr}
use mathlib.Core.Path.{◌≡◌, refl, ap, ◌∙◌}
use lib.Dec.{eqb, ltb}
use borrow.Author.Tests.{eqb-true, ltb-true, lt-ltb, not-false}
use Rattle.table.specs.declared.Block.{Block}
use Rattle.table.specs.declared.State.{State}
use Rattle.table.specs.Scan.{lowest}
use Rattle.table.specs.Bytes.{same}
use Rattle.table.specs.Rows.{size, at}
use Rattle.table.proofs.Laws.{lowest_hit, same_refl, same_true}
use Rattle.pala.specs.Record.{name_of, is, proposal_heard, propose_now}
use Rattle.pala.specs.Safety.{Honest, Book}
use Rattle.pala.proofs.Tests.{and_l, and_r, and_both, nand, or_l, or_r}
use Rattle.accord.specs.declared.Hall.{Hall}
use Rattle.accord.specs.Head.{most_gateways, honest_in}
use Rattle.accord.specs.Rulings.{table_of, named, Content, alike, content_at, content_of, otherwise, clash}
use Rattle.accord.proofs.Scans.{any_none, lowest_within}
use Rattle.accord.proofs.Blocks.{Entry, Stands, entry, Adds, stands_one}

-- ---- 22 not given

alike_entry : (c d : Content) → alike c d ≡ true → entry c ≡ entry d
unfolding alike
alike_entry c d h =
    let a : eqb c.epoch d.epoch ≡ true = search (and_l, and_r) in
    let b : same c.parent d.parent ≡ true = search (and_l, and_r) in
    let e : c.epoch ≡ d.epoch = eqb-true c.epoch d.epoch a in
    let f : c.parent ≡ d.parent = same_true c.parent d.parent b in
    λ i. record { epoch = e i; parent = f i }

-- a block that stands at a place is named there, and what is named there stands there
module _ {t : List Block} {x : List ℕ} where
  pub named_stands : (p : ℕ) → p < size t → named t x p ≡ true → Stands t p x (entry (content_at t p))
  unfolding named content_at
  named_stands p l h =
      record {
        held = (ltb-true 0 p (and_l (ltb 0 p) (same (at t p).name x) h), l);
        named = same_true (at t p).name x (and_r (ltb 0 p) (same (at t p).name x) h);
        epoch = refl;
        parent = refl;
      }

  stands_named : {p : ℕ} {c : Entry} → Stands t p x c → named t x p ≡ true
  unfolding named
  stands_named {p} v =
      and_both (ltb 0 p) (same (at t p).name x) (lt-ltb 0 p v.held.0) (ap (λ y. same y x) v.named ∙ same_refl x)

-- every honest table that has the record's name has it as the record has it
pub clash_none : (h : Hall) (s : State) (r : List ℕ) → clash h s r ≡ false → Adds r → (i : ℕ) → i < most_gateways → honest_in h i ≡ true
    → (p : ℕ) (c : Entry) → Stands (table_of h i) p (name_of r) c → c ≡ entry (content_of s r)
unfolding clash otherwise
clash_none h s r e adds i l hi p c v =
    (stands_one v (named_stands p v.held.1 (stands_named v))).1 ∙ alike_entry (content_at t p) (content_of s r) like
  where
    t : List Block
    t = table_of h i

    kinds : Adds r → (is proposal_heard r || is propose_now r) ≡ true
    kinds (inl k) = or_l (is proposal_heard r) (is propose_now r) k
    kinds (inr k) = or_r (is proposal_heard r) (is propose_now r) k

    none_here : otherwise t (name_of r) (content_of s r) ≡ false
    none_here =
        nand (honest_in h i) (otherwise t (name_of r) (content_of s r))
        (any_none most_gateways (λ j. honest_in h j && otherwise (table_of h j) (name_of r) (content_of s r))
        (nand (is proposal_heard r || is propose_now r) _ e (kinds adds)) i l)
        hi

    like : alike (content_at t p) (content_of s r) ≡ true
    like =
        not-false (alike (content_at t p) (content_of s r))
        (nand (named t (name_of r) p) (not (alike (content_at t p) (content_of s r)))
        (any_none (size t) (λ q. named t (name_of r) q && not (alike (content_at t q) (content_of s r))) none_here p v.held.1)
        (stands_named v))

-- ---- a book of some tables

-- the place of a name in a table, past the end where it has none; the first honest number that has it
abbrev place_in : List Block → List ℕ → ℕ
place_in t x = lowest (size t) (named t x)

abbrev seat_of : ℕ → (ℕ → Bool) → (ℕ → List Block) → List ℕ → ℕ
seat_of n honest tables x = lowest n (λ i. honest i && ltb (place_in (tables i) x) (size (tables i)))

unfoldable pub book_of : ℕ → (ℕ → Bool) → (ℕ → List Block) → Book
unfolding content_at
book_of n honest tables x =
    let t : List Block = tables (seat_of n honest tables x) in
    entry (content_at t (place_in t x))

-- honest tables agree about a name
abbrev pub OneEntry : ℕ → (ℕ → Bool) → (ℕ → List Block) → Type 0
OneEntry n honest tables =
    (i j p q : ℕ) (x : List ℕ) (c d : Entry) → Honest n honest i → Honest n honest j → Stands (tables i) p x c → Stands (tables j) q x d → c ≡ d

pub book-is : (n : ℕ) (honest : ℕ → Bool) (tables : ℕ → List Block) → OneEntry n honest tables
    → (i p : ℕ) (x : List ℕ) (c : Entry) → Honest n honest i → Stands (tables i) p x c → book_of n honest tables x ≡ c
unfolding book_of
book-is n honest tables one i p x c hi v =
    one j i (place_in (tables j) x) p x _ c (inside, and_l (honest j) (has j) found) hi
    (named_stands (place_in (tables j) x) at_j (lowest_hit (size (tables j)) (named (tables j) x) at_j)) v
  where
    has : ℕ → Bool
    has a = ltb (place_in (tables a) x) (size (tables a))

    j : ℕ
    j = seat_of n honest tables x

    inside : j < n
    inside =
        lowest_within n (λ a. honest a && has a) i hi.0
        (and_both (honest i) (has i) hi.1
        (lt-ltb (place_in (tables i) x) (size (tables i)) (lowest_within (size (tables i)) (named (tables i) x) p v.held.1 (stands_named v))))

    found : (honest j && has j) ≡ true
    found = lowest_hit n (λ a. honest a && has a) inside

    at_j : place_in (tables j) x < size (tables j)
    at_j = ltb-true (place_in (tables j) x) (size (tables j)) (and_r (honest j) (has j) found)
