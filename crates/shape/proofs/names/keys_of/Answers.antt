-- The keys of the rows' names. Assumes nothing.
use Rattle.std.proofs.Common.{arith, ℕ, zero, suc, ◌+◌, ◌<◌, ◌∙◌, ap, subst, sym, rules, ◌≡◌, List, [], map, get_or}
use Rattle.std.specs.Array.{IsFromFnResult, IsFromFnResultFrom}
use Rattle.std.specs.Fn.{Called}
use denote.Param.Members.{Mut}
use Rattle.shape.specs.Parts.{key}
use Rattle.table.specs.declared.Block.{Block}
use lib.ListN.{get_or-map, length-map}
use lib.Seq.{ext_get_or}
use Rattle.shape.proofs.names.keys_of.Goals as goal

-- a closure that stays as it is gives h of each index
made : {F B : Type 0} {g : Mut F (ℕ × Unit {0}) B} (f : F) (h : ℕ → B) (ys : List B) (d : B) (i n : ℕ) → IsFromFnResultFrom g f ys i n
    → ((x : ℕ) (y : B) (q : F) → Called g f (x, tt) y q → (q ≡ f) × (y ≡ h x)) → (j k : ℕ) → i + j ≡ k → j < n → get_or ys k d ≡ h k
made f h ys d i zero r calls j k e l = absurd (omega arith)
made f h ys d i (suc n) r calls zero k e l =
    let here : k ≡ i = omega arith in
    ap (λ (x : ℕ). get_or ys x d) here ∙ r.2.1 d ∙ (calls i _ _ r.3).1 ∙ ap h (sym here)
made {g = g} f h ys d i (suc n) r calls (suc j) k e l =
    made f h ys d (i + 1) n (subst (λ x. IsFromFnResultFrom g x ys (i + 1) n) (calls i _ _ r.3).0 r.4) calls j k (omega arith) (omega arith)

made_all : {F B : Type 0} {g : Mut F (ℕ × Unit {0}) B} {f : F} {ys : List B} {n : ℕ} (h : ℕ → B) (d : B) → IsFromFnResult g f ys n
    → ((x : ℕ) (y : B) (q : F) → Called g f (x, tt) y q → (q ≡ f) × (y ≡ h x)) → (k : ℕ) → k < n → get_or ys k d ≡ h k
made_all h d r calls k l = made _ h _ d 0 _ r.each calls k k (omega arith) l

pub returns : goal.returns
unfolding key
returns c =
    let blocks = c.args.blocks.now in
    let items = c.from_fn.ensures.items in
    let none : Block = record { name = []; payload = []; voters = []; epoch = record { 0 = 0 }; parent = record { 0 = 0 } } in
    ext_get_or 0 c.from_fn.result (map (λ (b : Block). key b.name) blocks) (items.long ∙ sym c.told-blocks ∙ sym (length-map blocks (λ b. key b.name)))
    (λ i l. made_all (λ p. key (get_or blocks p none).name) 0 items (λ x y q k. search rules) i (omega (arith, items.long)) ∙ sym (get_or-map (λ b. key b.name) blocks i none))
