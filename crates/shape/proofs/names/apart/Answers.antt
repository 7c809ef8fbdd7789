-- No row below p has its name: those passed over have not its key, and of the others the keys differ or the names. Assumes nothing.
use Rattle.std.proofs.Common.{arith, ◌-◌, ◌≤◌, ℕ, Bool, not, ◌||◌, eqb, ◌∙◌, ◌≡◌, [], get_or, rules, refl, sym, ap, length, suc, List, map}
use Rattle.std.specs.List.{list_all, list_any, range_with_len}
use Rattle.std.proofs.lemmas.Iterator.{YieldsList-from_range}
use Rattle.std.proofs.lemmas.Iterator.Search.{all_from_yields_List}
use Rattle.std.proofs.lemmas.List.{length-take-le, take-take}
use borrow.Author.Tests.{tests}
use Rattle.shape.proofs.Laws.{apart-asked}
use Rattle.shape.specs.Parts.{key}
use Rattle.table.specs.Bytes.{same}
use Rattle.table.specs.Rows.{capacity}
use Rattle.table.specs.declared.Block.{Block}
use Rattle.table.specs.declared.State.{State}
use lib.ListN.{length-map}
use Rattle.shape.proofs.names.apart.Goals as goal

held : (s : State) (keys : List ℕ) → keys ≡ map (λ b. key b.name) s.blocks → length keys ≡ suc capacity → length s.blocks ≡ suc capacity
held s keys column e = sym (length-map s.blocks (λ b. key b.name)) ∙ sym (ap length column) ∙ e

pub returns : goal.returns
returns c =
    let a = c.args in
    let k = c.passed-from.result in
    let blocks = a.s.now.blocks in
    let e = held a.s.now a.keys.now c.requires.2 c.told-keys in
    let none : Block = record { name = []; payload = []; voters = []; epoch = record { 0 = 0 }; parent = record { 0 = 0 } } in
    let test : ℕ → Bool = λ q. not (eqb (get_or a.keys.now q 0) (get_or a.keys.now a.p 0)) || not (same (get_or blocks q none).name (get_or blocks a.p none).name) in
    let all : c.all.result ≡ list_all test (range_with_len k (a.p - k)) = all_from_yields_List test _ _ _ c.all.ensures.ran (YieldsList-from_range k a.p _ refl refl) (λ x b q k. search (rules, tests)) in
    let within : k ≤ a.p = omega (arith, c.passed-from.ensures.within, length-take-le a.p a.keys.now (omega arith)) in
    let passed = ap (list_any (λ x. eqb x (get_or a.keys.now a.p 0))) (sym (take-take k a.p a.keys.now within)) ∙ c.passed-from.ensures.none in
    all ∙ apart-asked a.s.now a.keys.now c.requires.2 a.p c.requires.0 (omega arith) none k within passed
