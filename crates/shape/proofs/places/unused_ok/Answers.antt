-- The places that hold no block are all zero: the genesis's, and those above the number of blocks. Assumes nothing.
use Rattle.std.proofs.Common.{arith, drop, length, rules, sym, inl, refl, ap, ◌≡◌, ◌∙◌, ◌+◌, ◌-◌, suc, take, length-drop}
use Rattle.std.proofs.lemmas.Iterator.{YieldsList-from_slice}
use Rattle.std.proofs.lemmas.Iterator.Search.{all_from_yields_List}
use borrow.Author.Tests.{tests}
use lib.Seq.{take_all}
use Rattle.std.specs.List.{list_all}
use Rattle.pala.specs.Shape.{is_blank}
use Rattle.shape.proofs.Laws.{unused_fails, unused_rest}
use Rattle.table.proofs.Laws.{get_d_any}
use Rattle.table.specs.Rows.{blank, capacity}
use Rattle.shape.proofs.places.unused_ok.Goals as goal

pub returns-then-blank_row : goal.returns-then-blank_row
returns-then-blank_row c =
    let s = c.args.s.now in
    let held : length s.blocks ≡ suc capacity = search rules in
    let rest = drop (s.count + 1) s.blocks in
    let all : c.all.result ≡ list_all is_blank (take (suc capacity - (s.count + 1)) rest) = all_from_yields_List is_blank _ _ _ c.all.ensures.ran (YieldsList-from_slice _ cc) (λ x b q k. search (rules, tests)) in
    all
    ∙ ap (list_all is_blank) (take_all _ rest (omega (arith, length-drop (s.count + 1) s.blocks)))
    ∙ unused_rest s held (ap is_blank (get_d_any s.blocks 0 blank _ (omega arith)) ∙ sym c.blank_row.ensures ∙ c.if-blank_row.true)

pub returns-else-blank_row : goal.returns-else-blank_row
returns-else-blank_row c =
    let s = c.args.s.now in
    let held : length s.blocks ≡ suc capacity = search rules in
    c.if-blank_row.false
    ∙ sym (unused_fails s 0 (inl refl) (omega arith) (ap is_blank (get_d_any s.blocks 0 blank _ (omega arith)) ∙ sym c.blank_row.ensures ∙ c.if-blank_row.false))
