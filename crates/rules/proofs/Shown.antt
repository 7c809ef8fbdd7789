-- The columns of a state show what the rules read of its table. Assumes nothing.
use Rattle.std.proofs.Common.{ℕ, ◌≡◌, ◌≤◌, suc, max, min, ltb, leb, cond, Bool, false, List, length, get_or, map, Some, None, refl, sym, ap, subst, ◌∙◌, arith}
use Rattle.std.specs.List.{range_with_len}
use Rattle.std.proofs.lemmas.Bool.{lt-ltb, le-ltb}
use Rattle.std.proofs.lemmas.List.FromFn.{get_or-map-range_with_len}
use native.Mathlib.Decide.{dec_lt}
use mathlib.Core.Path.{fun_ext}
use Rattle.table.specs.declared.Block.{Block}
use Rattle.table.specs.declared.State.{State}
use Rattle.table.specs.Scan.{lowest, pick}
use Rattle.table.specs.Rows.{rows, size, at, votes}
use Rattle.table.proofs.Laws.{at_out, at_rows, at-past, size-rows, row_in, row-past}
use Rattle.pala.specs.Counts.{quorum}
use Rattle.pala.specs.Rules.{epoch_at, lower, fall, among, line, parent_of, notarized, firm, normal, votable, freshest, ballot, freshest_normal, candidate, descends, agreed}
use Rattle.pala.specs.Steps.{fresh_epoch, forward}
use Rattle.rules.specs.declared.Standing.{Standing}
use Rattle.rules.specs.declared.columns.Columns.{Columns}
use Rattle.rules.specs.declared.columns.Row.{Row}
use Rattle.rules.specs.declared.scans.Tops.{Tops}
use Rattle.rules.specs.Columns.{places, cell, up_in, epoch_in, mark_in, row_by, columns, firm_by, freshest_by, normal_by, freshest_normal_by, votable_by}
use Rattle.rules.specs.Standing.{chosen, standing_by, top_at, tops_by}

-- ---- the columns of a state

-- where a state stands before the five steps, by 01's rules
unfoldable pub standing : State → Standing
unfolding fresh_epoch agreed candidate forward descends rows
standing s =
    record {
      fresh = record { 0 = fresh_epoch s };
      clock = record { 0 = max s.local.0 (agreed s.n s.clocks) };
      candidate = record { 0 = candidate s.n (rows s) };
      forward = forward s;
      back = descends (rows s) s.kept.0 (candidate s.n (rows s));
    }

-- columns made of f show f at every place, where f is the same past them as at the root
cell_made : (f : ℕ → Row) (n : ℕ) → n ≡ places → ((p : ℕ) → places ≤ p → f p ≡ f 0) → (p : ℕ) → cell (map f (range_with_len 0 n)) p ≡ f p
unfolding cell
cell_made f n e past p =
    let none : Row = record { parent = record { 0 = 0 }; epoch = record { 0 = 0 }; enough = false } in
    elim (dec_lt p places) [
      | yes l ↦
          ap (λ (i : ℕ). get_or (map f (range_with_len 0 n)) i none) (row_in p (omega arith))
          ∙ get_or-map-range_with_len f 0 n p p none (omega arith) (omega arith)
      | no l ↦
          ap (λ (i : ℕ). get_or (map f (range_with_len 0 n)) i none) (row-past p (omega arith))
          ∙ get_or-map-range_with_len f 0 n 0 0 none (omega arith) (omega arith)
          ∙ sym (past p (omega arith))
    ]

module _ (s : State) where
  -- the columns are made of the block at each place below the end, and past it of the root
  pub columns_made : length s.blocks ≡ places → (d : Block) (end : ℕ) (root : Row) (made : List Row)
      → end ≡ min (suc s.count) places → root ≡ row_by s.n (get_or s.blocks 0 d)
      → made ≡ map (λ p. cond (ltb p end) (row_by s.n (get_or s.blocks p d)) root) (range_with_len 0 places)
      → record { rows = made; size = end } ≡ columns s
  unfolding columns
  columns_made held d end root made e r m =
      let long : size (rows s) ≡ end = omega (arith, size-rows s) in
      let each : (p : ℕ) → cond (ltb p end) (row_by s.n (get_or s.blocks p d)) root ≡ row_by s.n (at (rows s) p) =
      λ p.
      elim (dec_lt p end) [
        | yes l ↦
            ap (λ (b : Bool). cond b (row_by s.n (get_or s.blocks p d)) root) (lt-ltb p end l)
            ∙ ap (row_by s.n) (sym (at_rows s p d (omega arith) (omega arith)))
        | no l ↦
            ap (λ (b : Bool). cond b (row_by s.n (get_or s.blocks p d)) root) (le-ltb p end (omega arith))
            ∙ r ∙ ap (row_by s.n) (sym (at-past s p d (omega arith) (omega arith)))
      ] in
      let same = m ∙ ap (λ (f : ℕ → Row). map f (range_with_len 0 places)) (fun_ext each) in
      λ i. record { rows = same i; size = sym long i }

  -- what the columns show of each place, where they have a place for each row
  module _ (c : Columns) (e : c ≡ columns s) (fits : c.size ≤ places) where
    rows-fit : size (rows s) ≤ places
    unfolding columns
    rows-fit = subst (λ (x : Columns). x.size ≤ places) e fits

    cell-shows : (p : ℕ) → cell (columns s).rows p ≡ row_by s.n (at (rows s) p)
    unfolding columns
    cell-shows = cell_made (λ p. row_by s.n (at (rows s) p)) places refl (λ p l. ap (row_by s.n) (at_out (rows s) p (omega (arith, rows-fit))))

    up-shows : (p : ℕ) → up_in (columns s) p ≡ (at (rows s) p).parent.0
    unfolding row_by
    up-shows p = ap (λ (r : Row). r.parent.0) (cell-shows p)

    epoch-shows : (p : ℕ) → epoch_in (columns s) p ≡ epoch_at (rows s) p
    unfolding row_by epoch_at
    epoch-shows p = ap (λ (r : Row). r.epoch.0) (cell-shows p)

    mark-shows : (p : ℕ) → mark_in (columns s) p ≡ leb (quorum s.n) (votes (at (rows s) p))
    unfolding row_by
    mark-shows p = ap (λ (r : Row). r.enough) (cell-shows p)

    -- a rule over the columns is the rule over the rows
    shown : {A : Type 0} (R : ℕ → (ℕ → ℕ) → (ℕ → ℕ) → (ℕ → Bool) → A) → R c.size (up_in c) (epoch_in c) (mark_in c) ≡ R (size (rows s)) (λ p. (at (rows s) p).parent.0) (epoch_at (rows s)) (λ p. leb (quorum s.n) (votes (at (rows s) p)))
    unfolding columns
    shown R =
        let t = rows s in
        let up : ℕ → ℕ = λ p. (at t p).parent.0 in
        ap (λ (x : Columns). R x.size (up_in x) (epoch_in x) (mark_in x)) e
        ∙ ap (λ (f : ℕ → ℕ). R (size t) f (epoch_in (columns s)) (mark_in (columns s))) (fun_ext up-shows)
        ∙ ap (λ (f : ℕ → ℕ). R (size t) up f (mark_in (columns s))) (fun_ext epoch-shows)
        ∙ ap (R (size t) up (epoch_at t)) (fun_ext mark-shows)

    -- and so is one over no more places than the columns have: a table has no more
    shown_within : {A : Type 0} (R : ℕ → (ℕ → ℕ) → (ℕ → ℕ) → (ℕ → Bool) → A) → R (min c.size places) (up_in c) (epoch_in c) (mark_in c) ≡ R (size (rows s)) (λ p. (at (rows s) p).parent.0) (epoch_at (rows s)) (λ p. leb (quorum s.n) (votes (at (rows s) p)))
    shown_within R =
        let most : min c.size places ≡ c.size = omega (arith, fits) in
        ap (λ (k : ℕ). R k (up_in c) (epoch_in c) (mark_in c)) most ∙ shown R

    -- the lowest place that may be voted for, of the columns
    pub ballot-shown : (local bar voted : ℕ) → lowest c.size (votable_by (up_in c) (epoch_in c) (mark_in c) local bar voted) ≡ ballot s.n (rows s) local bar voted
    unfolding votable_by ballot votable firm_by firm notarized line parent_of
    ballot-shown local bar voted = shown (λ k up epoch mark. lowest k (votable_by up epoch mark local bar voted))

    -- .. and as an Option, at the state's own
    pub chosen-shown : (let p : ℕ = lowest c.size (votable_by (up_in c) (epoch_in c) (mark_in c) s.local.0 s.bar.0 s.voted.0) in pick (ltb p c.size) (Some (record { 0 = p })) None) ≡ chosen s
    unfolding chosen
    chosen-shown =
        let own = ballot-shown s.local.0 s.bar.0 s.voted.0 in
        let long : c.size ≡ size (rows s) = shown (λ k _ _ _. k) in
        λ i. pick (ltb (own i) (long i)) (Some (record { 0 = own i })) None

    -- the freshest block and its epoch
    pub top_shown : (tops : Tops) → tops ≡ tops_by (min c.size places) (up_in c) (epoch_in c) (mark_in c)
        → tops.fresh ≡ record { place = record { 0 = freshest s.n (rows s) }; epoch = record { 0 = fresh_epoch s } }
    unfolding tops_by fresh_epoch freshest freshest_by firm_by firm notarized line
    top_shown tops h =
        ap (λ (w : Tops). w.fresh) h ∙ shown_within (λ k up epoch mark. top_at epoch (freshest_by k up epoch mark))

    -- the freshest block, the freshest normal one, that one's parent, and what is told of them
    pub standing_shown : standing_by c s.clocks s.n s.local.0 s.kept.0 ≡ standing s
    unfolding standing_by standing tops_by fresh_epoch forward descends line candidate parent_of normal freshest freshest_normal freshest_by freshest_normal_by firm_by firm notarized normal_by
    standing_shown =
        shown_within
        (λ k up epoch mark.
        let next : ℕ = lower up (freshest_normal_by k up epoch mark) in
        record {
          fresh = record { 0 = epoch (freshest_by k up epoch mark) };
          clock = record { 0 = max s.local.0 (agreed s.n s.clocks) };
          candidate = record { 0 = next };
          forward = among s.kept.0 (fall up next);
          back = among next (fall up s.kept.0);
        })
