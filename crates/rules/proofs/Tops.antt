-- The one scan that finds the freshest block and the freshest normal one: what holds before each turn. Assumes nothing.
use Rattle.std.proofs.Common.{ℕ, zero, suc, ◌≡◌, ◌-◌, ◌<◌, ◌≤◌, Bool, true, false, ◌&&◌, ◌||◌, eqb, ltb, leb, refl, sym, ap, ap₂, ◌∙◌, arith}
use Rattle.std.proofs.lemmas.Bool.{ne_eqb, leb-true, leb-false}
use Rattle.pala.proofs.Tests.{and_l, and_r, and_both}
use Rattle.table.specs.Scan.{pick, highest}
use Rattle.table.proofs.Laws.{fails, not_both, pick-case}
use Rattle.rules.specs.declared.Top.{Top}
use Rattle.rules.specs.Columns.{firm_by, freshest_by, normal_by, freshest_normal_by}
use Rattle.rules.specs.Standing.{top_at, tops_by}
use Rattle.rules.proofs.Downward.{firm_step}
use Rattle.rules.proofs.Searches.{Best, best_start, best_passed, best_taken, best_end}

pick_same : (b : Bool) (x : ℕ) → pick b x x ≡ x
unfolding pick
pick_same true x = refl
pick_same false x = refl

nand_l : (a b : Bool) → (a && b) ≡ false → b ≡ true → a ≡ false
nand_l a b h y = fails a (λ x. not_both (and_both a b x y) h)

-- whether 0 passes changes nothing: it is where the search starts
highest_same : (f g : ℕ → Bool) (rank : ℕ → ℕ) → ((p : ℕ) → 0 < p → f p ≡ g p) → (k : ℕ) → highest k f rank ≡ highest k g rank
unfolding highest
highest_same f g rank e zero = refl
highest_same f g rank e (suc zero) = pick_same (f 0 && ltb (rank 0) (rank 0)) 0 ∙ sym (pick_same (g 0 && ltb (rank 0) (rank 0)) 0)
highest_same f g rank e (suc (suc k)) =
    ap₂ (λ (b : Bool) (w : ℕ). pick (b && ltb (rank w) (rank (suc k))) (suc k) w) (e (suc k) (omega arith)) (highest_same f g rank e (suc k))

module _ (up epoch : ℕ → ℕ) (mark : ℕ → Bool) where
  abbrev pub firmly : ℕ → Bool
  firmly p = firm_by up mark p

  -- the genesis stands where there is no firm normal block
  abbrev pub lately : ℕ → Bool
  lately p = firm_by up mark p && (eqb p 0 || normal_by up epoch p)

  root-firm : firm_by up mark 0 ≡ true
  root-firm = firm_step up mark 0

  -- the places from k on are passed
  pub record Scanned (size k : ℕ) (fresh last : Top) : Type 0 where
    pub freshest : Best firmly epoch size k fresh
    pub latest : Best lately epoch size k last

  pub scanned_start : (size : ℕ) (root : Top) → root ≡ top_at epoch 0 → Scanned size size root root
  scanned_start size root e =
      rw e
      (record {
        freshest = best_start firmly epoch size root-firm;
        latest = best_start lately epoch size (ap (λ (b : Bool). b && true) root-firm);
      })

  -- once all are passed
  pub scanned_end : (size : ℕ) (fresh last : Top) → Scanned size 0 fresh last → record { fresh = fresh; normal = last } ≡ tops_by size up epoch mark
  unfolding tops_by freshest_by freshest_normal_by
  scanned_end size fresh last w =
      let same = highest_same lately (λ p. firm_by up mark p && normal_by up epoch p) epoch (λ p h. ap (λ (b : Bool). firm_by up mark p && (b || normal_by up epoch p)) (ne_eqb p 0 (λ e. omega arith))) size in
      let a = best_end firmly epoch size root-firm fresh w.freshest in
      let b = best_end lately epoch size (ap (λ (b : Bool). b && true) root-firm) last w.latest ∙ ap (top_at epoch) same in
      λ i. record { fresh = a i; normal = b i }

  -- a turn looks at k - 1, which may be fresher than the freshest, and the latest normal block
  module _ (size k : ℕ) (fresh last here : Top) (w : Scanned size k fresh last) (more : 0 < k) (least : k ≤ size) (e : here ≡ top_at epoch (k - 1)) (fresher later : Bool)
      (f : fresher ≡ leb fresh.epoch.0 (epoch (k - 1))) (l : later ≡ (leb last.epoch.0 (epoch (k - 1)) && (eqb (k - 1) 0 || normal_by up epoch (k - 1)))) where
    -- it isn't firm, or neither: both stay
    pub scanned_passed : (firm_by up mark (k - 1) ≡ true → (fresher ≡ false) × (later ≡ false)) → Scanned size (k - 1) fresh last
    scanned_passed h =
        record {
          freshest = best_passed firmly epoch size k fresh more least w.freshest (λ y. leb-false _ _ (sym f ∙ (h y).0));
          latest =
              best_passed lately epoch size k last more least w.latest
              (λ y. let b = and_l (firm_by up mark (k - 1)) _ y in leb-false _ _ (nand_l _ _ (sym l ∙ (h b).1) (and_r (firm_by up mark (k - 1)) _ y)));
        }

    -- it is firm: it takes the place of what it isn't below
    pub scanned_won : firm_by up mark (k - 1) ≡ true → (fresh' last' : Top) → fresh' ≡ pick fresher here fresh → last' ≡ pick later here last → Scanned size (k - 1) fresh' last'
    scanned_won y fresh' last' a b =
        rw (a, b)
        (record {
          freshest =
              pick-case (Best firmly epoch size (k - 1)) fresher here fresh
              (λ t. rw e (best_taken firmly epoch size k fresh more least w.freshest y (leb-true _ _ (sym f ∙ t))))
              (λ n. best_passed firmly epoch size k fresh more least w.freshest (λ _. leb-false _ _ (sym f ∙ n)));
          latest =
              pick-case (Best lately epoch size (k - 1)) later here last
              (λ t. rw e (best_taken lately epoch size k last more least w.latest (and_both _ _ y (and_r _ _ (sym l ∙ t))) (leb-true _ _ (and_l _ _ (sym l ∙ t)))))
              (λ n. best_passed lately epoch size k last more least w.latest (λ z. leb-false _ _ (nand_l _ _ (sym l ∙ n) (and_r (firm_by up mark (k - 1)) _ z))));
        })
