-- Demand 3 for the bytes written: by the final-list function, and by two runs of the firmware. Assumes nothing.
use Prim.Native.Nat.{ℕ, suc, ◌+◌, ◌*◌, ◌%◌, ◌≤◌, ◌<◌, zero-le, suc-le-suc}
use mathlib.Core.Bool.{Bool, true, false}
use mathlib.Core.List.{List, [], ◌∷◌, ◌++◌}
use mathlib.Core.Logic.{◌⊎◌, inl, inr, ⊎_elim}
use mathlib.Core.Path.{◌≡◌, refl, sym, ap, subst, subst₂, ◌∙◌}
use native.Mathlib.Omega.{arith}
use lib.Dec.{eqb}
use lib.ListN.{length, take, drop, length-append, length-take}
use lib.Seq.{take_at, get_or-take}
use borrow.Author.Tests.{eqb-true}
use Rattle.table.specs.declared.Answer.{Answer}
use Rattle.table.specs.declared.Block.{Block}
use Rattle.table.specs.declared.State.{State}
use Rattle.table.specs.Scan.{pick}
use Rattle.table.specs.Rows.{capacity, most_nodes, name_bytes, rows, at}
use Rattle.pala.specs.Answers.{number, taken}
use Rattle.pala.specs.Record.{record_bytes}
use Rattle.pala.specs.Lists.{joined, final_names, final_list, listed, list_answer}
use Rattle.pala.specs.Rules.{parent_of}
use Rattle.pala.specs.Run.{stretches, lent, played, ran, run, run_answer, run_code}
use Rattle.pala.specs.Step.{step, start}
use Rattle.pala.specs.Safety.{Event, Run, event_at, after, follow, state_at, shown_at, OneBegins}
use Rattle.pala.specs.Shown.{written, SafeLists, records_of, PlayedBy, ran_written, SafeRuns}
use Rattle.pala.proofs.Shapes.{shaped-count, shaped-kept}
use Rattle.pala.proofs.Sized.{RowSized}
use Rattle.pala.proofs.Keeps.{Proper}
use Rattle.pala.proofs.Sent.{at-sized}
use Rattle.pala.proofs.Calls.{any_lent}
use Rattle.pala.proofs.Demand.Ancestors.{climb}
use Rattle.pala.proofs.Demand.Runs.{reached}
use Rattle.pala.proofs.Finals.{names_to, finals_are, names_zero, names_up, names_le}
use Rattle.pala.proofs.Demand.Safety.{joined-append, safe}

-- the names to a place are 32 bytes each
pub names_long : (t : List Block) → ((p : ℕ) → RowSized (at t p)) → (p : ℕ) → length (joined (names_to t p)) ≡ name_bytes * length (names_to t p)
unfolding joined
names_long t sized = climb t (λ p. length (joined (names_to t p)) ≡ name_bytes * length (names_to t p)) base step
  where
    base : length (joined (names_to t 0)) ≡ name_bytes * length (names_to t 0)
    base = ap (λ l. length (joined l)) (names_zero t) ∙ sym (ap (λ l. name_bytes * length l) (names_zero t))

    step : (p : ℕ) → 0 < p
        → length (joined (names_to t (parent_of t p))) ≡ name_bytes * length (names_to t (parent_of t p))
        → length (joined (names_to t p)) ≡ name_bytes * length (names_to t p)
    step p pos ih =
        omega (
          arith,
          ap length (names_up t p pos),
          length-append up ((at t p).name ∷ []),
          ap (λ l. length (joined l)) (names_up t p pos),
          ap length (joined-append up ((at t p).name ∷ [])),
          length-append (joined up) ((at t p).name ++ []),
          length-append (at t p).name [],
          (sized p).name,
          ih,
        )
      where
        up : List (List ℕ)
        up = names_to t (parent_of t p)

-- as many names as were counted: all of them, or none
cut : (b : Bool) (l : List (List ℕ)) (rest x : List ℕ) → length (joined l) ≡ name_bytes * length l
    → (take (name_bytes * pick b (length l) 0) (pick b (joined l ++ rest) x) ≡ joined l)
    ⊎ (take (name_bytes * pick b (length l) 0) (pick b (joined l ++ rest) x) ≡ [])
unfolding pick
cut true l rest x e = inl (take_at (joined l) rest (name_bytes * length l) e)
cut false l rest x e = inr refl

-- a state's final names are 32 bytes each
finals_long : (s : State) → Proper s → length (joined (final_names s)) ≡ name_bytes * length (final_names s)
finals_long s k =
    subst (λ l. length (joined l) ≡ name_bytes * length l) (sym (finals_are s)) (names_long (rows s) (at-sized s k) s.kept.0)

-- what the final-list function writes: the final names, or nothing
written_is : (s : State) → Proper s → (x : List ℕ) → (written (final_list s x) ≡ joined (final_names s)) ⊎ (written (final_list s x) ≡ [])
unfolding final_list listed
written_is s k x =
    cut (taken (list_answer s x)) (final_names s) (drop (name_bytes * length (final_names s)) x) x (finals_long s k)

counted_few : (s : State) → Proper s → (x : List ℕ) → (final_list s x).count ≤ capacity
unfolding final_list listed pick
counted_few s k x = go (taken (list_answer s x))
  where
    go : (b : Bool) → pick b (length (final_names s)) 0 ≤ capacity
    go true =
        omega (
          arith,
          ap length (finals_are s),
          names_le (rows s) s.kept.0,
          shaped-kept s k.shaped,
          shaped-count s k.shaped,
        )
    go false = omega arith

-- lists that are the shown ones, or empty, begin one another where the shown ones do
or_empty : {a b x y : List ℕ} → OneBegins a b → (x ≡ a) ⊎ (x ≡ []) → (y ≡ b) ⊎ (y ≡ []) → OneBegins x y
or_empty {y = y} o (inr e) f = inl (y, ap (λ l. l ++ y) e)
or_empty {x = x} o (inl e) (inr f) = inr (x, ap (λ l. l ++ x) f)
or_empty o (inl e) (inl f) = subst₂ OneBegins (sym e) (sym f) o

pub safe_lists : SafeLists
unfolding shown_at
safe_lists n honest run pr i j a b hi hj x y =
    or_empty (safe n honest run pr i j a b hi hj)
    (written_is (state_at n run a i) (reached n i pr.some pr.most hi.0 run a).proper x)
    (written_is (state_at n run b j) (reached n j pr.some pr.most hj.0 run b).proper y)

-- the records of gateway i played one after the other bring it where the run does
follow-played : (i : ℕ) (events : Run) → ((k : ℕ) → k < length events → (event_at events k).to ≡ i → length (event_at events k).buffer ≡ record_bytes)
    → (s : State) → follow i s events ≡ played s (records_of i events)
unfolding follow after played records_of
follow-played i [] h s = refl
follow-played i (e ∷ more) h s = go (eqb e.to i) refl (follow-played i more (λ k l. h (suc k) (suc-le-suc l)))
  where
    go : (b : Bool) → eqb e.to i ≡ b → ((u : State) → follow i u more ≡ played u (records_of i more))
        → follow i (pick b (step s e.bytes e.buffer).state s) more
        ≡ played s (elim b as (λ _. List (List ℕ)) [ true ↦ e.bytes ∷ records_of i more | false ↦ records_of i more ])
    go true k ih =
        ap (λ u. follow i u more) (any_lent s e.bytes e.buffer (h 0 (suc-le-suc zero-le) (eqb-true e.to i k)))
        ∙ ih (step s e.bytes lent).state
    go false k ih = ih s

state-played : (n : ℕ) (events : Run) (m i : ℕ) (slice : List ℕ) → PlayedBy events m i slice
    → state_at n events m i ≡ played (start n i).state (stretches slice)
unfolding state_at
state-played n events m i slice w =
    follow-played i (take m events) buffers (start n i).state ∙ ap (played (start n i).state) w.records
  where
    buffers : (k : ℕ) → k < length (take m events) → (event_at (take m events) k).to ≡ i → length (event_at (take m events) k).buffer ≡ record_bytes
    buffers k l e =
        let s : k < m = omega (arith, length-take m events) in
        let same = get_or-take m events k (event_at [] 0) s in
        ap (λ (v : Event). length v.buffer) same
        ∙ w.buffers k s (omega (arith, length-take m events)) (sym (ap (λ (v : Event). v.to) same) ∙ e)

-- the count that a run's code tells
code-count : (k c : ℕ) → c < 65536 → (k * 65536 + c) % 65536 ≡ c
code-count k c h = omega arith

code-written : (b : Bool) (k c : ℕ) (l x names : List ℕ) → c < 65536
    → (take (name_bytes * c) l ≡ names) ⊎ (take (name_bytes * c) l ≡ [])
    → (take (name_bytes * ((k * 65536 + pick b c 0) % 65536)) (pick b l x) ≡ names)
    ⊎ (take (name_bytes * ((k * 65536 + pick b c 0) % 65536)) (pick b l x) ≡ [])
unfolding pick
code-written true k c l x names h w =
    subst (λ m. (take (name_bytes * m) l ≡ names) ⊎ (take (name_bytes * m) l ≡ [])) (sym (code-count k c h)) w
code-written false k c l x names h w = inr (ap (λ m. take (name_bytes * m) x) (code-count k 0 (omega arith)))

-- what a run writes: the final names of the state that its records lead to, or nothing
ran-is : (n i : ℕ) (slice x : List ℕ) (s : State) → Proper s → s ≡ played (start n i).state (stretches slice)
    → (ran_written (run n i slice x) ≡ joined (final_names s)) ⊎ (ran_written (run n i slice x) ≡ [])
unfolding run ran run_code
ran-is n i slice x s k e =
    subst (λ u. (of u ≡ joined (final_names s)) ⊎ (of u ≡ [])) e
    (code-written (taken a) (number a) (final_list s x).count (final_list s x).list x (joined (final_names s))
    (omega (arith, counted_few s k x)) (written_is s k x))
  where
    a : Answer
    a = run_answer n i slice x

    of : State → List ℕ
    of u =
        take (name_bytes * ((number a * 65536 + pick (taken a) (final_list u x).count 0) % 65536)) (pick (taken a) (final_list u x).list x)

-- .. of the state that a gateway of a run is in
ran-shown : (n i m : ℕ) (events : Run) → 1 ≤ n → n ≤ most_nodes → i < n → (slice : List ℕ) → PlayedBy events m i slice → (x : List ℕ)
    → (ran_written (run n i slice x) ≡ joined (final_names (state_at n events m i))) ⊎ (ran_written (run n i slice x) ≡ [])
ran-shown n i m events some most below slice w x =
    ran-is n i slice x (state_at n events m i) (reached n i some most below events m).proper (state-played n events m i slice w)

pub safe_runs : SafeRuns
unfolding shown_at
safe_runs n honest events pr i j a b hi hj p q wp wq x y =
    or_empty (safe n honest events pr i j a b hi hj)
    (ran-shown n i a events pr.some pr.most hi.0 p wp x)
    (ran-shown n j b events pr.some pr.most hj.0 q wq y)

-- a run of a gateway writes whole names
pub runs_whole : (n i m : ℕ) (events : Run) → 1 ≤ n → n ≤ most_nodes → i < n → (slice : List ℕ) → PlayedBy events m i slice → (x : List ℕ)
    → length (ran_written (run n i slice x)) % name_bytes ≡ 0
runs_whole n i m events some most below slice w x =
    ⊎_elim (λ e. omega (arith, ap length e, finals_long (state_at n events m i) (reached n i some most below events m).proper))
    (λ e. ap (λ l. length l % name_bytes) e) (ran-shown n i m events some most below slice w x)
