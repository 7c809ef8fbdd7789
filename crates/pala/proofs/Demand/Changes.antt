-- What a taken record can have changed in a table: which voter, which block. Assumes nothing.
use Prim.Native.Nat.{ℕ, ◌<◌}
use mathlib.Core.Bool.{true}
use mathlib.Core.List.{List, [], ◌∷◌, ◌++◌}
use mathlib.Core.Logic.{◌≢◌, ◌⊎◌, inl, inr, ⊎_elim}
use mathlib.Core.Path.{◌≡◌, sym, ap, ◌∙◌}
use native.Mathlib.Decide.{dec_lt, ℕ_discrete}
use native.Mathlib.Omega.{arith}
use lib.ListN.{length, set, length-set}
use Rattle.table.specs.declared.Block.{Block}
use Rattle.table.specs.declared.State.{State}
use Rattle.table.specs.Rows.{rows, size, at, has_voter, with_voter}
use Rattle.pala.specs.Effects.{with_block, with_vote, picked}
use Rattle.pala.specs.Record.{sender_of, name_of, is, proposal_heard, vote_heard, propose_now, cast_now}
use Rattle.pala.specs.Step.{room}
use Rattle.table.proofs.Laws.{not_both}
use Rattle.pala.proofs.Grown.{size-append, at-append, at_last, at-vote, voter_was, rows-clock}
use Rattle.pala.proofs.Places.{find-named}
use Rattle.pala.proofs.Moves.{Did, added, counted, cast, clocked}
use Rattle.pala.proofs.Keeps.{Proper, size_proper}
use Rattle.pala.proofs.Demand.Healthy.{after_block, after-vote}

-- a voter that the table u shows at a place: it was there, or a vote was heard, or the gateway cast its own
pub data Voter (s : State) (r : List ℕ) (p j : ℕ) : Type 0 where
  old : p < size (rows s) → has_voter (at (rows s) p) j ≡ true → Voter s r p j
  heard_of : is vote_heard r ≡ true → j ≡ sender_of r → sender_of r ≢ s.own.0 → p < size (rows s)
      → (at (rows s) p).name ≡ name_of r → Voter s r p j
  its_own : is cast_now r ≡ true → j ≡ s.own.0 → p ≡ picked s → p < size (rows s) → Voter s r p j

-- a row after one voter more: as it was, or that row and that voter
set_voter : (t : List Block) (q i p j : ℕ) → q < size t → p < size t → has_voter (at (set t q (with_voter (at t q) i)) p) j ≡ true
    → (has_voter (at t p) j ≡ true) ⊎ ((p ≡ q) × (j ≡ i))
set_voter t q i p j l =
    at-vote (λ b. has_voter b j ≡ true → (has_voter (at t p) j ≡ true) ⊎ ((p ≡ q) × (j ≡ i))) t q i p l
    (λ d v.
    elim (ℕ_discrete j i) [
      | yes e ↦ inr (d, e)
      | no e ↦ inl (ap (λ x. has_voter (at t x) j) d ∙ sym (voter_was (at t q) i j e) ∙ v)
    ])
    (λ _ v. inl v)

module _ {s : State} (k : Proper s) where
  vote-size : {u : State} (q i voted : ℕ) → q < size (rows s) → u ≡ with_vote s q i voted → size (rows u) ≡ size (rows s)
  vote-size q i voted l e = ap length (after-vote k q i voted l e) ∙ length-set (rows s) q (with_voter (at (rows s) q) i)

  -- a voter after a vote was there, or it is that voter at that place
  voter_of : {u : State} (q i voted p j : ℕ) → q < size (rows s) → u ≡ with_vote s q i voted → p < size (rows u) → has_voter (at (rows u) p) j ≡ true
      → (p < size (rows s)) × ((has_voter (at (rows s) p) j ≡ true) ⊎ ((p ≡ q) × (j ≡ i)))
  voter_of q i voted p j l e within v =
      let inside : p < size (rows s) = omega (arith, vote-size q i voted l e) in
      (inside, set_voter (rows s) q i p j l inside (sym (ap (λ x. has_voter (at x p) j) (after-vote k q i voted l e)) ∙ v))

  pub new_voter : {r : List ℕ} {u : State} → Did room s r u → (p j : ℕ) → p < size (rows u) → has_voter (at (rows u) p) j ≡ true → Voter s r p j
  new_voter {r} {u} (added b proposed kind w l e) p j within v =
      elim (dec_lt p (size t)) [
        | yes m ↦ old m (sym (ap (λ (x : Block). has_voter x j) (ap (λ x. at x p) et ∙ at-append t b p m)) ∙ v)
        | no m ↦
            let z : p ≡ size t = omega (arith, ap length et, size-append t b) in
            absurd
            (not_both (sym (ap (λ (x : Block). has_voter x j) (ap (at (rows u)) z ∙ ap (λ x. at x (size t)) et ∙ at_last t b)) ∙ v) (w.silent j))
      ]
    where
      t : List Block
      t = rows s

      et : rows u ≡ t ++ (b ∷ [])
      et = after_block k b proposed l e
  new_voter {r} (counted kind pos l below other e) p j within v =
      let (m, w) = voter_of _ _ _ p j l e within v in
      ⊎_elim (λ x. old m x) (λ x. heard_of kind x.1 other m (ap (λ z. (at (rows s) z).name) x.0 ∙ find-named (rows s) (name_of r) l)) w
  new_voter (cast kind l may e) p j within v =
      let (m, w) = voter_of _ _ _ p j l e within v in
      ⊎_elim (λ x. old m x) (λ x. its_own kind x.1 x.0 m) w
  new_voter {r} {u} (clocked i c k2 k5 below e) p j within v =
      old (omega (arith, ap length et)) (sym (ap (λ x. has_voter (at x p) j) et) ∙ v)
    where
      et : rows u ≡ rows s
      et = ap rows e ∙ rows-clock s i c

  -- a place that the table u has: it was there, or a block came and it is the last
  pub new_place : {r : List ℕ} {u : State} → Did room s r u → (p : ℕ) → p < size (rows u)
      → (p < size (rows s)) ⊎ (((is proposal_heard r ≡ true) ⊎ (is propose_now r ≡ true)) × (p ≡ u.count))
  unfolding with_block
  new_place (added b proposed kind w l e) p within =
      elim (dec_lt p (size (rows s))) [
        | yes m ↦ inl m
        | no m ↦
            inr (kind, omega (arith, ap length (after_block k b proposed l e), size-append (rows s) b, size_proper k, ap (λ (x : State). x.count) e))
      ]
  new_place (counted kind pos l below other e) p within = inl (omega (arith, vote-size _ _ _ l e))
  new_place (cast kind l may e) p within = inl (omega (arith, vote-size _ _ _ l e))
  new_place (clocked i c k2 k5 below e) p within = inl (omega (arith, ap length (ap rows e ∙ rows-clock s i c)))
