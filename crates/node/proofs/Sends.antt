-- What a granted record has the node send, kind by kind. Assumes nothing.
use Prim.Native.Nat.{ℕ, ◌+◌, ◌≤◌, ◌%◌}
use mathlib.Core.Bool.{true}
use mathlib.Core.List.{List}
use mathlib.Core.Path.{◌≡◌, refl, sym, ap, ◌∙◌}
use native.Mathlib.Omega.{arith}
use borrow.Author.Tests.{eq-eqb, ne_eqb}
use lib.Dec.{eqb}
use lib.ListN.{length}
use Rattle.table.specs.declared.Block.{Block}
use Rattle.table.specs.declared.Place.{Place}
use Rattle.table.specs.declared.State.{State}
use Rattle.table.specs.Scan.{pick}
use Rattle.table.specs.Rows.{rows, at}
use Rattle.table.proofs.Laws.{pick_yes, pick_no}
use Rattle.pala.specs.Counts.{no_name, no_payload}
use Rattle.pala.specs.Effects.{sent}
use Rattle.pala.specs.Record.{record_bytes, kind_of, name_of, payload_of, message, proposal_heard, vote_heard, clock_heard, propose_now, cast_now, minute_up}
use Rattle.pala.specs.Shape.{well_shaped}
use Rattle.record.specs.declared.Fields.{Fields}
use Rattle.record.specs.Fields.{fields_of}
use Rattle.node.specs.Moves.{place_for, Granted}
use Rattle.node.proofs.Grants.{of_kind, by_fields_lem, own_below}

-- ---- what each kind sends

module _ (s : State) (r : List ℕ) (p : ℕ) (there : p ≡ place_for s r) (out : List ℕ) where
  proposal_said : kind_of r ≡ propose_now → message proposal_heard s.own.0 s.local.0 (name_of r) (at (rows s) p).name (payload_of r) ≡ sent s r out
  unfolding sent place_for pick
  proposal_said k = simp (there, k)

  vote-said : kind_of r ≡ cast_now → message vote_heard s.own.0 0 (at (rows s) p).name no_name no_payload ≡ sent s r out
  unfolding sent place_for pick
  vote-said k = simp (there, k)

  clock-said : kind_of r ≡ minute_up → message clock_heard s.own.0 (s.local.0 + 1) no_name no_name no_payload ≡ sent s r out
  unfolding sent pick
  clock-said k = simp k

module _ {s : State} {f : Fields} {place : Place} {r : List ℕ} (g : Granted s f place r) (out : List ℕ) where
  -- kinds 1 to 3 leave the buffer as it was
  pub unsent : f.kind ≤ clock_heard → out ≡ sent s r out
  unfolding sent fields_of
  unsent h =
      let same : f.kind ≡ kind_of r = ap (λ (x : Fields). x.kind) g.fields in
      let low : kind_of r ≤ clock_heard = omega arith in
      sym
      (pick_no (eqb (kind_of r) propose_now) _ _ (ne_eqb (kind_of r) propose_now (λ e. absurd (omega arith)))
      ∙ pick_no (eqb (kind_of r) cast_now) _ _ (ne_eqb (kind_of r) cast_now (λ e. absurd (omega arith)))
      ∙ pick_no (eqb (kind_of r) minute_up) _ out (ne_eqb (kind_of r) minute_up (λ e. absurd (omega arith))))

  module _ (h : well_shaped s ≡ true) (l : length out ≡ record_bytes) where
    -- some fields written whole, with the own number as the sender
    wrote :
        {x : List ℕ} {m n : Fields} → m ≡ n → n.sender.0 ≡ s.own.0 → n.kind % 256 ≡ n.kind →
        x ≡ pick (eqb (length out) record_bytes) (message (m.kind % 256) (m.sender.0 % 256) m.epoch.0 m.name m.parent m.payload) out →
        x ≡ message n.kind s.own.0 n.epoch.0 n.name n.parent n.payload
    wrote {n = n} e own kind w =
        let byte : n.sender.0 % 256 ≡ s.own.0 = omega (arith, own_below g h) in
        w
        ∙ pick_yes _ _ _ (eq-eqb (length out) record_bytes l)
        ∙ ap (λ (y : Fields). message (y.kind % 256) (y.sender.0 % 256) y.epoch.0 y.name y.parent y.payload) e
        ∙ ap (λ (k : ℕ). message k (n.sender.0 % 256) n.epoch.0 n.name n.parent n.payload) kind
        ∙ ap (λ (i : ℕ). message n.kind i n.epoch.0 n.name n.parent n.payload) byte

    pub proposal_sent :
        f.kind ≡ propose_now → {x : List ℕ} {m : Fields} {b : Block} → b ≡ at (rows s) place.0 →
        m ≡ record { name = f.name; parent = b.name; payload = f.payload; epoch = s.local; sender = s.own; kind = proposal_heard; clean = true } →
        x ≡ pick (eqb (length out) record_bytes) (message (m.kind % 256) (m.sender.0 % 256) m.epoch.0 m.name m.parent m.payload) out →
        x ≡ sent s r out
    unfolding fields_of
    proposal_sent k row e w =
        wrote e refl refl w
        ∙ ap (λ (y : Block). message proposal_heard s.own.0 s.local.0 f.name y.name f.payload) row
        ∙ by_fields_lem g (λ (y : Fields). y.kind ≡ propose_now → message proposal_heard s.own.0 s.local.0 y.name (at (rows s) place.0).name y.payload ≡ sent s r out)
        (proposal_said s r place.0 g.there out) k

    pub vote-sent :
        f.kind ≡ cast_now → {x : List ℕ} {m : Fields} {b : Block} → b ≡ at (rows s) place.0 →
        m ≡ record { name = b.name; parent = no_name; payload = no_payload; epoch = record { 0 = 0 }; sender = s.own; kind = vote_heard; clean = true } →
        x ≡ pick (eqb (length out) record_bytes) (message (m.kind % 256) (m.sender.0 % 256) m.epoch.0 m.name m.parent m.payload) out →
        x ≡ sent s r out
    vote-sent k row e w =
        wrote e refl refl w
        ∙ ap (λ (y : Block). message vote_heard s.own.0 0 y.name no_name no_payload) row
        ∙ vote-said s r place.0 g.there out (of_kind g k)

    pub clock-sent :
        f.kind ≡ minute_up → {x : List ℕ} {m : Fields} →
        m ≡ record { name = no_name; parent = no_name; payload = no_payload; epoch = record { 0 = s.local.0 + 1 }; sender = s.own; kind = clock_heard; clean = true } →
        x ≡ pick (eqb (length out) record_bytes) (message (m.kind % 256) (m.sender.0 % 256) m.epoch.0 m.name m.parent m.payload) out →
        x ≡ sent s r out
    clock-sent k e w = wrote e refl refl w ∙ clock-said s r place.0 g.there out (of_kind g k)
