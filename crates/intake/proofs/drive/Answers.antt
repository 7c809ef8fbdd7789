-- The turns so far and one more: its piece is what was read, its text what was written.
use Rattle.std.proofs.Common.{rules, ℕ, min, length, take, replicate, ◌≡◌, List, [], ◌∷◌, ◌++◌, refl, Option, ap, ◌∙◌, sym, subst, append-nil, length-append, flat_map, inl, inr, arith}
use Rattle.std.specs.Io.KnownBytes.{Consumes, Appends}
use Rattle.std.proofs.KnownBytes.{Consumes-nil, Consumes-trans, Appends-nil, Appends-trans}
use Rattle.std.proofs.lemmas.Grind.{flat_map-append}
use Rattle.std.proofs.lemmas.List.Elements.{All-append}
use Rattle.std.proofs.lemmas.Fn.{FoldsTo-push}
use Rattle.std.specs.Fn.{Called, Mut}
use denote.Ref.{Bor, MutBor}
use denote.Param.Always.{mut_next}
use Rattle.intake.proofs.Laws.{cut_take}
use Rattle.intake.specs.Turns.{Turn, Plays, Took}
use Rattle.intake.proofs.drive.Goals as goal

-- one turn more
took_more : {F : Type 0} (g : Mut F (Bor (List ℕ) × (MutBor (List ℕ) × Unit {0})) (ℕ × (MutBor (List ℕ) × Unit {0}))) (room : ℕ) (read held read₁ held₁ read₂ held₂ : Option (List ℕ)) (f f₁ f₂ : F) (turns : List Turn) (shown : Bor (List ℕ)) (lent left : MutBor (List ℕ)) (end cut : ℕ) → Took g room read held f turns read₁ held₁ f₁ → lent.now ≡ replicate room 0 → Called g f₁ (shown, (lent, tt)) (end, (left, tt)) f₂ → length left.now ≡ room → Consumes read₁ read₂ shown.now → cut ≡ min end room → Appends held₁ held₂ (take cut left.now) → Took g room read held f (turns ++ record { piece = shown.now; text = take end left.now } ∷ []) read₂ held₂ f₂
took_more g room read held read₁ held₁ read₂ held₂ f f₁ f₂ turns shown lent left end cut so blank call size c e w =
    let t : Turn = record { piece = shown.now; text = take end left.now } in
    let joined = λ (part : Turn → List ℕ). sym (flat_map-append part turns (t ∷ []) ∙ ap (λ l. flat_map part turns ++ l) (append-nil (part t))) in
    record {
      played = FoldsTo-push (Plays g room) f turns f₁ t f₂ so.played (record { shown = shown; shows = refl; lent = lent; blank = blank; end = end; left = left; called = call; told = refl });
      consumed = subst (Consumes read read₂) (joined (λ (x : Turn). x.piece)) (Consumes-trans read read₁ read₂ _ _ so.consumed c);
      written = subst (Appends held held₂) (joined (λ (x : Turn). x.text)) (Appends-trans held held₁ held₂ _ _ so.written (subst (Appends held₁ held₂) (cut_take end cut room left.now size e) w));
    }

pub turns-init : goal.turns-init
turns-init g c =
    (c.requires.callable, ([], record { played = refl; consumed = Consumes-nil _; written = Appends-nil _ }, search rules, refl))

pub returns-then-got-clause-driven : goal.returns-then-got-clause-driven
returns-then-got-clause-driven g c =
    let so = c.turns.invariant.1 in
    let took = took_more g.F.FnMut g.row.TEXT _ _ _ _ _ _ _ _ _ so.0 _ _ _ _ _ so.1 refl c.play-end.ensures (search rules) c.in_ok-got.ensures.bytes c.min.ensures c.in_ok-write_all.ensures.bytes in
    let t : Turn = record { piece = take c.in_ok-got.got c.read_full.new.buf; text = take c.play-end.result c.play-end.new.arg3 } in
    record { full = so.0; whole = so.2; ended = inl (t, _, took, search rules, search rules) }

-- what was read before an error is what the input lost
pub returns-in_err-got-clause-none_lost : goal.returns-in_err-got-clause-none_lost
returns-in_err-got-clause-none_lost g c =
    let lost = Consumes-trans _ _ _ _ _ c.turns.invariant.1.1.consumed c.in_err-got.ensures.none_lost.2 in
    search rules

pub returns-in_err-write_all-clause-none_lost : goal.returns-in_err-write_all-clause-none_lost
returns-in_err-write_all-clause-none_lost g c =
    let lost = Consumes-trans _ _ _ _ _ c.turns.invariant.1.1.consumed c.in_ok-got.ensures.bytes in
    search rules

pub turns-preserved : goal.turns-preserved
turns-preserved g c =
    let so = c.turns.invariant.1 in
    let took = took_more g.F.FnMut g.row.TEXT _ _ _ _ _ _ _ _ _ so.0 _ _ _ _ _ so.1 refl c.play-end.ensures (search rules) c.in_ok-got.ensures.bytes c.min.ensures c.in_ok-write_all.ensures.bytes in
    let t : Turn = record { piece = take c.in_ok-got.got c.read_full.new.buf; text = take c.play-end.result c.play-end.new.arg3 } in
    (mut_next g.F.FnMut _ _ _ _ _ c.play-end.ensures refl c.turns.invariant.0, (so.0 ++ t ∷ [], took, All-append (λ (x : Turn). length x.piece ≡ g.row.PIECE) so.0 (t ∷ []) so.2 (search rules), omega (arith, length-append so.0 (t ∷ []), so.3)))

pub returns-clause-driven : goal.returns-clause-driven
returns-clause-driven g c =
    let so = c.turns.invariant.1 in
    record { full = so.0; whole = so.2; ended = inr (_, so.1, omega (arith, so.3)) }
