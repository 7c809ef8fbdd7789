-- The direct effect of a granted record, by its kind, and what it writes within. Assumes nothing.
use Prim.Native.Nat.{suc}
use Rattle.node.proofs.ByKind.{kind_was}
use Rattle.node.proofs.Grants.{kind_there, room_left, minute_left, own_below, sender_below, vote-held, cast-held, proposal_done, vote-done, clock-done, propose_done, cast-done, minute_done}
use Rattle.node.proofs.Stores.{block_stored, vote_stored}
use Rattle.pala.proofs.Shapes.{shaped-count}
use Rattle.pala.specs.Effects.{put, with_block, with_clock}
use Rattle.record.specs.declared.kinds.Kind.{Kind}
use Rattle.table.proofs.Laws.{size-rows}
use Rattle.table.specs.Rows.{capacity}
use Rattle.table.specs.declared.Block.{Block}
use borrow.Author.Rules.{rules}
use lib.ListN.{length}
use mathlib.Core.Path.{◌≡◌, refl, ap, ◌∙◌}
use native.Mathlib.Omega.{arith}
use Rattle.node.proofs.effects.apply.Goals as goal

pub unwrap-requires : goal.unwrap-requires
unwrap-requires c = rw c.try_from.ensures (kind_there c.requires.granted.1)

pub overflow_add-s : goal.overflow_add-s
overflow_add-s c = omega (arith, room_left c.requires.granted.1 (kind_was Kind.ProposalHeard c.in-ProposalHeard.ensures c.try_from.ensures) refl)

pub bounds-s-s : goal.bounds-s-s
bounds-s-s c = omega (arith, room_left c.requires.granted.1 (kind_was Kind.ProposalHeard c.in-ProposalHeard.ensures c.try_from.ensures) refl)

pub returns-in-ProposalHeard-clause-done : goal.returns-in-ProposalHeard-clause-done
unfolding put
returns-in-ProposalHeard-clause-done c r g =
    let held : length c.args.s.now.blocks ≡ suc capacity = search rules in
    let kind = kind_was Kind.ProposalHeard c.in-ProposalHeard.ensures c.try_from.ensures in
    let stored = block_stored c.args.s.now held _ c.args.s.now.proposed.0 (room_left c.requires.granted.1 kind refl) ∙ ap (λ (b : Block). with_block c.args.s.now b c.args.s.now.proposed.0) c.new_block.ensures in
    stored ∙ proposal_done g kind

pub overflow_add-s-in-ProposeNow : goal.overflow_add-s-in-ProposeNow
overflow_add-s-in-ProposeNow c = omega (arith, room_left c.requires.granted.1 (kind_was Kind.ProposeNow c.in-ProposeNow.ensures c.try_from.ensures) refl)

pub bounds-s-s-in-ProposeNow : goal.bounds-s-s-in-ProposeNow
bounds-s-s-in-ProposeNow c = omega (arith, room_left c.requires.granted.1 (kind_was Kind.ProposeNow c.in-ProposeNow.ensures c.try_from.ensures) refl)

pub returns-in-ProposeNow-clause-done : goal.returns-in-ProposeNow-clause-done
unfolding put
returns-in-ProposeNow-clause-done c r g =
    let held : length c.args.s.now.blocks ≡ suc capacity = search rules in
    let kind = kind_was Kind.ProposeNow c.in-ProposeNow.ensures c.try_from.ensures in
    let stored = block_stored c.args.s.now held _ c.args.s.now.local.0 (room_left c.requires.granted.1 kind refl) ∙ ap (λ (b : Block). with_block c.args.s.now b c.args.s.now.local.0) c.new_block-in-ProposeNow.ensures in
    stored ∙ propose_done g kind

pub bounds-s-row : goal.bounds-s-row
bounds-s-row c = omega (arith, vote-held c.requires.granted.1 (kind_was Kind.VoteHeard c.in-VoteHeard.ensures c.try_from.ensures), size-rows c.args.s.now, shaped-count _ c.requires.shaped)

pub bounds-s-row-in-VoteHeard : goal.bounds-s-row-in-VoteHeard
bounds-s-row-in-VoteHeard c = omega (arith, vote-held c.requires.granted.1 (kind_was Kind.VoteHeard c.in-VoteHeard.ensures c.try_from.ensures), size-rows c.args.s.now, shaped-count _ c.requires.shaped)

pub returns-in-VoteHeard-clause-done : goal.returns-in-VoteHeard-clause-done
unfolding put
returns-in-VoteHeard-clause-done c r g =
    let held : length c.args.s.now.blocks ≡ suc capacity = search rules in
    let kind = kind_was Kind.VoteHeard c.in-VoteHeard.ensures c.try_from.ensures in
    let stored = vote_stored c.args.s.now _ _ c.args.s.now.voted.0 _ _ (vote-held c.requires.granted.1 kind) c.with_voter.ensures in
    stored ∙ vote-done g kind

pub bounds-s-row-in-CastNow : goal.bounds-s-row-in-CastNow
bounds-s-row-in-CastNow c = omega (arith, cast-held c.requires.granted.1 (kind_was Kind.CastNow c.in-CastNow.ensures c.try_from.ensures), size-rows c.args.s.now, shaped-count _ c.requires.shaped)

pub bounds-s-row-in-CastNow-2 : goal.bounds-s-row-in-CastNow-2
bounds-s-row-in-CastNow-2 c = omega (arith, cast-held c.requires.granted.1 (kind_was Kind.CastNow c.in-CastNow.ensures c.try_from.ensures), size-rows c.args.s.now, shaped-count _ c.requires.shaped)

pub returns-in-CastNow-clause-done : goal.returns-in-CastNow-clause-done
unfolding put
returns-in-CastNow-clause-done c r g =
    let held : length c.args.s.now.blocks ≡ suc capacity = search rules in
    let kind = kind_was Kind.CastNow c.in-CastNow.ensures c.try_from.ensures in
    let stored = vote_stored c.args.s.now _ _ c.args.s.now.local.0 _ _ (cast-held c.requires.granted.1 kind) c.with_voter-in-CastNow.ensures in
    stored ∙ cast-done g kind

pub bounds-s-f : goal.bounds-s-f
bounds-s-f c = sender_below c.requires.granted.1 c.requires.shaped

pub returns-in-ClockHeard-clause-done : goal.returns-in-ClockHeard-clause-done
unfolding with_clock put
returns-in-ClockHeard-clause-done c r g = clock-done g (kind_was Kind.ClockHeard c.in-ClockHeard.ensures c.try_from.ensures)

pub overflow_add-s-in-MinuteUp : goal.overflow_add-s-in-MinuteUp
overflow_add-s-in-MinuteUp c = omega (arith, minute_left c.requires.granted.1 (kind_was Kind.MinuteUp c.in-MinuteUp.ensures c.try_from.ensures))

pub bounds-s-s-in-MinuteUp : goal.bounds-s-s-in-MinuteUp
bounds-s-s-in-MinuteUp c = own_below c.requires.granted.1 c.requires.shaped

pub returns-in-MinuteUp-clause-done : goal.returns-in-MinuteUp-clause-done
unfolding with_clock put
returns-in-MinuteUp-clause-done c r g = minute_done g (kind_was Kind.MinuteUp c.in-MinuteUp.ensures c.try_from.ensures)
