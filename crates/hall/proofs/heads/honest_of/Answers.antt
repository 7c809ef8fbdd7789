-- The set of honest nodes: each number by its bit. Assumes nothing.
use Prim.Native.Nat.{ℕ, ◌/◌, ◌%◌, ◌^◌}
use Rattle.hall.proofs.Fresh.{made_eight}
use Rattle.std.proofs.Common.{rules, tests, eqb, false}
use Rattle.std.proofs.lemmas.Nat.Bits.{shr_and_one}
use Rattle.hall.proofs.heads.honest_of.Goals as goal

pub returns : goal.returns
returns c = made_eight _ _ (λ (i : ℕ). eqb (c.args.set / 2 ^ i % 2) 1) (λ i x q k. search (rules, tests, shr_and_one)) c.from_fn.result false c.from_fn.ensures.items
