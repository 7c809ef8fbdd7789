-- A node's own votes against its numbers: local epoch, bar, last epoch voted in, freshest epoch. Assumes nothing.
use Prim.Native.Nat.{ℕ, ◌+◌, ◌≤◌, ◌<◌}
use mathlib.Core.Bool.{Bool, true, false}
use mathlib.Core.List.Memᴰ
use mathlib.Core.List.{List, [], ◌∷◌, Memᴰ}
use mathlib.Core.Path.{◌≡◌, refl}
use native.Mathlib.Omega.{arith}
use borrow.Author.Tests.{ltb-false}
use lib.Dec.{ltb}
use Rattle.table.specs.Scan.{pick}

-- a vote cast: for which name, of which epoch, on a parent of which epoch
pub record Vote (X : Type 0) : Type 0 where
  pub name : X
  pub epoch : ℕ
  pub parent_epoch : ℕ

module _ {X : Type 0} where
  -- the vote is in the log
  abbrev pub In : Vote X → List (Vote X) → Type 0
  In v log = Memᴰ v log

  -- what a node's log and numbers keep to, at lag k
  pub record Sane (k : ℕ) (log : List (Vote X)) (local bar voted fresh : ℕ) : Type 0 where
    -- one epoch, one vote
    pub once : {x y : Vote X} → In x log → In y log → x.epoch ≡ y.epoch → x.name ≡ y.name
    -- a vote more than k epochs later has no staler parent
    pub monotone : {x y : Vote X} → In x log → In y log → x.epoch + k < y.epoch → x.parent_epoch ≤ y.parent_epoch
    -- no vote is later than the last epoch voted in, and that no later than the local one
    pub last : {x : Vote X} → In x log → x.epoch ≤ voted
    pub in_time : voted ≤ local
    -- no parent is fresher than the freshest block, nor, of a vote more than k epochs back, than the bar
    pub known : {x : Vote X} → In x log → x.parent_epoch ≤ fresh
    pub barred : {x : Vote X} → In x log → x.epoch + k < local → x.parent_epoch ≤ bar

  -- a node starts sane: it has cast nothing
  pub sane_start : {k : ℕ} → Sane k [] 1 0 0 0
  sane_start =
      record {
        once = λ m. absurd (Memᴰ.not-nil m);
        monotone = λ m. absurd (Memᴰ.not-nil m);
        last = λ m. absurd (Memᴰ.not-nil m);
        in_time = omega arith;
        known = λ m. absurd (Memᴰ.not-nil m);
        barred = λ m. absurd (Memᴰ.not-nil m);
      }

  module _ {k : ℕ} {log : List (Vote X)} {local bar voted fresh : ℕ} (s : Sane k log local bar voted fresh) where
    -- the five steps keep it: a bar that is set anew is the freshest epoch
    pub sane_settled : {local' fresh' : ℕ} → local ≤ local' → fresh ≤ fresh'
        → Sane k log local' (pick (ltb local local') fresh' bar) voted fresh'
    unfolding pick
    sane_settled {local'} {fresh'} l f =
        record {
          once = s.once;
          monotone = s.monotone;
          last = s.last;
          in_time = omega arith;
          known = λ m. omega (arith, s.known m);
          barred = λ m. go (ltb local local') refl m;
        }
      where
        go : (b : Bool) → ltb local local' ≡ b → {x : Vote X} → In x log → x.epoch + k < local' → x.parent_epoch ≤ pick b fresh' bar
        go true e m h = omega (arith, s.known m)
        go false e m h = s.barred m (omega (arith, ltb-false))

    -- a vote in the local epoch, not yet voted in, on a parent no staler than the bar and no fresher than the freshest block
    module _
        (v : Vote X) (now : v.epoch ≡ local) (new : voted ≡ local → ⊥)
        (low : bar ≤ v.parent_epoch) (high : v.parent_epoch ≤ fresh)
      where
        -- what it says of a vote equal to it
        cast-epoch : {x : Vote X} → x ≡ v → x.epoch ≡ local
        cast-epoch e = cc

        cast-parent : {x : Vote X} → x ≡ v → x.parent_epoch ≡ v.parent_epoch
        cast-parent e = cc

        -- beside it any vote of the log is of an earlier epoch, and one more than k back has no parent fresher than the bar
        cast_once : {x y : Vote X} → In x (v ∷ log) → In y (v ∷ log) → x.epoch ≡ y.epoch → x.name ≡ y.name
        cast_once (Memᴰ.head d) (Memᴰ.head e) h = cc
        cast_once (Memᴰ.head d) (Memᴰ.tail m) h = absurd (omega (arith, cast-epoch d, s.last m))
        cast_once (Memᴰ.tail m) (Memᴰ.head e) h = absurd (omega (arith, cast-epoch e, s.last m))
        cast_once (Memᴰ.tail l) (Memᴰ.tail m) h = s.once l m h

        cast_monotone : {x y : Vote X} → In x (v ∷ log) → In y (v ∷ log) → x.epoch + k < y.epoch → x.parent_epoch ≤ y.parent_epoch
        cast_monotone (Memᴰ.head d) (Memᴰ.head e) h = absurd (omega (arith, cast-epoch d, cast-epoch e))
        cast_monotone (Memᴰ.head d) (Memᴰ.tail m) h = absurd (omega (arith, cast-epoch d, s.last m))
        cast_monotone (Memᴰ.tail m) (Memᴰ.head e) h =
            omega (arith, cast-parent e, s.barred m (omega (arith, cast-epoch e)))
        cast_monotone (Memᴰ.tail l) (Memᴰ.tail m) h = s.monotone l m h

        -- what holds of each vote of the log holds of it
        cast-last : {x : Vote X} → In x (v ∷ log) → x.epoch ≤ local
        cast-last (Memᴰ.head e) = omega (arith, cast-epoch e)
        cast-last (Memᴰ.tail m) = omega (arith, s.last m)

        cast_known : {x : Vote X} → In x (v ∷ log) → x.parent_epoch ≤ fresh
        cast_known (Memᴰ.head e) = omega (arith, cast-parent e)
        cast_known (Memᴰ.tail m) = s.known m

        cast_barred : {x : Vote X} → In x (v ∷ log) → x.epoch + k < local → x.parent_epoch ≤ bar
        cast_barred (Memᴰ.head e) h = absurd (omega (arith, cast-epoch e))
        cast_barred (Memᴰ.tail m) h = s.barred m h

        -- casting such a vote keeps it
        pub sane_cast : Sane k (v ∷ log) local bar local fresh
        sane_cast =
            record {
              once = cast_once;
              monotone = cast_monotone;
              last = cast-last;
              in_time = omega arith;
              known = cast_known;
              barred = cast_barred;
            }
