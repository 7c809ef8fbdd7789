-- 01, "What a taken record does": "Then, always in this order". Steps 1 and 2 are `firm` and `freshest`.
use Rattle.std.specs.Prelude.{ℕ, ◌+◌, max, Bool, not, ◌||◌, ltb}
use Rattle.table.specs.declared.State.{State}
use Rattle.table.specs.Scan.{pick}
use Rattle.table.specs.Rows.{rows}
use Rattle.pala.specs.Rules.{epoch_at, freshest, agreed, candidate, descends}

-- the epoch of the freshest block
unfoldable pub fresh_epoch : State → ℕ
unfolding epoch_at rows freshest
fresh_epoch s = epoch_at (rows s) (freshest s.n (rows s))

-- "3. New local epoch: the greatest of the old one, the freshest epoch + 1, and" (M-100) the agreed clock
unfoldable pub new_local : State → ℕ
unfolding fresh_epoch agreed
new_local s = max (max s.local.0 (fresh_epoch s + 1)) (agreed s.n s.clocks)

-- "4. If it rose, the bar becomes the freshest block's epoch."
unfoldable pub new_bar : State → ℕ
unfolding pick new_local fresh_epoch
new_bar s = pick (ltb s.local.0 (new_local s)) (fresh_epoch s) s.bar.0

-- "5. .. If the candidate is the kept final block or descends from it, it is kept instead."
unfoldable pub forward : State → Bool
unfolding descends rows candidate
forward s = descends (rows s) (candidate s.n (rows s)) s.kept.0

unfoldable pub new_kept : State → ℕ
unfolding pick forward candidate rows
new_kept s = pick (forward s) (candidate s.n (rows s)) s.kept.0

-- "If the kept one descends from the candidate, it stays. Otherwise it stays and the state is torn"
unfoldable pub new_torn : State → Bool
unfolding forward descends rows candidate
new_torn s = s.torn || not (forward s || descends (rows s) s.kept.0 (candidate s.n (rows s)))

-- the state after the five steps
unfoldable pub settled : State → State
unfolding new_local new_bar new_kept new_torn
settled s =
    record {
      blocks = s.blocks;
      clocks = s.clocks;
      n = s.n;
      own = s.own;
      local = record { 0 = new_local s };
      bar = record { 0 = new_bar s };
      voted = s.voted;
      proposed = s.proposed;
      count = s.count;
      kept = record { 0 = new_kept s };
      torn = new_torn s;
    }
