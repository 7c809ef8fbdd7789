-- "A two-byte head gives n (1 to 8) and the set of honest nodes, lowest bit for node 0".
use Rattle.std.specs.Prelude.{ℕ, ◌/◌, ◌%◌, ◌^◌, Bool, false, not, ◌&&◌, ◌||◌, List, [], ◌∷◌, map, eqb, ltb, leb, get_or, replicate}
use Rattle.table.specs.declared.Answer.{Answer}
use Rattle.table.specs.declared.State.{State}
use Rattle.table.specs.Scan.{pick, all_below}
use Rattle.table.specs.Rows.{all_zero}
use Rattle.pala.specs.Shape.{well_shaped}
use Rattle.pala.specs.Step.{start}
use Rattle.accord.specs.declared.Hall.{Hall}

-- "up to eight gateways", and their numbers
abbrev pub most_gateways : ℕ
most_gateways = 8

abbrev pub gateways : List ℕ
gateways = 0 ∷ 1 ∷ 2 ∷ 3 ∷ 4 ∷ 5 ∷ 6 ∷ 7 ∷ []

-- "gives n (1 to 8)"
abbrev pub nodes_of : List ℕ → ℕ
nodes_of bytes = get_or bytes 0 0

-- "and the set of honest nodes, lowest bit for node 0": is node i in the set
unfoldable pub in_set : List ℕ → ℕ → Bool
in_set bytes i = eqb (get_or bytes 1 0 / 2 ^ i % 2) 1

-- "a head with another n, with a bit at or above n, or cut short" isn't a good one
unfoldable pub good_head : List ℕ → Bool
unfolding all_below in_set
good_head [] = false
good_head (n ∷ []) = false
good_head (n ∷ set ∷ more) = leb 1 n && leb n most_gateways && all_below most_gateways (λ i. ltb i n || not (in_set (n ∷ set ∷ more) i))

-- a hall of gateways started fresh, each under its own number
unfoldable pub fresh_hall : List ℕ → Hall
unfolding start in_set
fresh_hall bytes =
    record {
      states = map (λ i. (start (nodes_of bytes) i).state) gateways;
      honest = map (in_set bytes) gateways;
      n = nodes_of bytes;
    }

-- the hall of a refused head, which every later call refuses with 1
unfoldable pub no_hall : Hall
unfolding all_zero
no_hall = record { states = replicate most_gateways all_zero; honest = replicate most_gateways false; n = 0 }

-- what a head hands back: "15 a head with another n, .., and nothing is played"
pub record Opened : Type 0 where
  pub answer : Answer
  pub hall : Hall

unfoldable pub opened : List ℕ → Opened
unfolding pick good_head fresh_hall no_hall
opened bytes =
    record {
      answer = pick (good_head bytes) Answer.Taken Answer.Setup;
      hall = pick (good_head bytes) (fresh_hall bytes) no_hall;
    }

-- the state of a gateway, and whether it is honest
unfoldable pub gateway : Hall → ℕ → State
unfolding all_zero
gateway h i = get_or h.states i all_zero

unfoldable pub honest_in : Hall → ℕ → Bool
honest_in h i = get_or h.honest i false

-- a hall is well shaped when n is 1 to 8, no number at or above n is honest and every gateway's state is well shaped
unfoldable pub hall_shaped : Hall → Bool
unfolding all_below honest_in well_shaped gateway
hall_shaped h =
    leb 1 h.n
    && leb h.n most_gateways
    && all_below most_gateways (λ i. ltb i h.n || not (honest_in h i))
    && all_below h.n (λ i. well_shaped (gateway h i))
