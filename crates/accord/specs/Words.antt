-- "yes or no: whether of any two honest final lists one begins the other".
use Rattle.std.specs.Prelude.{ℕ, Bool, not, ◌&&◌, ◌||◌, List, length, take}
use Rattle.table.specs.Scan.{all_below}
use Rattle.table.specs.Bytes.{same}
use Rattle.pala.specs.Lists.{joined, final_names}
use Rattle.accord.specs.declared.Hall.{Hall}
use Rattle.accord.specs.Head.{most_gateways, gateway, honest_in}

-- the final list of a gateway, name after name
unfoldable pub list_of : Hall → ℕ → List ℕ
unfolding joined final_names gateway
list_of h i = joined (final_names (gateway h i))

-- the first list begins the second
unfoldable pub begins : List ℕ → List ℕ → Bool
unfolding same
begins a b = same a (take (length a) b)

-- "one begins the other"
unfoldable pub one_begins : List ℕ → List ℕ → Bool
unfolding begins
one_begins a b = begins a b || begins b a

-- "of any two honest final lists"
unfoldable pub agree : Hall → Bool
unfolding all_below honest_in one_begins list_of
agree h =
    all_below most_gateways
    (λ i. all_below i (λ j. not (honest_in h i && honest_in h j) || one_begins (list_of h i) (list_of h j)))
