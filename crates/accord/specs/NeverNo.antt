-- "Prove that with fewer than a third faulty it never says no."
use Rattle.std.specs.Prelude.{ℕ, ◌<◌, ◌≡◌, true, List, ◌↔◌, drop}
use Rattle.pala.specs.Run.{cut}
use Rattle.pala.specs.Safety.{FewFaulty, OneBegins}
use Rattle.accord.specs.declared.Hall.{Hall}
use Rattle.accord.specs.Head.{most_gateways, nodes_of, in_set, good_head, fresh_hall, honest_in}
use Rattle.accord.specs.Words.{agree, list_of}
use Rattle.accord.specs.Text.{sent_bytes, lines_with, hall_text}

-- a good head whose faulty numbers are fewer than a third
pub record FewHead (bytes : List ℕ) : Type 0 where
  pub good : good_head bytes ≡ true
  pub few : FewFaulty (nodes_of bytes) (in_set bytes)

-- the text of such a recording is the one that says yes in every line, whatever its records are
abbrev pub NeverNo : Type 0
NeverNo = (bytes : List ℕ) → FewHead bytes → hall_text bytes ≡ lines_with (λ _. true) (fresh_hall bytes) 0 (cut sent_bytes (drop 2 bytes))

-- yes says of any hall that of any two honest final lists one begins the other
abbrev pub YesMeans : Type 0
YesMeans =
    (h : Hall)
    → (agree h ≡ true)
    ↔ ((i j : ℕ) → i < most_gateways → j < most_gateways → honest_in h i ≡ true → honest_in h j ≡ true → OneBegins (list_of h i) (list_of h j))
