-- The content of the record beside what the honest tables hold of its name. Assumes nothing.
use Prim.Native.Nat.{ℕ}
use Rattle.accord.specs.Head.{honest_in, most_gateways}
use Rattle.accord.specs.Rulings.{Content, otherwise, table_of}
use Rattle.hall.proofs.Judged.{clash_adds, clash_other}
use Rattle.hall.proofs.Named.{any_range}
use Rattle.std.proofs.Common.{rules, ◌≡◌, ◌∙◌, ◌&&◌, Bool, refl}
use Rattle.std.specs.List.{list_any, range_with_len}
use Rattle.std.proofs.lemmas.Iterator.{YieldsList-from_range}
use Rattle.std.proofs.lemmas.Iterator.Search.{any_from_yields_List}
use Rattle.hall.proofs.judging.clash.Goals as goal

pub returns-in_default : goal.returns-in_default
returns-in_default c r e = clash_other c.args.f.now r e c.args.h.now c.args.s.now (c.in_default.ensures r e)

pub returns : goal.returns
returns c r e =
    let a = c.args in
    let h = a.h.now in
    let d = c.in-Some.ensures r e in
    let it : Content = record { epoch = c.in-Some.c.epoch.0; parent = c.in-Some.c.parent.now; payload = c.in-Some.c.payload.now } in
    let ok : ℕ → Bool = λ i. honest_in h i && otherwise (table_of h i) a.f.now.name it in
    let any : c.any.result ≡ list_any ok (range_with_len 0 most_gateways) =
    any_from_yields_List ok _ _ _ c.any.ensures.ran (YieldsList-from_range 0 most_gateways _ refl refl) (λ x b q k. search rules) in
    any ∙ any_range most_gateways ok ∙ clash_adds a.f.now r e h a.s.now d.0 d.1
