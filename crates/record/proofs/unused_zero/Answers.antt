-- Row 5's test: each part in turn. Assumes nothing.
use Rattle.std.proofs.Common.{◌≡◌, ℕ, ◌-◌, take, drop, Bool, false, ◌&&◌, ◌||◌, List, [], ◌∷◌, Result, Ok, Err, MatchResult, sym, ap, ◌∙◌, arith}
use Rattle.table.specs.Bytes.{zeros}
use Rattle.pala.specs.Record.{kind_of, spare, epoch_field, name_of, parent_name_of, payload_of, unused_zero, known_kind, uses_epoch, uses_name, uses_parent, uses_payload}
use Rattle.record.proofs.Numbers.{kind_ok, kind_err}
use Rattle.table.specs.declared.Answer.{Answer}
use Rattle.record.specs.declared.kinds.Kind.{Kind}
use Rattle.record.specs.Numbers.{kind_in, kind_number}
use Rattle.record.proofs.unused_zero.Goals as goal

-- a number of no kind uses no field
none : (n : ℕ) → known_kind (n ∷ []) ≡ false → (uses_epoch (n ∷ []) ≡ false) × (uses_name (n ∷ []) ≡ false) × (uses_parent (n ∷ []) ≡ false) × (uses_payload (n ∷ []) ≡ false)
unfolding known_kind uses_epoch uses_name uses_parent uses_payload
none n h = (grind arith, grind arith, grind arith, grind arith)

-- whether a kind uses a field, where a number of no kind uses none
used : (uses : List ℕ → Bool) (n : ℕ) (r : Result Kind Answer) (t : Bool) → (known_kind (n ∷ []) ≡ false → uses (n ∷ []) ≡ false) → r ≡ kind_in n → MatchResult r (λ k. t ≡ uses (kind_number k ∷ [])) (λ e. t ≡ false) → t ≡ uses (n ∷ [])
used uses n (Ok k) t none h m = m ∙ ap (λ i. uses (i ∷ [])) (kind_ok n k h)
used uses n (Err e) t none h m = m ∙ sym (none (kind_err n e h).1)

-- a field fits where its kind uses it or it is zero
fit : (uses : List ℕ → Bool) (n k : ℕ) (r : Result Kind Answer) (u t : Bool) (field : List ℕ) → (known_kind (n ∷ []) ≡ false → uses (n ∷ []) ≡ false) → n ≡ k → r ≡ kind_in n → MatchResult r (λ x. u ≡ uses (kind_number x ∷ [])) (λ e. u ≡ false) → t ≡ (u || zeros field) → t ≡ (uses (k ∷ []) || zeros field)
fit uses n k r u t field unknown e h m w = w ∙ ap (λ (b : Bool). b || zeros field) (used uses n r u unknown h m ∙ ap (λ i. uses (i ∷ [])) e)

pub returns : goal.returns
unfolding unused_zero spare epoch_field name_of parent_name_of payload_of uses_epoch uses_name uses_parent uses_payload
returns c =
    let r = c.args.rec.now in
    let n = c.from.result in
    let k = c.from.ensures in
    let read = c.try_from-kind.ensures in
    let spare = c.zeros.ensures in
    let epoch = fit uses_epoch n (kind_of r) _ _ _ (epoch_field r) (λ h. (none n h).0) k read c.is_ok_and.ensures c.fits.ensures in
    let name = fit uses_name n (kind_of r) _ _ _ (name_of r) (λ h. (none n h).1) k read c.is_ok_and-2.ensures c.fits-2.ensures in
    let parent = fit uses_parent n (kind_of r) _ _ _ (parent_name_of r) (λ h. (none n h).2) k read c.is_ok_and-3.ensures c.fits-3.ensures in
    let payload = fit uses_payload n (kind_of r) _ _ _ (payload_of r) (λ h. (none n h).3) k read c.is_ok_and-4.ensures (c.fits-4.ensures ∙ ap (λ m. c.is_ok_and-4.result || zeros (take (m - 72) (drop 72 r))) c.requires) in
    λ i. spare i && epoch i && name i && parent i && payload i
