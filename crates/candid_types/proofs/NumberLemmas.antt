-- The types of numbers.
use Rattle.std.proofs.Common.{◌≡◌, ℕ, ◌+◌, ◌-◌, ◌≤◌, refl, ap, ◌∙◌, arith}
use Rattle.std.proofs.lemmas.Option.{slice_get_past}
use Rattle.mo_types.specs.declared.node.TypeId.{TypeId}
use Rattle.mo_types.specs.declared.wire.Plain.{Plain}
use Rattle.mo_types.specs.declared.wire.Plain.TheVariants as plain
use Rattle.mo_types.specs.declared.wire.Ref.TheVariants.{Of, Just}
use Rattle.candid_types.specs.Shapes.{plains, plain_number, ref_by, ref_of}

pub ref_of_plain : (p : Plain) → ref_of (plain_number p) ≡ Just p
unfolding ref_of
ref_of_plain plain.Empty = refl
ref_of_plain plain.Null = refl
ref_of_plain plain.Bool = refl
ref_of_plain plain.Nat = refl
ref_of_plain plain.Int = refl
ref_of_plain plain.Nat8 = refl
ref_of_plain plain.Nat16 = refl
ref_of_plain plain.Nat32 = refl
ref_of_plain plain.Nat64 = refl
ref_of_plain plain.Int8 = refl
ref_of_plain plain.Int16 = refl
ref_of_plain plain.Int32 = refl
ref_of_plain plain.Int64 = refl
ref_of_plain plain.Float32 = refl
ref_of_plain plain.Float64 = refl
ref_of_plain plain.Text = refl
ref_of_plain plain.Reserved = refl
ref_of_plain plain.Principal = refl

pub ref_of_past : (n : ℕ) → 18 ≤ n → ref_of n ≡ Of (record { index = n - 18 })
unfolding ref_of
ref_of_past n h = ap (λ o. ref_by o n) (slice_get_past plains n h)

pub ref_of_id : (id : TypeId) → ref_of (18 + id.index) ≡ Of id
ref_of_id id = let e : 18 + id.index - 18 ≡ id.index = omega arith in ref_of_past (18 + id.index) (omega arith) ∙ ap (λ i. Of (record { index = i })) e
