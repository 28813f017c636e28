-- Arithmetic that wraps, and the order of scalars: Motoko language manual, sections "Binary operators" and
-- "Relational operators".
use Rattle.std.specs.Prelude.{Bool, true, false, not, Option, Some, None, ℤ, pos, ◌+ℤ◌, ◌-ℤ◌, ◌*ℤ◌, int_lt, nat_lt}
use Rattle.std.specs.Int.{int_rem_euclid}
use Rattle.mo_num.specs.declared.kind.Kind.{Kind}
use Rattle.mo_num.specs.declared.kind.Kind.TheVariants as kind
use Rattle.mo_num.specs.Kinds.{least, modulus}
use Rattle.mo_types.specs.declared.datum.Datum.{Datum}
use Rattle.mo_types.specs.declared.datum.Datum.TheVariants as part
use Rattle.mo_types.specs.Wire.{name_before}
use Rattle.mo_values.specs.declared.operation.Comparison.{Comparison}
use Rattle.mo_values.specs.declared.operation.Comparison.TheVariants as comparison
use Rattle.mo_values.specs.declared.operation.Wrapping.{Wrapping}
use Rattle.mo_values.specs.declared.operation.Wrapping.TheVariants as wrapping

-- the kind has a width in bits
abbrev pub has_width : Kind → Bool
has_width kind.Nat = false
has_width kind.Int = false
has_width _ = true

abbrev pub exact : Wrapping → ℤ → ℤ → ℤ
exact wrapping.AddWrap a b = a +ℤ b
exact wrapping.SubWrap a b = a -ℤ b
exact wrapping.MulWrap a b = a *ℤ b

-- the value of the kind that differs from the number by whole turns of the kind's width
abbrev pub wrapped : Kind → ℤ → ℤ
wrapped kind n = least kind +ℤ int_rem_euclid (n -ℤ least kind) (pos (modulus kind))

-- Whether the one comes first, of two numbers, characters or texts. The order of texts is that of their bytes, which in
-- UTF-8 is the order of scalar values.
abbrev pub before : Datum → Datum → Option Bool
before (part.Number a) (part.Number b) = Some (int_lt a b)
before (part.Char a) (part.Char b) = Some (nat_lt a b)
before (part.Text a) (part.Text b) = Some (name_before a b)
before _ _ = None

-- by whether the first comes before the second, and the second before the first
abbrev pub compared : Comparison → Bool → Bool → Bool
compared comparison.Less first second = first
compared comparison.LessOrEqual first second = not second
compared comparison.Greater first second = second
compared comparison.GreaterOrEqual first second = not first
