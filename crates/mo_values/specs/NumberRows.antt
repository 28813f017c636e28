-- Numbers: Motoko language manual, sections "Binary operators", "Unary operators", "Relational operators".
use Rattle.std.specs.Prelude.{ℕ, List, [], ◌∷◌, codes}
use Rattle.mo_num.specs.declared.kind.Kind.{Kind}
use Rattle.mo_num.specs.declared.kind.Kind.TheVariants.{Nat, Int, Nat8, Nat16, Nat32, Nat64, Int8, Int16, Int32, Int64}
use Rattle.mo_num.specs.declared.operator.Operator.{Operator}
use Rattle.mo_num.specs.declared.operator.Operator.TheVariants.{Add, Sub, Mul, Div, Rem, Pow}
use Rattle.mo_values.specs.declared.operation.Comparison.{Comparison}
use Rattle.mo_values.specs.declared.operation.Comparison.TheVariants.{Less, LessOrEqual, Greater, GreaterOrEqual}
use Rattle.mo_values.specs.declared.operation.Operation.TheVariants as op
use Rattle.mo_values.specs.declared.operation.Scalar.TheVariants as scalar
use Rattle.mo_values.specs.declared.operation.Wrapping.{Wrapping}
use Rattle.mo_values.specs.declared.operation.Wrapping.TheVariants.{AddWrap, SubWrap, MulWrap}
use Rattle.mo_values.specs.Rows.{Row, one, two, nat, minus, yes, no, overflows, text}
use Rattle.mo_values.specs.Shapes.{Shape}
use Rattle.mo_values.specs.Views.{Answer, Gives, Traps, Stuck}

abbrev pub on : Kind → Operator → Shape ℕ → Shape ℕ → Answer ℕ → Row
on k o v w answer = two (op.Arithmetic o k) v w answer

abbrev pub wraps : Kind → Wrapping → Shape ℕ → Shape ℕ → Answer ℕ → Row
wraps k o v w answer = two (op.Wrap o k) v w answer

abbrev pub compares : Kind → Comparison → Shape ℕ → Shape ℕ → Answer ℕ → Row
compares k c v w answer = two (op.Compare c (scalar.Number k)) v w answer

abbrev pub underflows : Answer ℕ
underflows = Traps (codes "natural subtraction underflow")

abbrev pub divides_by_zero : Answer ℕ
divides_by_zero = Traps (codes "divide by zero")

-- a quotient is rounded toward zero, and a remainder has the sign of the dividend
abbrev pub quotients : List Row
quotients =
    on Int Div (nat 7) (nat 2) (Gives (nat 3))
    ∷ on Int Div (minus 7) (nat 2) (Gives (minus 3))
    ∷ on Int Div (nat 7) (minus 2) (Gives (minus 3))
    ∷ on Int Div (minus 7) (minus 2) (Gives (nat 3))
    ∷ on Int Rem (nat 7) (nat 2) (Gives (nat 1))
    ∷ on Int Rem (minus 7) (nat 2) (Gives (minus 1))
    ∷ on Int Rem (nat 7) (minus 2) (Gives (nat 1))
    ∷ on Int Rem (minus 7) (minus 2) (Gives (minus 1))
    ∷ on Nat Div (nat 0) (nat 5) (Gives (nat 0))
    ∷ on Nat Rem (nat 0) (nat 5) (Gives (nat 0))
    ∷ on Nat Div (nat 1) (nat 0) divides_by_zero
    ∷ on Nat Rem (nat 1) (nat 0) divides_by_zero
    ∷ on Int8 Div (nat 1) (nat 0) divides_by_zero
    ∷ on Nat8 Div (nat 255) (nat 7) (Gives (nat 36))
    ∷ on Nat8 Rem (nat 255) (nat 7) (Gives (nat 3))
    ∷ on Int8 Div (minus 128) (nat 3) (Gives (minus 42))
    ∷ on Int8 Rem (minus 128) (nat 3) (Gives (minus 2))
    ∷ on Int8 Rem (minus 128) (minus 1) (Gives (nat 0))
    ∷ on Int8 Div (minus 128) (minus 1) overflows
    ∷ on Nat64 Div (nat 18446744073709551615) (nat 2) (Gives (nat 9223372036854775807))
    ∷ on Nat64 Div (nat 18446744073709551615) (nat 7) (Gives (nat 2635249153387078802))
    ∷ on Int64 Div (minus 9223372036854775808) (minus 1) overflows
    ∷ []

abbrev pub powers : List Row
powers =
    on Nat Pow (nat 2) (nat 10) (Gives (nat 1024))
    ∷ on Nat Pow (nat 0) (nat 0) (Gives (nat 1))
    ∷ on Nat Pow (nat 5) (nat 0) (Gives (nat 1))
    ∷ on Nat Pow (nat 0) (nat 7) (Gives (nat 0))
    ∷ on Nat Pow (nat 3) (nat 39) (Gives (nat 4052555153018976267))
    ∷ on Nat Pow (nat 2) (nat 62) (Gives (nat 4611686018427387904))
    ∷ on Nat Pow (nat 2) (nat 63) overflows
    ∷ on Nat Pow (nat 10) (nat 18) (Gives (nat 1000000000000000000))
    ∷ on Nat Pow (nat 10) (nat 19) overflows
    ∷ on Int Pow (minus 1) (nat 3) (Gives (minus 1))
    ∷ on Int Pow (minus 2) (nat 2) (Gives (nat 4))
    ∷ on Int Pow (nat 2) (minus 1) overflows
    ∷ on Nat8 Pow (nat 2) (nat 7) (Gives (nat 128))
    ∷ on Nat8 Pow (nat 2) (nat 8) overflows
    ∷ on Int8 Pow (minus 2) (nat 7) (Gives (minus 128))
    ∷ on Int8 Pow (nat 2) (nat 7) overflows
    ∷ []

-- the ends of the range of each type
abbrev pub limits : List Row
limits =
    on Nat Add (nat 9223372036854775807) (nat 0) (Gives (nat 9223372036854775807))
    ∷ on Nat Add (nat 9223372036854775807) (nat 1) overflows
    ∷ on Nat Mul (nat 4294967296) (nat 2147483647) (Gives (nat 9223372032559808512))
    ∷ on Nat Mul (nat 4294967296) (nat 2147483648) overflows
    ∷ on Nat Sub (nat 0) (nat 1) underflows
    ∷ on Int Sub (nat 0) (nat 1) (Gives (minus 1))
    ∷ on Int Sub (minus 9223372036854775808) (nat 1) overflows
    ∷ on Int Add (minus 9223372036854775808) (nat 1) (Gives (minus 9223372036854775807))
    ∷ on Nat8 Add (nat 255) (nat 0) (Gives (nat 255))
    ∷ on Nat8 Add (nat 255) (nat 1) overflows
    ∷ on Nat8 Sub (nat 0) (nat 1) overflows
    ∷ on Nat8 Mul (nat 255) (nat 1) (Gives (nat 255))
    ∷ on Nat8 Mul (nat 255) (nat 2) overflows
    ∷ on Nat16 Add (nat 65535) (nat 1) overflows
    ∷ on Nat16 Sub (nat 65535) (nat 1) (Gives (nat 65534))
    ∷ on Nat32 Add (nat 4294967295) (nat 1) overflows
    ∷ on Nat32 Add (nat 4294967294) (nat 1) (Gives (nat 4294967295))
    ∷ on Nat64 Add (nat 18446744073709551615) (nat 0) (Gives (nat 18446744073709551615))
    ∷ on Nat64 Add (nat 18446744073709551615) (nat 1) overflows
    ∷ on Nat64 Sub (nat 0) (nat 1) overflows
    ∷ on Nat64 Mul (nat 18446744073709551615) (nat 2) overflows
    ∷ on Int8 Add (nat 127) (nat 1) overflows
    ∷ on Int8 Sub (minus 128) (nat 1) overflows
    ∷ on Int8 Mul (nat 127) (nat 2) overflows
    ∷ on Int16 Add (nat 32767) (nat 1) overflows
    ∷ on Int16 Sub (minus 32767) (nat 1) (Gives (minus 32768))
    ∷ on Int32 Add (nat 2147483647) (nat 1) overflows
    ∷ on Int32 Sub (minus 2147483648) (nat 1) overflows
    ∷ on Int64 Add (nat 9223372036854775807) (nat 1) overflows
    ∷ one (op.Negate Int) (nat 5) (Gives (minus 5))
    ∷ one (op.Negate Int) (minus 9223372036854775808) overflows
    ∷ one (op.Negate Int8) (minus 128) overflows
    ∷ one (op.Negate Int8) (nat 127) (Gives (minus 127))
    ∷ []

abbrev pub turns : List Row
turns =
    wraps Nat8 AddWrap (nat 255) (nat 1) (Gives (nat 0))
    ∷ wraps Nat8 SubWrap (nat 255) (nat 1) (Gives (nat 254))
    ∷ wraps Nat8 MulWrap (nat 255) (nat 1) (Gives (nat 255))
    ∷ wraps Nat8 SubWrap (nat 0) (nat 1) (Gives (nat 255))
    ∷ wraps Nat8 AddWrap (nat 255) (nat 255) (Gives (nat 254))
    ∷ wraps Nat8 MulWrap (nat 255) (nat 255) (Gives (nat 1))
    ∷ wraps Nat8 AddWrap (nat 200) (nat 100) (Gives (nat 44))
    ∷ wraps Nat16 AddWrap (nat 65535) (nat 1) (Gives (nat 0))
    ∷ wraps Nat32 SubWrap (nat 0) (nat 1) (Gives (nat 4294967295))
    ∷ wraps Nat64 AddWrap (nat 18446744073709551615) (nat 1) (Gives (nat 0))
    ∷ wraps Nat64 SubWrap (nat 0) (nat 1) (Gives (nat 18446744073709551615))
    ∷ wraps Nat64 MulWrap (nat 18446744073709551615) (nat 18446744073709551615) (Gives (nat 1))
    ∷ wraps Int8 AddWrap (nat 127) (nat 1) (Gives (minus 128))
    ∷ wraps Int8 SubWrap (nat 127) (nat 1) (Gives (nat 126))
    ∷ wraps Int8 AddWrap (minus 128) (nat 1) (Gives (minus 127))
    ∷ wraps Int8 SubWrap (minus 128) (nat 1) (Gives (nat 127))
    ∷ wraps Int8 MulWrap (minus 128) (nat 1) (Gives (minus 128))
    ∷ wraps Int8 AddWrap (nat 127) (nat 127) (Gives (minus 2))
    ∷ wraps Int8 MulWrap (nat 127) (nat 127) (Gives (nat 1))
    ∷ wraps Int16 AddWrap (nat 32767) (nat 1) (Gives (minus 32768))
    ∷ wraps Int32 AddWrap (nat 2147483647) (nat 1) (Gives (minus 2147483648))
    ∷ wraps Int64 SubWrap (minus 9223372036854775808) (nat 1) (Gives (nat 9223372036854775807))
    -- they stand on widths alone
    ∷ wraps Nat AddWrap (nat 1) (nat 1) Stuck
    ∷ wraps Int AddWrap (nat 1) (nat 1) Stuck
    ∷ []

abbrev pub orders : List Row
orders =
    compares Nat Less (nat 1) (nat 2) yes
    ∷ compares Nat LessOrEqual (nat 2) (nat 2) yes
    ∷ compares Nat Greater (nat 3) (nat 2) yes
    ∷ compares Nat GreaterOrEqual (nat 3) (nat 3) yes
    ∷ compares Nat Greater (nat 1) (nat 2) no
    ∷ compares Int Less (minus 1) (nat 0) yes
    ∷ compares Int8 Less (minus 1) (nat 0) yes
    ∷ compares Nat8 Greater (nat 255) (nat 254) yes
    ∷ compares Nat64 Greater (nat 18446744073709551615) (nat 1) yes
    ∷ two (op.Same (scalar.Number Nat8)) (nat 255) (nat 255) yes
    ∷ two (op.Same (scalar.Number Int)) (minus 1) (nat 1) no
    ∷ []

-- operands that are no values of the kind have no answer
abbrev pub strangers : List Row
strangers =
    on Nat Add (minus 1) (nat 1) Stuck
    ∷ on Nat8 Add (nat 1) (nat 256) Stuck
    ∷ on Int Add (nat 9223372036854775808) (nat 0) Stuck
    ∷ on Nat Add (nat 1) (text (codes "1")) Stuck
    ∷ compares Int8 Less (nat 128) (nat 0) Stuck
    ∷ two (op.Same (scalar.Number Nat)) (minus 1) (minus 1) Stuck
    ∷ one (op.Arithmetic Add Nat) (nat 1) Stuck
    ∷ []

-- the ends of the range of each type, in digits
abbrev pub digits : List Row
digits =
    one (op.ToText Nat) (nat 0) (Gives (text (codes "0")))
    ∷ one (op.ToText Nat) (nat 9223372036854775807) (Gives (text (codes "9223372036854775807")))
    ∷ one (op.ToText Int) (minus 9223372036854775808) (Gives (text (codes "-9223372036854775808")))
    ∷ one (op.ToText Int) (nat 10) (Gives (text (codes "10")))
    ∷ one (op.ToText Nat8) (nat 255) (Gives (text (codes "255")))
    ∷ one (op.ToText Nat16) (nat 65535) (Gives (text (codes "65535")))
    ∷ one (op.ToText Nat32) (nat 4294967295) (Gives (text (codes "4294967295")))
    ∷ one (op.ToText Nat64) (nat 18446744073709551615) (Gives (text (codes "18446744073709551615")))
    ∷ one (op.ToText Int8) (minus 128) (Gives (text (codes "-128")))
    ∷ one (op.ToText Int16) (minus 32768) (Gives (text (codes "-32768")))
    ∷ one (op.ToText Int32) (minus 2147483648) (Gives (text (codes "-2147483648")))
    ∷ one (op.ToText Int64) (minus 1) (Gives (text (codes "-1")))
    ∷ []
