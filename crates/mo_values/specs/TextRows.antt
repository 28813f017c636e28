-- Texts, characters and truth values: Motoko language manual, sections "Relational operators", "Binary operators",
-- "Assert"; base library, `Debug` and `Text`.
use Rattle.std.specs.Prelude.{ℕ, List, [], ◌∷◌, ◌++◌, Bool, true, false, codes}
use Rattle.mo_types.specs.declared.datum.Datum.TheVariants as part
use Rattle.mo_values.specs.declared.operation.Comparison.{Comparison}
use Rattle.mo_values.specs.declared.operation.Comparison.TheVariants.{Less, LessOrEqual, Greater, GreaterOrEqual}
use Rattle.mo_values.specs.declared.operation.Operation.TheVariants as op
use Rattle.mo_values.specs.declared.operation.Scalar.TheVariants as scalar
use Rattle.mo_values.specs.Rows.{Row, none, one, two, nat, char, text, yes, no}
use Rattle.mo_values.specs.Shapes.{Bytes, Shape, leaf, unit}
use Rattle.mo_values.specs.Views.{Answer, Gives, Traps, Stuck}

abbrev pub flag : Bool → Shape ℕ
flag b = leaf (part.Flag b)

abbrev pub blob : Bytes → Shape ℕ
blob bytes = leaf (part.Blob bytes)

abbrev pub texts : Comparison → Bytes → Bytes → Answer ℕ → Row
texts c t u answer = two (op.Compare c scalar.Text) (text t) (text u) answer

abbrev pub letters : Comparison → ℕ → ℕ → Answer ℕ → Row
letters c a b answer = two (op.Compare c scalar.Char) (char a) (char b) answer

-- in UTF-8: the scalar values FFFF and 10000, a grinning face, and the letters ä and ö
abbrev pub last_of_three : Bytes
last_of_three = 239 ∷ 191 ∷ 191 ∷ []

abbrev pub first_of_four : Bytes
first_of_four = 240 ∷ 144 ∷ 128 ∷ 128 ∷ []

abbrev pub face : Bytes
face = 240 ∷ 159 ∷ 152 ∷ 128 ∷ []

abbrev pub umlauts : Bytes
umlauts = 195 ∷ 164 ∷ 195 ∷ 182 ∷ []

abbrev pub text_orders : List Row
text_orders =
    texts Less (codes "a") (codes "b") yes
    ∷ texts Less (codes "a") (codes "ab") yes
    ∷ texts Less [] (codes "a") yes
    ∷ texts Less (codes "Z") (codes "a") yes
    ∷ texts Less last_of_three first_of_four yes
    ∷ texts Greater last_of_three first_of_four no
    ∷ texts GreaterOrEqual (codes "abc") (codes "abc") yes
    ∷ texts LessOrEqual (codes "abc") (codes "abc") yes
    ∷ texts Greater (codes "b") (codes "abc") yes
    ∷ letters Less 97 98 yes
    ∷ letters Less 65535 65536 yes
    ∷ letters GreaterOrEqual 97 98 no
    -- neither a surrogate nor a lone byte is a value
    ∷ letters Less 55296 98 Stuck
    ∷ texts Less (255 ∷ []) (codes "a") Stuck
    -- truth values have no order
    ∷ two (op.Compare Less scalar.Bool) (flag false) (flag true) Stuck
    ∷ two (op.Same scalar.Text) (text (codes "two")) (text (codes "two")) yes
    ∷ two (op.Same scalar.Text) (text []) (text (codes "two")) no
    ∷ two (op.Same scalar.Char) (char 120) (char 121) no
    ∷ two (op.Same scalar.Bool) (flag false) (flag false) yes
    ∷ two (op.Same scalar.Blob) (blob (255 ∷ [])) (blob (255 ∷ [])) yes
    ∷ two (op.Same scalar.Text) (text (codes "a")) (blob (codes "a")) Stuck
    ∷ []

abbrev pub lengths : List Row
lengths =
    one op.TextSize (text []) (Gives (nat 0))
    ∷ one op.TextSize (text (codes "abc")) (Gives (nat 3))
    ∷ one op.TextSize (text umlauts) (Gives (nat 2))
    ∷ one op.TextSize (text (face ++ codes "x")) (Gives (nat 2))
    ∷ one op.TextSize (text (195 ∷ [])) Stuck
    ∷ two op.Concat (text (codes "a")) (text (codes "b")) (Gives (text (codes "ab")))
    ∷ two op.Concat (text (97 ∷ 195 ∷ 164 ∷ [])) (text (codes "!")) (Gives (text (97 ∷ 195 ∷ 164 ∷ 33 ∷ [])))
    ∷ two op.Concat (text []) (text []) (Gives (text []))
    ∷ two op.Concat (text (codes "a")) (nat 1) Stuck
    ∷ []

abbrev pub assertions : List Row
assertions =
    one op.Not (flag true) no
    ∷ one op.Not (flag false) yes
    ∷ one op.Not (nat 0) Stuck
    ∷ one op.Assert (flag true) (Gives unit)
    ∷ one op.Assert (flag false) (Traps (codes "assertion failed"))
    ∷ one op.Trap (text (codes "why")) (Traps (codes "why"))
    ∷ one op.Trap (text []) (Traps [])
    ∷ none (op.Fail (codes "pattern failed")) (Traps (codes "pattern failed"))
    ∷ []
