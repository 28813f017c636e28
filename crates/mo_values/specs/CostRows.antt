-- Costs of some rows: the weight, and the levels that are compared.
use Rattle.std.specs.Prelude.{List, [], ◌∷◌, codes}
use Rattle.mo_num.specs.declared.kind.Kind.TheVariants as kind
use Rattle.mo_num.specs.declared.operator.Operator.TheVariants as operator
use Rattle.mo_values.specs.declared.operation.Comparison.TheVariants as comparison
use Rattle.mo_values.specs.declared.operation.Operation.TheVariants as op
use Rattle.mo_values.specs.declared.operation.Scalar.TheVariants as scalar
use Rattle.mo_values.specs.Costs.{Cost, weighing}
use Rattle.mo_values.specs.EqualityRows.{at, here}
use Rattle.mo_values.specs.Rows.{Row, none, one, two, many, nat, text, array, yes, place}
use Rattle.mo_values.specs.Views.{Gives, Traps}

abbrev pub cost_rows : List Row
cost_rows =
    two (op.Arithmetic operator.Add kind.Nat) (nat 1) (nat 2) (Gives (nat 3))
    ∷ two (op.Arithmetic operator.Div kind.Nat) (nat 7) (nat 2) (Gives (nat 3))
    ∷ two (op.Arithmetic operator.Rem kind.Nat) (nat 7) (nat 2) (Gives (nat 1))
    ∷ two (op.Arithmetic operator.Pow kind.Nat) (nat 2) (nat 3) (Gives (nat 8))
    ∷ two (op.Compare comparison.Less (scalar.Number kind.Nat)) (nat 1) (nat 2) yes
    -- two texts of 2 and 3 bytes
    ∷ two (op.Compare comparison.Less scalar.Text) (text (codes "ab")) (text (codes "abc")) yes
    -- a text of 5 bytes is made
    ∷ two op.Concat (text (codes "ab")) (text (codes "abc")) (Gives (text (codes "ababc")))
    ∷ one (op.ToText kind.Nat) (nat 100) (Gives (text (codes "100")))
    -- three parts are put into an array
    ∷ many op.MakeArray (nat 1 ∷ nat 2 ∷ nat 3 ∷ []) (Gives (array (nat 1 ∷ nat 2 ∷ nat 3 ∷ [])))
    -- two objects of 4 parts and 1 byte, in which 3 levels lie
    ∷ two (op.Equal place) (here (at 1)) (here (at 1)) yes
    ∷ none (op.Fail (codes "abc")) (Traps (codes "abc"))
    ∷ []

abbrev pub wanted_costs : List Cost
wanted_costs =
    weighing 1
    ∷ weighing 8
    ∷ weighing 8
    ∷ weighing 32
    ∷ weighing 1
    ∷ weighing 8
    ∷ weighing 7
    ∷ weighing 5
    ∷ weighing 5
    ∷ record { weight = 11; levels = 3 }
    ∷ weighing 4
    ∷ []
