-- What bindings add to the names around, and which of the names around they name.
use Rattle.std.specs.Prelude.{ℕ, suc, ◌+◌, List, [], ◌∷◌, ◌++◌}
use Rattle.core_ir.specs.Choices.{nth}
use Rattle.core_ir.specs.declared.expression.Binding.{Binding, out-Binding}
use Rattle.core_ir.specs.declared.expression.Binding.TheOpen as E
use Rattle.core_ir.specs.declared.expression.Expression.{Expression}
use Rattle.core_ir.specs.declared.expression.Goal.{Goal}
use Rattle.core_ir.specs.Outward.{all_beyond, outward}
use Rattle.core_ir.specs.View.{expression}

abbrev pub OneBinding : Type 0
OneBinding = E.Binding-F Binding Expression Goal

module _ (sizes : ℕ → ℕ) where
  -- the nearest names behind a binding, of so many before it
  abbrev pub near_behind : ℕ → OneBinding → ℕ
  near_behind n (E.Value e) = suc n
  near_behind n (E.Functions k) = sizes k + n

  abbrev pub end_of : ℕ → List Binding → ℕ
  end_of n [] = n
  end_of n (b ∷ bs) = end_of (near_behind n (out-Binding b)) bs

  module _ (needs : List (List ℕ)) where
    -- what is named where functions are made, which comes before all that stands behind the binding
    abbrev pub made_by : ℕ → OneBinding → List ℕ
    made_by n (E.Value e) = []
    made_by n (E.Functions k) = all_beyond n (nth [] needs k)

    abbrev pub made_in : ℕ → List Binding → List ℕ
    made_in n [] = []
    made_in n (b ∷ bs) = made_by n (out-Binding b) ++ made_in (near_behind n (out-Binding b)) bs

    -- what is named in the value, which comes behind all that
    abbrev pub given_by : ℕ → OneBinding → List ℕ
    given_by n (E.Value e) = outward sizes needs n (expression e)
    given_by n (E.Functions k) = []

    abbrev pub given_in : ℕ → List Binding → List ℕ
    given_in n [] = []
    given_in n (b ∷ bs) = given_in (near_behind n (out-Binding b)) bs ++ given_by n (out-Binding b)
