-- The function makes code that is that of the expression.
use Rattle.std.specs.Prelude.{ℕ, Bool, List}
use Rattle.core_ir.specs.Programs.{Group}
use Rattle.core_ir.specs.Expressions.{Body}
use Rattle.typed_tree.specs.Language.{Exp, Functions}
use Rattle.elaboration.specs.Scopes.{Scope}
use Rattle.elaboration.specs.Elaboration.{elaborate, elaborate_functions}
use Rattle.elaboration_forms.specs.Elaborates.{HasGroups, Elaborates, ElaboratesFunctions, Stands, StandFunctions}

-- where the groups that it makes stand in the table
abbrev pub ExpressionsElaborate : Type 0
ExpressionsElaborate =
    (table : List (Group Body)) (shared : Bool) (s : Scope) (n : ℕ) (e : Exp) → Stands shared s e → HasGroups table n (elaborate s n e).groups → Elaborates table shared s e (elaborate s n e).exp

abbrev pub FunctionsElaborate : Type 0
FunctionsElaborate =
    (table : List (Group Body)) (s : Scope) (n : ℕ) (fns : Functions) → StandFunctions s fns → HasGroups table n (elaborate_functions s n fns).groups
    → ElaboratesFunctions table s fns (elaborate_functions s n fns).bodies
