-- What is called, and what a call gives, in each later table.
use Rattle.std.specs.Prelude.{◌≡◌, List, [], ◌∷◌, Option, Some, None, IfSome, map, option_map}
use Rattle.mo_types.specs.declared.node.Sort.{Sort}
use Rattle.mo_types.specs.Heads.{func_of}
use Rattle.mo_types.specs.Sub.{Each}
use Rattle.type_terms.specs.declared.form.Form.{Form}
use Rattle.type_terms.specs.declared.form.TermId.{TermId}
use Rattle.typing_rules.specs.Calls.{called}
use Rattle.typing_rules.specs.Heads.{members_head, result}
use Rattle.typing_rules.specs.Terms.{Term}
use Rattle.typing_rules.specs.Terms as t
use Rattle.type_definitions.specs.Definitions.{rules_in}
use Rattle.type_definitions.specs.Meanings.{term}
use Rattle.type_definitions.specs.Tables.{Later, Within}
use Rattle.met_types.specs.States.{State, Goes, Kept, Stands}
use Rattle.application_rules.specs.declared.functions.Function.{Function}

abbrev pub seen_function : Function → Sort × List TermId × List TermId
seen_function f = (f.sort, f.parameters, f.results)

abbrev pub function_in : List Form → Function → Sort × List Term × List Term
function_in later f = (f.sort, map (term later) f.parameters, map (term later) f.results)

-- the types of the parameters and results stand in the table
pub record Standing (forms : List Form) (f : Function) : Type 0 where
  pub parameters : Each (Within forms) f.parameters
  pub results : Each (Within forms) f.results

-- A function was found, if it is one. Terms may have been added to the table.
pub record FindsFunction (old : State) (id : TermId) (o : Option Function) (new : State) : Type 0 where
  pub kept : Kept new
  pub goes : Goes old new
  pub stands : (met : List Term) → Stands met old → Stands met new
  pub within : IfSome o (Standing new.forms)
  pub is : (later : List Form) → Later new.forms later → func_of (members_head (rules_in later new.listed) (term later id)) ≡ option_map (function_in later) o

abbrev pub only : List TermId → Option TermId
only (id ∷ []) = Some id
only _ = None

abbrev pub IsResult : List TermId → TermId → List Form → Type 0
IsResult ids made later = term later made ≡ result (map (term later) ids)

abbrev pub IsFutureOf : TermId → TermId → List Form → Type 0
IsFutureOf id made later = term later made ≡ t.Async (term later id)

abbrev pub IsCalled : Sort → List TermId → TermId → List Form → Type 0
IsCalled s ids made later = term later made ≡ called s (map (term later) ids)
