-- What is answered.
use Rattle.type_terms.specs.declared.form.Form.{Form}
use Rattle.type_terms.specs.declared.form.TermId.{TermId}
use Rattle.typing_rules.specs.Heads.{head}
use Rattle.type_definitions.specs.Meanings.{term}
use Rattle.type_definitions.specs.Tables.{Later}
use Rattle.type_definitions.specs.Definitions.{rules_in}
use Rattle.met_types.specs.States.{State, IsSo}
use Rattle.shareable_types.specs.declared.sharing.Sharing.{Sharing}
use Rattle.shareable_types.specs.Shared.{IsAs}
use Rattle.shareable_types.specs.Settled.{Knows, Settled}
use Rattle.std.specs.Prelude.{Bool, List}

-- what is known is so of the types of this state
pub record Stands (s : State) (a : Sharing) : Type 0 where
  pub settled : Settled a.any s.listed a.needed.items s.forms
  pub knows : Knows a.any s.listed a.needed.items s.forms a.known.items

-- whether it is so of the type, as it stands in each later table
abbrev pub IsAnswer : Bool → State → TermId → Bool → Type 0
IsAnswer any s id is = (later : List Form) → Later s.forms later → IsSo is (IsAs any (head (rules_in later s.listed)) (term later id))
