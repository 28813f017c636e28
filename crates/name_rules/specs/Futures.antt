-- Types of futures.
use Rattle.std.specs.Prelude.{◌≡◌, Bool, List, is_some}
use Rattle.mo_types.specs.Heads.{async_of}
use Rattle.type_terms.specs.declared.form.Form.{Form}
use Rattle.type_terms.specs.declared.form.TermId.{TermId}
use Rattle.typing_rules.specs.Heads.{head}
use Rattle.type_definitions.specs.Meanings.{term}
use Rattle.type_definitions.specs.Tables.{Later}
use Rattle.type_definitions.specs.Definitions.{rules_in}
use Rattle.met_types.specs.States.{State}

-- whether it is the type of a future
abbrev pub IsFuture : State → TermId → Bool → Type 0
IsFuture s id is = (later : List Form) → Later s.forms later → is_some (async_of (head (rules_in later s.listed) (term later id))) ≡ is
