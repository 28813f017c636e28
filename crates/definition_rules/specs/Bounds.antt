-- Bounds of type parameters, followed.
use Rattle.std.specs.Prelude.{◌≡◌, ℕ, Bool, List, Option, Some, None}
use Rattle.mo_types.specs.declared.node.Node.{Node}
use Rattle.mo_subtype.specs.Renamed.{on_node}
use Rattle.type_terms.specs.declared.form.Form.{Form}
use Rattle.type_terms.specs.declared.form.TermId.{TermId}
use Rattle.typing_rules.specs.Terms.{Term}
use Rattle.typing_rules.specs.Types.{ends}
use Rattle.typing_rules.specs.Heads.{bound_of, head, members_head, promoted}
use Rattle.type_definitions.specs.Meanings.{term}
use Rattle.type_definitions.specs.Tables.{Later, Within}
use Rattle.type_definitions.specs.Definitions.{Listed, rules_in}
use Rattle.met_types.specs.States.{State, Kept, Goes, Stands}

-- b is what the bounds of a lead to within so many
abbrev pub IsPromoted : ℕ → Listed → TermId → TermId → List Form → Type 0
IsPromoted n l a b later = term later b ≡ promoted (rules_in later l) n (term later a)

-- the head that members of a's values go by
abbrev pub IsMembersHead : Listed → TermId → Node TermId → List Form → Type 0
IsMembersHead l a x later = on_node (term later) x ≡ members_head (rules_in later l) (term later a)

-- whether the bounds of this parameter lead to a type that is no parameter, in each later table
abbrev pub Ends : Listed → ℕ → List Form → Bool → Type 0
Ends l at forms is = (later : List Form) → Later forms later → is ≡ ends (rules_in later l) at

-- the bound of the type, which is a parameter, or that it has none
abbrev pub FindsBound : Listed → List Form → TermId → Option TermId → Type 0
FindsBound l forms id None = (later : List Form) → Later forms later → bound_of (head (rules_in later l) (term later id)) ≡ None
FindsBound l forms id (Some b) = Within forms b × ((later : List Form) → Later forms later → bound_of (head (rules_in later l) (term later id)) ≡ Some (term later b))

-- the types are as they were, with more terms
pub record Same (old new : State) : Type 0 where
  pub kept : Kept new
  pub goes : Goes old new
  pub stands : (met : List Term) → Stands met old → Stands met new
