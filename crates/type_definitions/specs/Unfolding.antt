-- What the uses of names stand for, in a table.
use Rattle.std.specs.Prelude.{◌≡◌, ℕ, false, List, Option, Some, None, slice_get}
use Rattle.mo_types.specs.Sub.{Each}
use Rattle.type_terms.specs.declared.form.Form.{Form}
use Rattle.type_terms.specs.declared.form.Form.TheVariants as form
use Rattle.type_terms.specs.declared.form.TermId.{TermId}
use Rattle.typing_rules.specs.Terms.{Term, put_in, unlisted}
use Rattle.typing_rules.specs.Terms as t
use Rattle.typing_rules.specs.Definitions.{unfolded}
use Rattle.type_definitions.specs.declared.definitions.Definition.{Definition}
use Rattle.type_definitions.specs.Meanings.{term, parts_at}
use Rattle.type_definitions.specs.Tables.{Within}
use Rattle.type_definitions.specs.Putting.{placed}
use Rattle.type_definitions.specs.Definitions.{Listed, definition_of, types_in}

-- the type a stands for b
abbrev pub IsUnfolded : Listed → TermId → TermId → List Form → Type 0
IsUnfolded l a b later = term later b ≡ unfolded (types_in later l) (term later a)

-- both stand for the same
abbrev pub LeadsTo : Listed → TermId → TermId → List Form → Type 0
LeadsTo l a b later = unfolded (types_in later l) (term later b) ≡ unfolded (types_in later l) (term later a)

abbrev pub UseLeadsTo : Listed → ℕ → List TermId → TermId → List Form → Type 0
UseLeadsTo l at ids b later = unfolded (types_in later l) (term later b) ≡ unfolded (types_in later l) (t.Use at (unlisted (parts_at (term later) ids)))

abbrev pub RightOf : Option Definition → List TermId → TermId → List Form → Type 0
RightOf None ids b later = Unit {0}
RightOf (Some d) ids b later = term later b ≡ put_in (placed (term later) d.parameters ids false) (term later d.right)

-- b is the right side of the definition of this name, with these arguments put in
abbrev pub IsRightOf : Listed → ℕ → List TermId → TermId → List Form → Type 0
IsRightOf l at ids b later = RightOf (definition_of l at) ids b later

-- the use of a name that stands there, or none does
pub record IsUse (forms : List Form) (id : TermId) (at : ℕ) (ids : List TermId) : Type 0 where
  pub there : slice_get forms id.index ≡ Some (form.Use at ids)
  pub within : Each (Within forms) ids

pub record IsNoUse (forms : List Form) (id : TermId) : Type 0 where
  pub shape : Form
  pub there : slice_get forms id.index ≡ Some shape
  pub other : (at : ℕ) (ids : List TermId) → shape ≡ form.Use at ids → ⊥

abbrev pub FindsUse : List Form → TermId → Option (ℕ × List TermId) → Type 0
FindsUse forms id None = IsNoUse forms id
FindsUse forms id (Some u) = IsUse forms id u.0 u.1
