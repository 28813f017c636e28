-- Fields that are made one after another.
use Rattle.std.specs.Prelude.{◌≡◌, ℕ, List, ◌++◌, Option, Some, None, map}
use Rattle.mo_types.specs.declared.node.Field.{Field}
use Rattle.mo_types.specs.Sub.{Each}
use Rattle.mo_subtype.specs.Renamed.{on_field}
use Rattle.type_terms.specs.declared.form.Form.{Form}
use Rattle.type_terms.specs.declared.form.TermId.{TermId}
use Rattle.typing_rules.specs.AbstractSyntax.{Bytes, Pattern}
use Rattle.typing_rules.specs.AbstractSyntax as p
use Rattle.typing_rules.specs.Terms.{Fields}
use Rattle.type_definitions.specs.Meanings.{term}
use Rattle.type_definitions.specs.Tables.{Later, Within}
use Rattle.definition_rules.specs.Bounds.{Same}
use Rattle.met_types.specs.States.{State}
use Rattle.written_types.specs.Written.{with_fields}

-- Fields were added, which stand so before others.
pub record Adds (old new : State) (before : Fields → Fields) (had has : List (Field TermId)) : Type 0 where
  pub same : Same old new
  pub more : List (Field TermId)
  pub added : has ≡ had ++ more
  pub within : Each (Within new.forms) (map (λ f. f.part) more)
  pub is : (later : List Form) → Later new.forms later → (rest : Fields) → before rest ≡ with_fields (map (on_field (term later)) more) rest

-- the name that a pattern is
abbrev pub name_of : Pattern ℕ → Option Bytes
name_of (p.pattern n (p.Variable x)) = Some x
name_of _ = None
