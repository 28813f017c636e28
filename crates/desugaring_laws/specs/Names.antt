-- The names of patterns with their types, as they are written.
use Rattle.std.specs.Prelude.{List, [], ◌∷◌, ◌++◌}
use Rattle.typing_rules.specs.AbstractSyntax.{Bytes, Pattern, Patterns, PatternFields}
use Rattle.typing_rules.specs.AbstractSyntax as p
use Rattle.typing_rules.specs.Contexts.{Scope, constant}
use Rattle.typing_rules.specs.Terms.{Term}
use Rattle.typing_rules.specs.TypedTrees.{Note}

abbrev pub Names : Type 0
Names = List (Bytes × Term)

abbrev mutual
  pub bound_names : Pattern Note → Names
  bound_names (p.pattern n (p.Annotated q a)) = bound_names q
  bound_names (p.pattern n (p.Alternative q r)) = []
  bound_names (p.pattern n (p.Optional q)) = bound_names q
  bound_names (p.pattern n (p.Tag x)) = []
  bound_names (p.pattern n (p.Tagged x q)) = bound_names q
  bound_names (p.pattern n (p.Variable x)) = (x, n.type) ∷ []
  bound_names (p.pattern n p.Wildcard) = []
  bound_names (p.pattern n (p.Constant minus l)) = []
  bound_names (p.pattern n (p.Tuple items)) = bound_in_each items
  bound_names (p.pattern n (p.Object fields)) = bound_in_fields fields

  pub bound_in_each : Patterns Note → Names
  bound_in_each p.Nil = []
  bound_in_each (p.Cons q rest) = bound_names q ++ bound_in_each rest

  pub bound_in_fields : PatternFields Note → Names
  bound_in_fields p.NoFields = []
  bound_in_fields (p.Field x q rest) = bound_names q ++ bound_in_fields rest

-- entered one after the other, so that the last one is the innermost
abbrev pub entered : Names → Scope → Scope
entered [] s = s
entered (x ∷ xs) s = entered xs ((x.0, constant x.1) ∷ s)
