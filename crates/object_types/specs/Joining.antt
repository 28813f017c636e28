-- Fields before others, one after another.
use Rattle.std.specs.Prelude.{ℕ, Bool, true, false, List, [], ◌∷◌}
use Rattle.typing_rules.specs.AbstractSyntax.{Signature}
use Rattle.typing_rules.specs.DeclaredTypes.{declared_fields, parameter_terms}
use Rattle.typing_rules.specs.Programs.{method_field}
use Rattle.typing_rules.specs.Signatures.{async_term, method_sort}
use Rattle.typing_rules.specs.Terms.{Term, Fields}
use Rattle.typing_rules.specs.Terms as t
use Rattle.typing_rules.specs.TypeScopes.{TypeScope}
use Rattle.abstract_tree.specs.declared.declarations.Declaration.{Declaration}
use Rattle.abstract_tree.specs.TreeView.{plain_declaration_form}

-- the first before all others
abbrev pub together : List (Fields → Fields) → Fields → Fields
together [] rest = rest
together (f ∷ fs) rest = f (together fs rest)

abbrev pub before_if : Bool → (Fields → Fields) → Fields → Fields
before_if true f rest = f rest
before_if false f rest = rest

-- those of a declaration of an object
abbrev pub member_before : TypeScope → Declaration ℕ → Fields → Fields
member_before s d = before_if d.public (declared_fields s (plain_declaration_form d.form))

-- those of a declaration of an actor
abbrev pub method_before : TypeScope → Declaration ℕ → Fields → Fields
method_before s d = method_field s (plain_declaration_form d.form)

-- the type of a public function
abbrev pub method_term : TypeScope → Bool → Signature ℕ → Term
method_term s query g = t.Shared (method_sort query) (parameter_terms s g.parameters) (async_term s g.result)
