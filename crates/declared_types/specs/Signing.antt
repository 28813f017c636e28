-- Parts of the types that functions and classes have.
use Rattle.std.specs.Prelude.{ℕ}
use Rattle.typing_rules.specs.AbstractSyntax.{Named, Signature}
use Rattle.typing_rules.specs.Terms.{Term}
use Rattle.typing_rules.specs.Terms as t
use Rattle.typing_rules.specs.TypeScopes.{TypeScope, term_or}
use Rattle.typing_rules.specs.DeclaredTypes.{class_type, parameter_terms}
use Rattle.declared_types.specs.declared.signatures.Otherwise.{Otherwise}
use Rattle.declared_types.specs.declared.signatures.Otherwise.TheVariants as or

abbrev pub otherwise : Otherwise → Term
otherwise or.Any = t.Any
otherwise or.Bottom = t.Bottom
otherwise or.Unit = t.unit

-- the type of a function, where its type parameters are in scope
abbrev pub function_within : TypeScope → Signature ℕ → Term
function_within s g = t.Function (parameter_terms s g.parameters) (term_or s g.result t.unit)

-- the same of a class of this name
abbrev pub class_within : TypeScope → Named → Signature ℕ → Term
class_within s x g = t.Function (parameter_terms s g.parameters) (class_type s x)
