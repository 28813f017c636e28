-- Classes of lists are written out to typed functions.
use Rattle.std.specs.Prelude.{◌≡◌, ◌++◌, ℕ, List, [], map}
use Rattle.mo_types.specs.declared.node.Sort.TheVariants as sort
use Rattle.mo_types.specs.declared.node.TypeId.{TypeId}
use Rattle.mo_types.specs.Graph.{Slot}
use Rattle.subtype_laws.specs.Reached.{Among}
use Rattle.typed_tree.specs.Typing.{Signature}
use Rattle.typing_rules.specs.AbstractSyntax.{Named, Declarations}
use Rattle.typing_rules.specs.AbstractSyntax as p
use Rattle.typing_rules.specs.Contexts.{Context}
use Rattle.typing_rules.specs.DeclaredTypes.{within, parameter_terms, class_type, class_term}
use Rattle.typing_rules.specs.Definitions.{Definitions}
use Rattle.typing_rules.specs.Expressions.{JudgeBody}
use Rattle.typing_rules.specs.Gathered.{in_declaration as gathered_in}
use Rattle.typing_rules.specs.Lists.{Made}
use Rattle.typing_rules.specs.Terms.{Term, unit, listed}
use Rattle.typing_rules.specs.TypeScopes.{TypeScope}
use Rattle.desugaring.specs.Expressions.{becomes}
use Rattle.desugaring.specs.FreeNames.{in_declaration}
use Rattle.desugaring_laws.specs.GraphOf.{IsGraphOf}
use Rattle.desugaring_laws.specs.Known.{IsKnown}
use Rattle.desugaring_laws.specs.Yields.{Yields}
use Rattle.function_laws.specs.Laws.{AreParametersFine}
use Rattle.scope_laws.specs.Gathers.{Gathers}
use Rattle.declaration_laws.specs.Made.{AreFresh, AreThere, FunctionMade}
use Rattle.declaration_laws.specs.Laws.{own_of}
use Rattle.declaration_laws.specs.Objects.{AreFieldsTyped}

-- the signature of a class as it is written
abbrev pub class_signature_at : (Term → TypeId) → TypeScope → Named → p.Signature ℕ → Signature
class_signature_at number s x g = record {
  sort = sort.Local;
  generics = own_of g;
  context = [];
  parameters = map number (listed (parameter_terms (within s g) g.parameters));
  result = number (class_type (within s g) x);
}

-- A class of a list, whose fields become an object wherever they stand, becomes a function of its signature.
abbrev pub ClassesAreTyped : Type 0
ClassesAreTyped =
    (defs : Definitions) (slots : List Slot) (terms : List Term) (number : Term → TypeId) → IsGraphOf defs slots terms number → Among unit terms
    → (vs : List ℕ) (e : Context) (n : ℕ) (made : List Made) (x : Named) (g : p.Signature ℕ) (fields : Declarations ℕ) → AreParametersFine g.parameters → Gathers defs (gathered_in e.types (p.Class x g fields))
    → AreFresh e.types.parameters (own_of g) → AreThere terms (own_of g) → IsKnown defs terms (own_of g ++ vs) (class_term e.types x g)
    → AreFieldsTyped defs slots terms number (within e.types g) fields
    → Yields defs terms (JudgeBody defs e n (p.Class x g fields) made) (λ q. (q.1 ≡ made)
    × FunctionMade defs slots terms number vs (in_declaration (p.Class x g fields)) e x.bytes (class_signature_at number e.types x g) (becomes defs number q.0.0 q.0.1))
