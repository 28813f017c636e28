-- Names of types stay fine where more of them come into scope, and what is written there keeps to the type parameters in scope.
use Rattle.std.specs.Prelude.{◌≡◌, ℕ, ◌++◌, List}
use Rattle.mo_types.specs.declared.node.Node.TheVariants as node
use Rattle.typing_rules.specs.AbstractSyntax.{Named, Signature, Declarations}
use Rattle.typing_rules.specs.AbstractSyntax as p
use Rattle.typing_rules.specs.DeclaredTypes.{within, with_list, class_type, member_fields}
use Rattle.typing_rules.specs.Definitions.{Definitions}
use Rattle.typing_rules.specs.Gathered.{in_list, in_declaration, of_generics}
use Rattle.typing_rules.specs.Heads.{head}
use Rattle.typing_rules.specs.PublicFields.{PublicFields}
use Rattle.typing_rules.specs.Signatures.{DefinitionsOf}
use Rattle.typing_rules.specs.Terms.{Term, listed_fields}
use Rattle.typing_rules.specs.TypeScopes.{TypeScope, with_parameters, names_of, places_of}
use Rattle.desugaring_laws.specs.Scopes.{IsScopeFine, AreBoundsIn}
use Rattle.desugaring_laws.specs.Yields.{Yields}
use Rattle.scope_laws.specs.Gathers.{Gathers, ArePlainFields}

-- with type parameters
abbrev pub ParametersStayFine : Type 0
ParametersStayFine = (defs : Definitions) (vs : List ℕ) (s : TypeScope) → IsScopeFine defs vs s → (xs : List Named) → IsScopeFine defs (places_of xs ++ vs) (with_parameters s xs)

-- with the types that a list defines, which lead to no futures where its definitions are as they have to be
abbrev pub ListsStayFine : Type 0
ListsStayFine =
    (defs : Definitions) (terms : List Term) (vs : List ℕ) (s : TypeScope) → IsScopeFine defs vs s → (ds : Declarations ℕ) → Gathers defs (in_list (with_list s ds) ds)
    → Yields defs terms (DefinitionsOf defs (with_list s ds) ds) (λ u. IsScopeFine defs vs (with_list s ds))

-- the bounds of a function's type parameters
abbrev pub BoundsStayIn : Type 0
BoundsStayIn =
    (defs : Definitions) (vs : List ℕ) (s : TypeScope) → IsScopeFine defs vs s → AreBoundsIn vs defs → (g : Signature ℕ) → Gathers defs (of_generics (within s g) g.generics)
    → AreBoundsIn (places_of (names_of g.generics) ++ vs) defs

-- the type of a class is one of objects with its public fields
abbrev pub ClassesAreObjects : Type 0
ClassesAreObjects =
    (defs : Definitions) (vs : List ℕ) (s : TypeScope) → IsScopeFine defs vs s → (x : Named) (g : Signature ℕ) (fields : Declarations ℕ) → Gathers defs (in_declaration s (p.Class x g fields)) → ArePlainFields fields
    → head defs (class_type (within s g) x) ≡ node.Object (listed_fields (member_fields (with_list (within s g) fields) fields))

-- public fields that are as they have to be have no type parameters
abbrev pub PublicFieldsArePlain : Type 0
PublicFieldsArePlain = (defs : Definitions) (terms : List Term) (fields : Declarations ℕ) → Yields defs terms (PublicFields fields) (λ u. ArePlainFields fields)
