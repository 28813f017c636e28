-- The judgements of signatures, by the definitions as a table has them.
use Rattle.std.specs.Prelude.{ℕ, Bool, List, [], ◌∷◌, map}
use Rattle.type_terms.specs.declared.form.Form.{Form}
use Rattle.type_terms.specs.declared.form.TermId.{TermId}
use Rattle.typing_rules.specs.AbstractSyntax.{Bytes, Named, Declaration, Signature}
use Rattle.typing_rules.specs.Contexts.{Scope, generic}
use Rattle.typing_rules.specs.DeclaredTypes.{class_type}
use Rattle.typing_rules.specs.Judgements.{Judgement, Gives, Meets, Part}
use Rattle.typing_rules.specs.Signatures.{ParameterTypes, SignatureOf, method_sort}
use Rattle.typing_rules.specs.Terms.{Term, unit, unlisted}
use Rattle.typing_rules.specs.Terms as t
use Rattle.typing_rules.specs.Types.{Generics, ReadsOr}
use Rattle.typing_rules.specs.TypeScopes.{TypeScope, names_of, places_of}
use Rattle.type_definitions.specs.Definitions.{rules_in}
use Rattle.type_definitions.specs.Meanings.{term}
use Rattle.proper_types.specs.Rules.{Rule}

-- nothing is given besides names
abbrev pub no_more : Unit {0} → List Form → Unit {0}
no_more made later = made

-- a name of this type, which is met
abbrev pub Binding : Bytes → List ℕ → Term → Judgement (Scope × Unit {0})
Binding x places u = Meets u (Gives ((x, generic places u) ∷ [], tt))

abbrev pub bound_to : Bytes → List ℕ → TermId → Rule (Scope × Unit {0})
bound_to x places id l later = Binding x places (term later id)

abbrev pub function_of : Bytes → List ℕ → List TermId → TermId → Rule (Scope × Unit {0})
function_of x places ids id l later = Binding x places (t.Function (unlisted (map (term later) ids)) (term later id))

abbrev pub shared_of : Bytes → Bool → List TermId → TermId → Rule (Scope × Unit {0})
shared_of x query ids id l later = Binding x [] (t.Shared (method_sort query) (unlisted (map (term later) ids)) (term later id))

-- of a function, where its type parameters are in scope
abbrev pub function_within : TypeScope → Named → Signature ℕ → Rule (Scope × Unit {0})
function_within s x g l later =
    Part (Generics (rules_in later l) s g.generics) (λ _. Part (ParameterTypes (rules_in later l) s g.parameters) (λ us. Part (ReadsOr (rules_in later l) s g.result unit) (λ r.
    Binding x.bytes (places_of (names_of g.generics)) (t.Function (unlisted us) r))))

-- of a class
abbrev pub class_within : TypeScope → Named → Signature ℕ → Rule (Scope × Unit {0})
class_within s x g l later =
    Part (Generics (rules_in later l) s g.generics) (λ _. Part (ParameterTypes (rules_in later l) s g.parameters) (λ us.
    Binding x.bytes (places_of (names_of g.generics)) (t.Function (unlisted us) (class_type s x))))

-- the names that a declaration binds in its whole list
abbrev pub signature_of : TypeScope → Declaration ℕ → Rule (Scope × Unit {0})
signature_of s d l later = Part (SignatureOf (rules_in later l) s d) (λ names. Gives (names, tt))
