-- The judgements of written types, by the definitions as a table has them.
use Rattle.std.specs.Prelude.{ℕ, Bool, true, false, List, [], ◌∷◌, Option, map}
use Rattle.type_terms.specs.declared.form.Form.{Form}
use Rattle.type_terms.specs.declared.form.TermId.{TermId}
use Rattle.typing_rules.specs.declared.condition.Condition.TheVariants as condition
use Rattle.typing_rules.specs.AbstractSyntax.{Named, TypeNode, TypeFields, TypeParameter}
use Rattle.typing_rules.specs.AbstractSyntax as p
use Rattle.typing_rules.specs.Terms.{Term}
use Rattle.typing_rules.specs.Terms as t
use Rattle.typing_rules.specs.Definitions.{Definitions}
use Rattle.typing_rules.specs.Heads.{head}
use Rattle.typing_rules.specs.Judgements.{Judgement, Part, Tests, Needs, Meets, IsShareable, Fine}
use Rattle.typing_rules.specs.TypeScopes.{TypeScope}
use Rattle.typing_rules.specs.TypeScopes as scopes
use Rattle.typing_rules.specs.Types.{Proper, FieldsProper, MethodsProper, Reads, ReadsOr, ReadsEach, Defines, Generics, ends, is_shared_function}
use Rattle.type_definitions.specs.Definitions.{Listed, rules_in}
use Rattle.type_definitions.specs.Meanings.{term}
use Rattle.abstract_types.specs.declared.types.TypeNode as value
use Rattle.abstract_types.specs.declared.types.TypeField.{TypeField}
use Rattle.abstract_types.specs.TypeView.{type_node, type_field}

-- ---- what is given, as it is seen in a table

abbrev pub done : Unit {0} → List Form → Unit {0}
done made later = made

abbrev pub as_term : TermId → List Form → Term
as_term id later = term later id

abbrev pub as_terms : List TermId → List Form → List Term
as_terms ids later = map (term later) ids

-- ---- items one after another

abbrev pub InTurn : {X : Type 0} → (X → Judgement (Unit {0})) → List X → Judgement (Unit {0})
InTurn f [] = Fine
InTurn f (x ∷ xs) = Part (f x) (λ _. InTurn f xs)

-- ---- judgements

abbrev pub Rule : Type 0 → Type 0
Rule A = Listed → List Form → Judgement A

abbrev pub proper : TypeScope → TypeNode → Rule (Unit {0})
proper s n l later = Proper (rules_in later l) s n

abbrev pub each_proper : TypeScope → List value.TypeNode → Rule (Unit {0})
each_proper s xs l later = InTurn (λ n. Proper (rules_in later l) s (type_node n)) xs

-- the fields of an object or variant type, or the methods of an actor type
abbrev pub PartsProper : Definitions → TypeScope → Bool → TypeFields → Judgement (Unit {0})
PartsProper defs s false fields = FieldsProper defs s fields
PartsProper defs s true methods = MethodsProper defs s methods

abbrev pub part : TypeScope → Bool → TypeField → Rule (Unit {0})
part s of_actor f l later = PartsProper (rules_in later l) s of_actor (type_field f p.NoFields)

abbrev pub each_part : TypeScope → Bool → List TypeField → Rule (Unit {0})
each_part s of_actor fs l later = InTurn (λ f. part s of_actor f l later) fs

-- the type is shareable
abbrev pub Sent : TypeScope → ℕ → TypeNode → Judgement (Unit {0})
Sent s at n = Needs condition.NotShared at (IsShareable (scopes.term s n)) Fine

abbrev pub sent : TypeScope → ℕ → TypeNode → Rule (Unit {0})
sent s at n l later = Sent s at n

abbrev pub each_sent : TypeScope → ℕ → value.TypeNode → List value.TypeNode → Rule (Unit {0})
each_sent s at a xs l later = InTurn (λ n. Sent s at (type_node n)) (a ∷ xs)

-- the type is that of a shared function
abbrev pub method : TypeScope → ℕ → TypeNode → Rule (Unit {0})
method s at n l later = Tests condition.NotShared at (is_shared_function (head (rules_in later l) (scopes.term s n))) Fine

abbrev pub reads : TypeScope → TypeNode → Rule Term
reads s n l later = Reads (rules_in later l) s n

abbrev pub given_or : TypeScope → Option TypeNode → TermId → Rule Term
given_or s n other l later = ReadsOr (rules_in later l) s n (term later other)

abbrev pub reads_each : TypeScope → List TypeNode → Rule (List Term)
reads_each s ns l later = ReadsEach (rules_in later l) s ns

abbrev pub bound_ends : ℕ → Rule (Unit {0})
bound_ends at l later = Tests condition.BadDefinition at (ends (rules_in later l) at) Fine

abbrev pub is_met : ℕ → Rule (Unit {0})
is_met at l later = Meets (t.Parameter at) Fine

-- the type parameter at this place, whose bound is read
abbrev pub stands : ℕ → Rule (Unit {0})
stands at l later = Tests condition.BadDefinition at (ends (rules_in later l) at) (is_met at l later)

abbrev pub generics : TypeScope → List TypeParameter → Rule (Unit {0})
generics s gs l later = Generics (rules_in later l) s gs

abbrev pub defines : Named → Rule (Unit {0})
defines x l later = Defines (rules_in later l) x
