-- The judgements of parameters and contexts, by the definitions as a table has them.
use Rattle.std.specs.Prelude.{ℕ, List, Option, option_map, map}
use Rattle.type_terms.specs.declared.form.Form.{Form}
use Rattle.type_terms.specs.declared.form.TermId.{TermId}
use Rattle.typing_rules.specs.AbstractSyntax.{Pattern, Patterns}
use Rattle.typing_rules.specs.Contexts.{Scope}
use Rattle.typing_rules.specs.Judgements.{Gives, Meets, Part}
use Rattle.typing_rules.specs.Patterns.{Stands}
use Rattle.typing_rules.specs.Signatures.{ContextOf, Parameters, Taken, context_type}
use Rattle.typing_rules.specs.Terms.{Term}
use Rattle.typing_rules.specs.TypedTrees.{Note}
use Rattle.typing_rules.specs.TypeScopes.{TypeScope}
use Rattle.type_definitions.specs.Definitions.{rules_in}
use Rattle.type_definitions.specs.Meanings.{term}
use Rattle.abstract_types.specs.declared.patterns.Pattern as value
use Rattle.abstract_types.specs.PatternView.{listed}
use Rattle.value_scopes.specs.declared.note.Note as value_note
use Rattle.proper_types.specs.Rules.{Rule}
use Rattle.typed_patterns.specs.Binding.{patterns_in}
use Rattle.typed_patterns.specs.Making.{pattern_in}
use Rattle.signatures.specs.Rules.{kind_of}
use Rattle.signatures.specs.declared.taking.One.{One}
use Rattle.signatures.specs.declared.taking.Taken as value_taken

-- ---- what is given, as it is seen in a table

abbrev pub one_in : One → List Form → Term × Pattern Note
one_in made later = (term later made.kind, pattern_in made.pattern later)

abbrev pub taken_in : value_taken.Taken → List Form → List Term × Patterns Note
taken_in made later = (map (term later) made.kinds, patterns_in made.patterns later)

abbrev pub context_in : Option (value.Pattern value_note.Note) → List Form → Option (Pattern Note)
context_in made later = option_map (λ q. pattern_in q later) made

-- ---- judgements, by the definitions as a table has them

-- the names that parameters bind, and the rest of what they are
abbrev pub names_and_rest : Taken → Scope × (List Term × Patterns Note)
names_and_rest k = (k.scope, (k.types, k.patterns))

abbrev pub parameter : TypeScope → Pattern ℕ → Option TermId → Rule (Scope × (Term × Pattern Note))
parameter s q w l later = Part (kind_of s q w l later) (λ u. Part (Stands (rules_in later l) s q u) (λ b. Gives (b.0, (u, b.1))))

abbrev pub parameters : TypeScope → List (Pattern ℕ) → List TermId → Rule (Scope × (List Term × Patterns Note))
parameters s qs us l later = Part (Parameters (rules_in later l) s (listed qs) (map (term later) us)) (λ k. Gives (names_and_rest k))

abbrev pub context_stands : TypeScope → Pattern ℕ → Rule (Scope × Pattern Note)
context_stands s q l later = Meets context_type (Stands (rules_in later l) s q context_type)

abbrev pub context_of : TypeScope → Option (Pattern ℕ) → Rule (Scope × Option (Pattern Note))
context_of s o l later = ContextOf (rules_in later l) s o
