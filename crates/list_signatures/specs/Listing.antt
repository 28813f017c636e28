-- The judgements of the types and names that a list declares, by the definitions as a table has them.
use Rattle.std.specs.Prelude.{ℕ}
use Rattle.typing_rules.specs.AbstractSyntax.{Declaration, Declarations}
use Rattle.typing_rules.specs.Contexts.{Scope}
use Rattle.typing_rules.specs.Judgements.{Gives, Part}
use Rattle.typing_rules.specs.Signatures.{DefinitionOf, DefinitionsOf, Signatures}
use Rattle.typing_rules.specs.TypeScopes.{TypeScope}
use Rattle.type_definitions.specs.Definitions.{rules_in}
use Rattle.proper_types.specs.Rules.{Rule}

-- what one declaration defines
abbrev pub definition_of : TypeScope → Declaration ℕ → Rule (Unit {0})
definition_of s d l later = DefinitionOf (rules_in later l) s d

abbrev pub definitions_of : TypeScope → Declarations ℕ → Rule (Unit {0})
definitions_of s ds l later = DefinitionsOf (rules_in later l) s ds

-- the names that a list binds in the whole of it
abbrev pub signatures_of : TypeScope → Declarations ℕ → Rule (Scope × Unit {0})
signatures_of s ds l later = Part (Signatures (rules_in later l) s ds) (λ names. Gives (names, tt))
