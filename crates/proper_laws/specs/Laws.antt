-- Which types are lawful.
use Rattle.std.specs.Prelude.{List}
use Rattle.mo_types.specs.Sub.{Each}
use Rattle.typing_rules.specs.AbstractSyntax.{TypeNode}
use Rattle.typing_rules.specs.Definitions.{Definitions}
use Rattle.typing_rules.specs.Terms.{Term}
use Rattle.typing_rules.specs.TypeScopes.{TypeScope, term}
use Rattle.typing_rules.specs.Types.{Proper}
use Rattle.proper_laws.specs.Lawful.{AreTypesLawful}
use Rattle.proper_laws.specs.Meets.{MeetsOnly}
use Rattle.proper_laws.specs.Proper.{IsProper, IsMet, ArePartsProper}
use Rattle.proper_laws.specs.Source.{IsTypeSource}

-- where the definitions and the types that are met are proper, those that are reached are lawful
abbrev pub ProperTypesAreLawful : Type 0
ProperTypesAreLawful = (defs : Definitions) → ArePartsProper defs defs → (met : List Term) → Each (IsMet defs) met → AreTypesLawful defs met

-- a type that is written and as it has to be is proper, and no type is met on the way
abbrev pub WrittenTypesAreProper : Type 0
WrittenTypesAreProper = (defs : Definitions) (s : TypeScope) (a : TypeNode) → IsTypeSource a → MeetsOnly defs (λ u. ⊥) (Proper defs s a) (λ z. IsProper defs (term s a))
