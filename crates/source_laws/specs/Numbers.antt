-- Definitions and type parameters whose numbers differ.
use Rattle.std.specs.Prelude.{map}
use Rattle.typed_tree.specs.OperationTypes.{Distinct}
use Rattle.typing_rules.specs.Definitions.{Definitions}
use Rattle.scope_laws.specs.Gathers.{Gathers}

-- No two names that are defined are one token, and no two type parameters.
pub record AreNumbered (defs : Definitions) : Type 0 where
  pub types : Distinct (map (λ d. d.at) defs.types)
  pub parameters : Distinct (map (λ b. b.at) defs.parameters)

-- So each of them stands under its number.
abbrev pub DefinitionsAreGathered : Type 0
DefinitionsAreGathered = (defs : Definitions) → AreNumbered defs → Gathers defs defs
