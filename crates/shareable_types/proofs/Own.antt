-- The parameters of a definition.
use Rattle.std.proofs.Common.{◌≡◌, ℕ, Option, Some, None, refl, ◌∙◌}
use Rattle.type_terms.specs.declared.form.TermId.{TermId}
use Rattle.typing_rules.specs.Terms.{Term}
use Rattle.typing_rules.specs.Definitions.{definition_at, parameters_of}
use Rattle.type_definitions.specs.declared.definitions.Definition.{Definition}
use Rattle.type_definitions.specs.Definitions.{Listed, definition_of, types_at}
use Rattle.type_definitions.proofs.Leading as leading
use Rattle.shareable_types.specs.Settled.{own_parameters}

pub same_own : (at : TermId → Term) (d : Option Definition) → leading.own_parameters at d ≡ own_parameters d
same_own at None = refl
same_own at (Some d) = refl

pub parameters_are : (at : TermId → Term) (l : Listed) (n : ℕ) → parameters_of (definition_at (types_at at l) n) ≡ own_parameters (definition_of l n)
parameters_are at l n = leading.parameters_are at l n ∙ same_own at (definition_of l n)
