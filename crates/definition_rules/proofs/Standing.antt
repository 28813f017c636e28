-- Outcomes that are types.
use Rattle.std.proofs.Common.{◌≡◌, ℕ, true, false, List, Option, Some, None, refl, sym, ap, ◌∙◌}
use Rattle.std.specs.Prelude.{is_some}
use Rattle.typing_rules.specs.Terms.{Term}
use Rattle.typing_rules.specs.Definitions.{reached}
use Rattle.type_definitions.specs.declared.chains.Outcome.{Outcome}
use Rattle.type_definitions.specs.declared.chains.Outcome.TheVariants as outcome
use Rattle.type_definitions.specs.Definitions.{Listed, types_in}
use Rattle.type_definitions.specs.Outcomes.{outcome_of, outcome_at}
use Rattle.type_definitions.proofs.Leading.{endless_is}
use Rattle.definition_rules.specs.Outcomes.{HasType}

pub no_type : (l : Listed) (os : List Outcome) (at : ℕ) → outcome_at l.names os at ≡ outcome.Endless → HasType l os at false
no_type l os at e forms agree later h = sym (ap is_some (endless_is (reached (types_in later l) at) (agree later h at ∙ e)))

some_type : (o : Option Term) → (outcome_of o ≡ outcome.Endless → ⊥) → true ≡ is_some o
some_type None h = absurd (h refl)
some_type (Some u) h = refl

pub a_type : (l : Listed) (os : List Outcome) (at : ℕ) → (outcome_at l.names os at ≡ outcome.Endless → ⊥) → HasType l os at true
a_type l os at e forms agree later h = some_type (reached (types_in later l) at) (λ k. e (sym (agree later h at) ∙ k))
