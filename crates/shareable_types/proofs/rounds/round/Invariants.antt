use Rattle.std.proofs.Common.{◌≡◌, ℕ, length, Some, slice_get}
use Rattle.type_definitions.specs.declared.definitions.Definition.{Definition}
use Rattle.type_definitions.specs.Outcomes.{or_endless}
use Rattle.shareable_types.specs.declared.needs.Needs.{Needs}
use Rattle.shareable_types.specs.Settled.{IsNeedOf}
use Rattle.shareable_types.proofs.rounds.round.Given as goal

abbrev pub invariant-loop-i : goal.invariant-loop-i
invariant-loop-i l = record {
  many : length l.made.items ≡ l.i;
  each : (j : ℕ) (d : Definition) (n : Needs) → slice_get l.types j ≡ Some d → slice_get l.made.items j ≡ Some n → IsNeedOf l.any l.definitions l.needed l.terms (or_endless (slice_get l.outcomes j)) d n;
}
