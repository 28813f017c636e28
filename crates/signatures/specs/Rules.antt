-- The judgements of what is written at parameters and results, by the definitions as a table has them.
use Rattle.std.specs.Prelude.{ℕ, List, Option, option_map, map}
use Rattle.type_terms.specs.declared.form.TermId.{TermId}
use Rattle.typing_rules.specs.declared.condition.Condition.TheVariants as condition
use Rattle.typing_rules.specs.AbstractSyntax.{TypeNode, Pattern}
use Rattle.typing_rules.specs.Judgements.{Gives, Case, Given, Needs, NeedsEach, IsShareable, Fine}
use Rattle.typing_rules.specs.Signatures.{AsyncResult, ParameterTypes}
use Rattle.typing_rules.specs.Terms.{Term, unit}
use Rattle.typing_rules.specs.Types.{AllShareable, Reads, ReadsOr}
use Rattle.typing_rules.specs.TypedTrees.{annotation, pattern_place}
use Rattle.typing_rules.specs.TypeScopes.{TypeScope}
use Rattle.type_definitions.specs.Definitions.{rules_in}
use Rattle.type_definitions.specs.Meanings.{term}
use Rattle.abstract_types.specs.PatternView.{listed}
use Rattle.proper_types.specs.Rules.{Rule}

-- the type that is written at the pattern, or else the one that is wanted
abbrev pub kind_of : TypeScope → Pattern ℕ → Option TermId → Rule Term
kind_of s q w l later = Case (annotation q) (λ a. Reads (rules_in later l) s a) (λ _. Given condition.NeedsType (pattern_place q) (option_map (term later) w) (λ u. Gives u))

abbrev pub parameter_types : TypeScope → List (Pattern ℕ) → Rule (List Term)
parameter_types s qs l later = ParameterTypes (rules_in later l) s (listed qs)

-- the type that is written, or else ()
abbrev pub result_of : TypeScope → Option TypeNode → Rule Term
result_of s o l later = ReadsOr (rules_in later l) s o unit

abbrev pub async_result : TypeScope → ℕ → Option TypeNode → Rule Term
async_result s at o l later = AsyncResult (rules_in later l) at s o

-- the type is shareable
abbrev pub is_shareable : ℕ → TermId → Rule (Unit {0})
is_shareable at id l later = Needs condition.NotShared at (IsShareable (term later id)) Fine

abbrev pub each_shareable : ℕ → List TermId → Rule (Unit {0})
each_shareable at ids l later = NeedsEach condition.NotShared at (map IsShareable (map (term later) ids)) Fine

abbrev pub all_shareable : ℕ → List TermId → TermId → Rule (Unit {0})
all_shareable at ids id l later = AllShareable at (map (term later) ids) (term later id)
