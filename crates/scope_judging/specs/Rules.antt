-- The judgements of written types and of patterns, by the definitions and the names in scope.
use Rattle.std.specs.Prelude.{ℕ, Option, Some}
use Rattle.type_terms.specs.declared.form.TermId.{TermId}
use Rattle.typing_rules.specs.AbstractSyntax.{Expression, Pattern, TypeNode}
use Rattle.typing_rules.specs.Contexts.{Scope, in_loop, with_values}
use Rattle.typing_rules.specs.Expressions.{Judge}
use Rattle.typing_rules.specs.Judgements.{Judgement}
use Rattle.typing_rules.specs.Patterns.{Stands}
use Rattle.typing_rules.specs.Terms.{Term, unit}
use Rattle.typing_rules.specs.TypedTrees.{Note, Typed}
use Rattle.typing_rules.specs.Types.{Reads, ReadsOr}
use Rattle.type_definitions.specs.Meanings.{term}
use Rattle.type_definitions.specs.Tables.{Within}
use Rattle.met_types.specs.States.{State}
use Rattle.type_scopes.specs.Scopes.{seen}
use Rattle.value_scopes.specs.declared.place.Place.{Place}
use Rattle.value_scopes.specs.Places.{around_in}
use Rattle.judging.specs.declared.site.Site.{Site}
use Rattle.judging.specs.Views.{View, context, definitions, wanted_in}

abbrev pub reads : TypeNode → View → Judgement Term
reads n v = Reads (definitions v) (seen v.scopes.types) n

abbrev pub reads_or : Option TypeNode → TermId → View → Judgement Term
reads_or n other v = ReadsOr (definitions v) (seen v.scopes.types) n (term v.later other)

abbrev pub reads_or_unit : Option TypeNode → View → Judgement Term
reads_or_unit n v = ReadsOr (definitions v) (seen v.scopes.types) n unit

-- the type is a term of the table
abbrev pub kind_within : State → TermId → Type 0
kind_within s id = Within s.forms id

abbrev pub stands : Pattern ℕ → TermId → View → Judgement (Scope × Pattern Note)
stands q id v = Stands (definitions v) (seen v.scopes.types) q (term v.later id)

-- an expression with these names in front of the others
abbrev pub judge_under : Place → Expression ℕ → Option TermId → Scope → View → Judgement Typed
judge_under y a w names v = Judge (definitions v) (with_values names (context v y)) a (wanted_in v w)

-- the body of a loop with these names, of which () is wanted
abbrev pub loop_under : Site → Expression ℕ → Scope → View → Judgement Typed
loop_under x a names v = Judge (definitions v) (in_loop (around_in x.around) (with_values names (context v x.place))) a (Some unit)
