-- What is called, and what follows, by the definitions and the names in scope.
use Rattle.std.specs.Prelude.{ℕ, List, Option, None, length, nat_eq}
use Rattle.mo_types.specs.declared.node.Sort.{Sort}
use Rattle.typing_rules.specs.declared.condition.Condition.TheVariants as condition
use Rattle.typing_rules.specs.AbstractSyntax.{Expression, Expressions, TypeNode}
use Rattle.typing_rules.specs.AbstractSyntax as p
use Rattle.typing_rules.specs.AsyncPlaces.{FuturePlaced, takes_call}
use Rattle.typing_rules.specs.Calls.{Instance, called, polymorphic}
use Rattle.typing_rules.specs.Contexts.{Bound}
use Rattle.typing_rules.specs.Ends.{Has}
use Rattle.typing_rules.specs.Expressions.{JudgeEach, some_each}
use Rattle.typing_rules.specs.Judgements.{Case, Given, Gives, Judgement, Meets, Part, Tests}
use Rattle.typing_rules.specs.Patterns.{is_empty}
use Rattle.typing_rules.specs.Terms.{Term}
use Rattle.typing_rules.specs.TypedTrees.{Note, Typed, count, place, typed}
use Rattle.type_scopes.specs.Scopes.{seen}
use Rattle.value_scopes.specs.Places.{around_in, body_in}
use Rattle.judging.specs.declared.site.Site.{Site}
use Rattle.judging.specs.Views.{View, context, definitions, judge, wanted_in}

-- a function with type parameters, at type arguments
abbrev pub at_types : ℕ → ℕ → Option (List TypeNode) → View → Bound × p.Form Note → Judgement Typed
at_types at of types v q = Given condition.TypeArguments at types (λ us. Part (Instance (definitions v) at (seen v.scopes.types) q.0 us) (λ u. Meets u (Gives (typed of u q.1))))

-- another, which has no type arguments
abbrev pub plain_callee : Site → Expression ℕ → Option (List TypeNode) → View → Judgement Typed
plain_callee x f types v = Case types (λ us. Tests condition.TypeArguments x.at (is_empty us) (judge x.place f None v)) (λ _. judge x.place f None v)

abbrev pub callee : Site → Expression ℕ → Option (List TypeNode) → View → Judgement Typed
callee x f types v = Case (polymorphic (context v x.place) f) (at_types x.at (place f) types v) (λ _. plain_callee x f types v)

-- the call of a function that takes and gives these
abbrev pub called_with : Site → Option (List TypeNode) → Expressions ℕ → View → Typed → Sort × List Term × List Term → Judgement Typed
called_with x types arguments v g q =
    Part (FuturePlaced (definitions v) (body_in x.place.body) (takes_call (around_in x.around)) x.at (called q.0 q.2)) (λ _.
    Tests condition.ArgumentCount x.at (nat_eq (length q.1) (count arguments)) (Part (JudgeEach (definitions v) (context v x.place) arguments (some_each q.1)) (λ es.
    Has x.at (wanted_in v x.wanted) (called q.0 q.2) (p.Call g types es))))
