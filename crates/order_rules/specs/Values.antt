-- Values of declarations, by the definitions and the names in scope.
use Rattle.std.specs.Prelude.{ℕ, List, Option, Some, None}
use Rattle.type_terms.specs.declared.form.Form.{Form}
use Rattle.typing_rules.specs.AbstractSyntax.{Expression, TypeNode}
use Rattle.typing_rules.specs.Judgements.{Case, Gives, Judgement, Part}
use Rattle.typing_rules.specs.Terms.{Term}
use Rattle.typing_rules.specs.TypedTrees.{Typed, declared_type}
use Rattle.type_definitions.specs.Meanings.{term}
use Rattle.met_types.specs.States.{State, IsReached}
use Rattle.type_scopes.specs.Scopes.{seen}
use Rattle.value_scopes.specs.declared.place.Place.{Place}
use Rattle.judging.specs.declared.site.Site.{Site}
use Rattle.judging.specs.Views.{View, judge, judge_at, kind_reached, typed_in}
use Rattle.scope_judging.specs.Rules.{reads}
use Rattle.order_rules.specs.declared.values.DeclaredValue.{DeclaredValue}

-- it fits the type that is written, or else stands at this place
abbrev pub value_of : Site → Option TypeNode → Place → Expression ℕ → View → Judgement Typed
value_of x o y a v = Case o (λ u. Part (reads u v) (λ t. judge_at x.place a (Some t) v)) (λ _. judge y a None v)

-- with the type that is declared of it
abbrev pub declared_value : Site → Option TypeNode → Place → Expression ℕ → View → Judgement (Term × Typed)
declared_value x o y a v = Part (value_of x o y a v) (λ b. Gives (declared_type (seen v.scopes.types) o b, b))

abbrev pub value_in : DeclaredValue → List Form → Term × Typed
value_in made later = (term later made.kind, typed_in made.value later)

abbrev pub value_reached : State → DeclaredValue → Type 0
value_reached s made = IsReached s made.kind × kind_reached s made.value
