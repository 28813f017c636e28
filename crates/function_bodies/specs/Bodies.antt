-- The bodies of a list's functions and classes, by the definitions and the names in scope.
use Rattle.std.specs.Prelude.{ℕ, List, [], ◌++◌, Option, map}
use Rattle.type_terms.specs.declared.form.Form.{Form}
use Rattle.type_terms.specs.declared.form.TermId.{TermId}
use Rattle.typing_rules.specs.AbstractSyntax.{Declaration, Expression, Pattern, Patterns}
use Rattle.typing_rules.specs.Contexts.{Scope}
use Rattle.typing_rules.specs.Expressions.{JudgeBody}
use Rattle.typing_rules.specs.Judgements.{Gives, Judgement, Part}
use Rattle.typing_rules.specs.Lists as rules
use Rattle.typing_rules.specs.Terms.{Term}
use Rattle.typing_rules.specs.TypedTrees.{Note, Typed}
use Rattle.type_definitions.specs.Meanings.{term}
use Rattle.mo_types.specs.Sub.{Each}
use Rattle.met_types.specs.States.{IsReached, State}
use Rattle.value_scopes.specs.declared.place.Body.{Body}
use Rattle.value_scopes.specs.declared.place.Place.{Place}
use Rattle.signatures.specs.Taking.{context_in, taken_in}
use Rattle.judging.specs.Views.{View, context, definitions, typed_in}
use Rattle.signature_judging.specs.Rules.{context_of, parameters}
use Rattle.body_judging.specs.Bodies.{body_under}
use Rattle.order_rules.specs.declared.entries.MadeDeclaration.{MadeDeclaration}
use Rattle.order_rules.specs.Entries.{made_in}
use Rattle.function_bodies.specs.declared.taking.Bodied.{Bodied}
use Rattle.function_bodies.specs.declared.taking.Called.{Called}

-- where these are the declarations that were evaluated and are still to be taken
abbrev pub judge_body : Place → ℕ → Declaration ℕ → List MadeDeclaration → View → Judgement (rules.Made × List rules.Made)
judge_body y at d rest v = JudgeBody (definitions v) (context v y) at d (map (made_in v.later) rest)

abbrev pub body_in : List MadeDeclaration → MadeDeclaration → List Form → rules.Made × List rules.Made
body_in rest made later = (made_in later made, map (made_in later) rest)

abbrev pub any_made : State → MadeDeclaration → Type 0
any_made s made = Unit {0}

-- ---- parameters, and a body of this type with their names

abbrev pub bodied : Place → List (Pattern ℕ) → Body → Term → Expression ℕ → View → Judgement ((List Term × Patterns Note) × Typed)
bodied y qs b u a v = Part (parameters qs [] v) (λ r. Part (body_under y b u a r.0 v) (λ z. Gives (r.1, z)))

abbrev pub with_parameters : Place → List (Pattern ℕ) → Body → TermId → Expression ℕ → View → Judgement ((List Term × Patterns Note) × Typed)
with_parameters y qs b id a v = bodied y qs b (term v.later id) a v

abbrev pub bodied_in : Bodied → List Form → (List Term × Patterns Note) × Typed
bodied_in made later = (taken_in made.taken later, typed_in made.body later)

-- the types of the parameters are met
abbrev pub bodied_reached : State → Bodied → Type 0
bodied_reached s made = Each (IsReached s) made.taken.kinds

-- ---- the same behind a context

-- with these names behind those of the parameters
abbrev pub bodied_before : Place → List (Pattern ℕ) → Body → Term → Expression ℕ → Scope → View → Judgement ((List Term × Patterns Note) × Typed)
bodied_before y qs b u a names v = Part (parameters qs [] v) (λ r. Part (body_under y b u a (r.0 ++ names) v) (λ z. Gives (r.1, z)))

abbrev pub called : Place → Option (Pattern ℕ) → List (Pattern ℕ) → Body → Term → Expression ℕ → View → Judgement (Option (Pattern Note) × ((List Term × Patterns Note) × Typed))
called y o qs b u a v = Part (context_of o v) (λ c. Part (bodied_before y qs b u a c.0 v) (λ z. Gives (c.1, z)))

abbrev pub with_context : Place → Option (Pattern ℕ) → List (Pattern ℕ) → Body → TermId → Expression ℕ → View → Judgement (Option (Pattern Note) × ((List Term × Patterns Note) × Typed))
with_context y o qs b id a v = called y o qs b (term v.later id) a v

abbrev pub called_in : Called → List Form → Option (Pattern Note) × ((List Term × Patterns Note) × Typed)
called_in made later = (context_in made.context later, bodied_in made.bodied later)

abbrev pub called_reached : State → Called → Type 0
called_reached s made = bodied_reached s made.bodied
