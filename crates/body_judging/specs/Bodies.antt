-- What is judged as the body of a function.
use Rattle.std.specs.Prelude.{ℕ, false, [], Some}
use Rattle.type_terms.specs.declared.form.TermId.{TermId}
use Rattle.typing_rules.specs.AbstractSyntax.{Expression}
use Rattle.typing_rules.specs.Contexts.{Scope, in_body}
use Rattle.typing_rules.specs.Expressions.{Judge}
use Rattle.typing_rules.specs.Judgements.{Judgement}
use Rattle.typing_rules.specs.Terms.{Term}
use Rattle.typing_rules.specs.TypedTrees.{Typed}
use Rattle.type_definitions.specs.Meanings.{term}
use Rattle.value_scopes.specs.declared.place.Around.TheVariants as around
use Rattle.value_scopes.specs.declared.place.Body.{Body}
use Rattle.value_scopes.specs.declared.place.Place.{Place}
use Rattle.value_scopes.specs.declared.scopes.Scopes.{Scopes}
use Rattle.value_scopes.specs.Places.{body_in}
use Rattle.judging.specs.Views.{View, context, definitions}

-- where such a body stands
abbrev pub body_place : Body → TermId → Place
body_place b id = record { returns = Some id; ends = false; body = b; around = around.Other }

-- the names in scope without labels
abbrev pub unlabelled : Scopes → Scopes
unlabelled c = record c { labels = [] }

-- an expression as the body of a function of this type that stands at this place, where it binds these names
abbrev pub body_under : Place → Body → Term → Expression ℕ → Scope → View → Judgement Typed
body_under y b u a names v = Judge (definitions v) (in_body (body_in b) (Some u) names (context v y)) a (Some u)

-- The same where its names are in scope. What else is known where the function stands is of no account in its body.
abbrev pub judge_body : Body → TermId → Expression ℕ → View → Judgement Typed
judge_body b id a v = body_under (body_place b id) b (term v.later id) a [] v
