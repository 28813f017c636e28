-- How what the code has is seen by the rules: in a table of terms, with these definitions and these names in scope.
use Rattle.std.specs.Prelude.{ℕ, Bool, true, false, List, Option, Some, None, map, option_map}
use Rattle.mo_types.specs.Sub.{Each}
use Rattle.type_terms.specs.declared.form.Form.{Form}
use Rattle.type_terms.specs.declared.form.TermId.{TermId}
use Rattle.typing_rules.specs.declared.condition.Condition.TheVariants as condition
use Rattle.typing_rules.specs.AbstractSyntax.{Expression}
use Rattle.typing_rules.specs.AbstractSyntax as p
use Rattle.typing_rules.specs.Terms.{Term, unit}
use Rattle.typing_rules.specs.Definitions.{Definitions}
use Rattle.typing_rules.specs.Judgements.{Judgement, Needs, Fine, IsBelow}
use Rattle.typing_rules.specs.Contexts.{Context, in_loop}
use Rattle.typing_rules.specs.TypedTrees.{Note, Typed}
use Rattle.typing_rules.specs.Expressions.{Judge, Rule}
use Rattle.type_definitions.specs.Meanings.{term}
use Rattle.type_definitions.specs.Definitions.{Listed, rules_in}
use Rattle.met_types.specs.States.{State, IsReached}
use Rattle.abstract_tree.specs.declared.expressions.Expression as value
use Rattle.abstract_tree.specs.declared.expressions.ExpressionForm.{ExpressionForm}
use Rattle.abstract_tree.specs.TreeView.{expression, expression_form, listed}
use Rattle.value_scopes.specs.declared.note.Note as value_note
use Rattle.value_scopes.specs.declared.place.Around as value_around
use Rattle.value_scopes.specs.declared.place.Around.TheVariants as around
use Rattle.value_scopes.specs.declared.place.Place.{Place}
use Rattle.value_scopes.specs.declared.scopes.Scopes.{Scopes}
use Rattle.value_scopes.specs.Places.{around_in, context_in}
use Rattle.value_scopes.specs.Values.{noted}
use Rattle.judging.specs.declared.site.Site.{Site}

pub record View : Type 0 where
  pub later : List Form
  pub listed : Listed
  pub scopes : Scopes

abbrev pub view : List Form → Listed → Scopes → View
view later listed scopes = record { later = later; listed = listed; scopes = scopes }

abbrev pub definitions : View → Definitions
definitions v = rules_in v.later v.listed

abbrev pub context : View → Place → Context
context v e = context_in v.later v.scopes e

abbrev pub wanted_in : View → Option TermId → Option Term
wanted_in v w = option_map (term v.later) w

-- ---- what is judged

abbrev pub judge_at : Place → Expression ℕ → Option Term → View → Judgement Typed
judge_at e a w v = Judge (definitions v) (context v e) a w

abbrev pub judge : Place → Expression ℕ → Option TermId → View → Judgement Typed
judge e a w v = judge_at e a (wanted_in v w) v

-- whether a label stands directly around it
abbrev pub is_labelled : value_around.Around → Bool
is_labelled around.Labelled = true
is_labelled _ = false

-- the body of a loop, of which () is wanted
abbrev pub loop_in : Site → Expression ℕ → View → Judgement Typed
loop_in x a v = Judge (definitions v) (in_loop (around_in x.around) (context v x.place)) a (Some unit)

abbrev pub rule : Site → p.Form ℕ → View → Judgement Typed
rule x f v = Rule (definitions v) (around_in x.around) (context v x.place) x.at f (wanted_in v x.wanted)

-- the type is below the one that is wanted
abbrev pub below : ℕ → Option Term → Term → Judgement (Unit {0})
below at None u = Fine
below at (Some w) u = Needs condition.Mismatch at (IsBelow u w) Fine

abbrev pub below_wanted : Site → TermId → View → Judgement (Unit {0})
below_wanted x id v = below x.at (wanted_in v x.wanted) (term v.later id)

-- ---- what is given

abbrev pub typed_in : value.Expression value_note.Note → List Form → Typed
typed_in made later = expression (noted later) made

abbrev pub form_in : ExpressionForm value_note.Note → List Form → p.Form Note
form_in made later = expression_form (noted later) made

-- its type is met
abbrev pub kind_reached : State → value.Expression value_note.Note → Type 0
kind_reached s made = IsReached s made.note.kind

-- several, each of whose types is met
abbrev pub each_in : List (value.Expression value_note.Note) → List Form → p.Expressions Note
each_in made later = listed (map (λ a. typed_in a later) made)

abbrev pub each_reached : State → List (value.Expression value_note.Note) → Type 0
each_reached s made = Each (kind_reached s) made

-- the type of this number
abbrev pub term_in : TermId → List Form → Term
term_in id later = term later id

abbrev pub nothing : Unit {0} → List Form → Unit {0}
nothing made later = made

abbrev pub no_more : State → Unit {0} → Type 0
no_more s made = Unit {0}
