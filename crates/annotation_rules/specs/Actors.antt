-- Actor references, and expressions whose type is written.
use Rattle.std.specs.Prelude.{◌≡◌, ℕ, Bool, List, Some, is_some}
use Rattle.mo_types.specs.Heads.{actor_of}
use Rattle.type_terms.specs.declared.form.Form.{Form}
use Rattle.type_terms.specs.declared.form.TermId.{TermId}
use Rattle.typing_rules.specs.declared.condition.Condition.TheVariants as condition
use Rattle.typing_rules.specs.AbstractSyntax.{Bytes, Expression, TypeNode}
use Rattle.typing_rules.specs.AbstractSyntax as p
use Rattle.typing_rules.specs.Ends.{Has}
use Rattle.typing_rules.specs.Expressions.{actor_text}
use Rattle.typing_rules.specs.Heads.{head}
use Rattle.typing_rules.specs.Judgements.{Judgement, Case, IsPrincipal, Needs, Part, Tests}
use Rattle.typing_rules.specs.Terms.{Term}
use Rattle.typing_rules.specs.TypedTrees.{Typed, place, typed}
use Rattle.type_definitions.specs.Meanings.{term}
use Rattle.type_definitions.specs.Tables.{Later}
use Rattle.type_definitions.specs.Definitions.{rules_in}
use Rattle.met_types.specs.States.{State}
use Rattle.judging.specs.declared.site.Site.{Site}
use Rattle.judging.specs.Views.{View, definitions, judge_at, wanted_in}

-- whether it is a type of actors
abbrev pub IsActorAnswer : State → TermId → Bool → Type 0
IsActorAnswer s id is = (later : List Form) → Later s.forms later → is_some (actor_of (head (rules_in later s.listed) (term later id))) ≡ is

module _ (x : Site) (a : Expression ℕ) (u : TypeNode) where
  abbrev pub actor_in : View → Term → Bytes → Judgement Typed
  actor_in v kind text =
      Tests condition.NotActor x.at (is_some (actor_of (head (definitions v) kind)))
      (Needs condition.BadPrincipal x.at (IsPrincipal text) (Has x.at (wanted_in v x.wanted) kind (p.Annotated (typed (place a) kind (p.ActorReference text)) u)))

  abbrev pub value_in : View → Term → Judgement Typed
  value_in v kind = Part (judge_at x.place a (Some kind) v) (λ b. Has x.at (wanted_in v x.wanted) kind (p.Annotated b u))

  -- the expression of this type, as it is written
  abbrev pub annotated_in : View → Term → Judgement Typed
  annotated_in v kind = Case (actor_text a) (actor_in v kind) (λ _. value_in v kind)
