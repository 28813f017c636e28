-- The bodies of a list, one after another, and a list where the types that it defines are in scope.
use Rattle.std.specs.Prelude.{ℕ, Bool, List, None, map}
use Rattle.type_terms.specs.declared.form.Form.{Form}
use Rattle.typing_rules.specs.AbstractSyntax.{Declarations}
use Rattle.typing_rules.specs.Contexts.{with_values}
use Rattle.typing_rules.specs.Expressions.{JudgeBodies, JudgeOrder}
use Rattle.typing_rules.specs.Judgements.{Gives, Judgement, Part}
use Rattle.typing_rules.specs.Signatures.{DefinitionsOf, Signatures}
use Rattle.typing_rules.specs.Terms.{Term}
use Rattle.typing_rules.specs.TypedTrees.{Note}
use Rattle.met_types.specs.States.{State}
use Rattle.type_scopes.specs.Scopes.{seen}
use Rattle.abstract_tree.specs.declared.declarations.Declaration as value
use Rattle.value_scopes.specs.declared.note.Note as value_note
use Rattle.value_scopes.specs.declared.place.Place.{Place}
use Rattle.judging.specs.declared.site.Site.{Site}
use Rattle.judging.specs.Views.{View, context, definitions, wanted_in}
use Rattle.list_judging.specs.Lists.{list_in, seen_list}
use Rattle.order_rules.specs.declared.entries.MadeDeclaration.{MadeDeclaration}
use Rattle.order_rules.specs.Entries.{judge_order, made_in}
use Rattle.list_judging.specs.declared.part.MadeList.{MadeList}
use Rattle.typed_patterns.specs.Binding.{Names}

abbrev pub judge_bodies : Place → List (value.Declaration ℕ) → List MadeDeclaration → View → Judgement (Declarations Note)
judge_bodies y xs made v = JudgeBodies (definitions v) (context v y) (seen_list xs) (map (made_in v.later) made)

abbrev pub any_list : State → List (value.Declaration value_note.Note) → Type 0
any_list s made = Unit {0}

-- where the types that the list defines are in scope
abbrev pub listed_in : Site → Bool → List (value.Declaration ℕ) → View → Judgement (Term × Declarations Note)
listed_in x value xs v =
    Part (DefinitionsOf (definitions v) (seen v.scopes.types) (seen_list xs)) (λ _. Part (Signatures (definitions v) (seen v.scopes.types) (seen_list xs)) (λ names.
    Part (JudgeOrder (definitions v) (with_values names (context v x.place)) x.at value (seen_list xs) None (wanted_in v x.wanted)) (λ run.
    Part (JudgeBodies (definitions v) run.known (seen_list xs) run.made) (λ made. Gives (run.type, made)))))

-- what is evaluated in order, and then the bodies
abbrev pub ordered_in : Site → Bool → List (value.Declaration ℕ) → View → Judgement (Term × Declarations Note)
ordered_in x value xs v =
    Part (judge_order x value xs v) (λ run. Part (JudgeBodies (definitions v) run.known (seen_list xs) run.made) (λ made. Gives (run.type, made)))

abbrev pub list_bound : Names → MadeList → List Form → Term × Declarations Note
list_bound more made later = list_in made later
