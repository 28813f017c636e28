-- Lists of declarations, by the definitions and the names in scope.
use Rattle.std.specs.Prelude.{ℕ, Bool, List, Option, None, map}
use Rattle.type_terms.specs.declared.form.Form.{Form}
use Rattle.typing_rules.specs.AbstractSyntax.{Declarations}
use Rattle.typing_rules.specs.Contexts.{Context}
use Rattle.typing_rules.specs.Definitions.{Definitions}
use Rattle.typing_rules.specs.Expressions.{JudgeBodies, JudgeOrder}
use Rattle.typing_rules.specs.Judgements.{Judgement}
use Rattle.typing_rules.specs.Lists.{Listed}
use Rattle.typing_rules.specs.Terms.{Term}
use Rattle.typing_rules.specs.TypedTrees.{Note}
use Rattle.type_definitions.specs.Meanings.{term}
use Rattle.met_types.specs.States.{IsReached, State}
use Rattle.abstract_tree.specs.declared.declarations.Declaration as value
use Rattle.abstract_tree.specs.TreeView.{declaration, declarations, plain_declaration}
use Rattle.value_scopes.specs.declared.note.Note as value_note
use Rattle.value_scopes.specs.Values.{noted}
use Rattle.judging.specs.declared.site.Site.{Site}
use Rattle.judging.specs.Views.{View, context, definitions, wanted_in}
use Rattle.list_judging.specs.declared.part.MadeList.{MadeList}

-- what is judged: a list of declarations
abbrev pub seen_list : List (value.Declaration ℕ) → Declarations ℕ
seen_list xs = declarations (map plain_declaration xs)

-- a list in a context, which has the value of its last expression or has none
abbrev pub list_of : Definitions → Context → ℕ → Bool → Declarations ℕ → Option Term → Judgement (Term × Declarations Note)
list_of defs e at value ds w = Listed defs e ds (λ known. JudgeOrder defs known at value ds None w) (λ known made. JudgeBodies defs known ds made)

abbrev pub judge_list : Site → Bool → List (value.Declaration ℕ) → View → Judgement (Term × Declarations Note)
judge_list x value xs v = list_of (definitions v) (context v x.place) x.at value (seen_list xs) (wanted_in v x.wanted)

-- ---- what is given, as it is seen in a table

abbrev pub declarations_in : List (value.Declaration value_note.Note) → List Form → Declarations Note
declarations_in made later = declarations (map (declaration (noted later)) made)

abbrev pub list_in : MadeList → List Form → Term × Declarations Note
list_in made later = (term later made.kind, declarations_in made.declarations later)

-- its type is met
abbrev pub list_reached : State → MadeList → Type 0
list_reached s made = IsReached s made.kind
