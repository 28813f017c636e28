-- Patterns and what is judged with their names, by the definitions and the names in scope.
use Rattle.std.specs.Prelude.{ℕ, List, map}
use Rattle.mo_types.specs.Sub.{Each}
use Rattle.type_terms.specs.declared.form.Form.{Form}
use Rattle.type_terms.specs.declared.form.TermId.{TermId}
use Rattle.typing_rules.specs.AbstractSyntax.{Cases, Expression, Pattern}
use Rattle.typing_rules.specs.Expressions.{JudgeCases}
use Rattle.typing_rules.specs.Judgements.{Gives, Judgement, Part}
use Rattle.typing_rules.specs.TypedTrees.{Note, Typed}
use Rattle.type_definitions.specs.Meanings.{term}
use Rattle.met_types.specs.States.{State}
use Rattle.abstract_tree.specs.declared.expressions.Case.{Case}
use Rattle.abstract_tree.specs.TreeView.{case, cases, plain_case}
use Rattle.value_scopes.specs.declared.note.Note as value_note
use Rattle.value_scopes.specs.Values.{noted}
use Rattle.typed_patterns.specs.Making.{pattern_in}
use Rattle.judging.specs.declared.site.Site.{Site}
use Rattle.judging.specs.Views.{View, context, definitions, kind_reached, typed_in, wanted_in}
use Rattle.scope_judging.specs.Rules.{judge_under, stands}
use Rattle.pattern_rules.specs.declared.arms.Arm.{Arm}

-- a pattern, and an expression with its names
abbrev pub arm : Site → Pattern ℕ → TermId → Expression ℕ → View → Judgement (Pattern Note × Typed)
arm x q id a v = Part (stands q id v) (λ r. Part (judge_under x.place a x.wanted r.0 v) (λ b. Gives (r.1, b)))

abbrev pub judge_cases : Site → List (Case ℕ) → TermId → View → Judgement (Cases Note)
judge_cases x cs id v = JudgeCases (definitions v) (context v x.place) (cases (map plain_case cs)) (term v.later id) (wanted_in v x.wanted)

-- ---- what is given, as it is seen in a table

abbrev pub arm_in : Arm → List Form → Pattern Note × Typed
arm_in made later = (pattern_in made.pattern later, typed_in made.body later)

abbrev pub arm_reached : State → Arm → Type 0
arm_reached s made = kind_reached s made.body

abbrev pub case_of : Arm → Case value_note.Note
case_of made = record { pattern = made.pattern; body = made.body }

abbrev pub cases_in : List (Case value_note.Note) → List Form → Cases Note
cases_in made later = cases (map (case (noted later)) made)

abbrev pub case_reached : State → Case value_note.Note → Type 0
case_reached s made = kind_reached s made.body

abbrev pub cases_reached : State → List (Case value_note.Note) → Type 0
cases_reached s made = Each (case_reached s) made
