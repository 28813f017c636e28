-- Several questions in turn.
use Rattle.std.specs.Prelude.{Bool, List, map}
use Rattle.type_terms.specs.declared.form.Form.{Form}
use Rattle.type_terms.specs.declared.form.TermId.{TermId}
use Rattle.typing_rules.specs.Terms.{Term}
use Rattle.typing_rules.specs.Judgements.{Question, Judgement, IsBelow, AsksAll}
use Rattle.typing_rules.specs.Answers.{Answer, Comes}
use Rattle.type_definitions.specs.Meanings.{term}
use Rattle.type_definitions.specs.Tables.{Later}
use Rattle.type_definitions.specs.Definitions.{rules_in}
use Rattle.met_types.specs.States.{State}

-- whether each is below this one
abbrev pub all_below : List Form → TermId → List TermId → List Question
all_below later kind kinds = map (λ v. IsBelow v (term later kind)) (map (term later) kinds)

-- Where these are asked in turn, this is the answer: whether the answers are all yes.
abbrev pub IsAboveAll : State → TermId → List TermId → Bool → Type 0
IsAboveAll s kind kinds is = (later : List Form) → Later s.forms later → (j : Bool → Judgement Term) (met : List Term) (r : Answer Term)
    → Comes (rules_in later s.listed) (j is) met r → Comes (rules_in later s.listed) (AsksAll (all_below later kind kinds) j) met r
