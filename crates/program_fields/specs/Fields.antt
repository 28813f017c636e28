-- What the judging of a program's fields comes to.
use Rattle.std.specs.Prelude.{◌≡◌, ℕ, false, List, [], ◌∷◌, Option, Some, None, Result, Ok, Err, option_map}
use Rattle.mo_scopes.specs.Scopes.{named}
use Rattle.type_terms.specs.declared.form.Form.{Form}
use Rattle.type_terms.specs.declared.form.TermId.{TermId}
use Rattle.typing_rules.specs.AbstractSyntax.{Bytes, Declarations, Program}
use Rattle.typing_rules.specs.Answers.{answer, fault, Comes}
use Rattle.typing_rules.specs.Gathered.{gathered}
use Rattle.typing_rules.specs.Judgements.{Judgement, Gives, MeetsEach, Part}
use Rattle.typing_rules.specs.Programs.{JudgeFieldsOf, basics, made_program}
use Rattle.typing_rules.specs.Terms.{Term}
use Rattle.typing_rules.specs.TypedTrees.{Note}
use Rattle.type_definitions.specs.Definitions.{rules_in}
use Rattle.type_definitions.specs.Meanings.{term}
use Rattle.met_types.specs.States.{State, Stands}
use Rattle.type_judgements.specs.declared.refusal.Refusal.{Refusal}
use Rattle.type_judgements.specs.declared.refusal.Refusal.TheVariants as refusal
use Rattle.abstract_tree.specs.declared.declarations.Declaration.{Declaration}
use Rattle.abstract_tree.specs.declared.program.Program as value
use Rattle.abstract_tree.specs.TreeView.{plain_program}
use Rattle.value_scopes.specs.declared.bound.Bound.{Bound}
use Rattle.value_scopes.specs.declared.note.Note as value_note
use Rattle.value_scopes.specs.declared.place.Around.TheVariants as around
use Rattle.judging.specs.declared.site.Site.{Site}
use Rattle.judging.specs.Views.{View}
use Rattle.list_judging.specs.Lists.{declarations_in, judge_list}
use Rattle.first_scopes.specs.Beginning.{first_place}

-- where the fields of a program stand
abbrev pub first_site : Site
first_site = record { at = 0; place = first_place; around = around.Other; wanted = None }

-- ---- what is judged

-- the type of what the name of a program stands for
abbrev pub found_type : List (Bytes × Bound) → Option Bytes → Option TermId
found_type values None = None
found_type values (Some x) = option_map (λ b. b.kind) (named values x)

abbrev pub type_in : List Form → Option TermId → List Term
type_in later None = []
type_in later (Some id) = term later id ∷ []

-- the same as it is seen, if there is a name
abbrev pub own_in : Option Bytes → View → List Term
own_in name v = type_in v.later (found_type v.scopes.values name)

-- the list of the fields, before which the types of every program are met
abbrev pub listed_fields : List (Declaration ℕ) → View → Judgement (Term × Declarations Note)
listed_fields xs v = MeetsEach basics (judge_list first_site false xs v)

-- the program, behind whose fields the type of its name is met
abbrev pub all_fields : value.Program ℕ → View → Judgement (Program Note)
all_fields x v = Part (listed_fields x.fields v) (λ q. MeetsEach (own_in x.name v) (Gives (made_program (plain_program x) q.1)))

-- ---- what is given

-- the program with these fields, as it is seen in a table
abbrev pub in_program : value.Program ℕ → List (Declaration value_note.Note) → List Form → Program Note
in_program x made later = made_program (plain_program x) (declarations_in made later)

abbrev pub whatever : State → List (Declaration value_note.Note) → Type 0
whatever s made = Unit {0}

-- What the judging of the fields comes to, where no type was met before. What is given is seen in this state of the types.
module _ (x : value.Program ℕ) (s : State) where
  -- They are typed so, and the graph has the types that were met.
  pub record FieldsTyped (made : List (Declaration value_note.Note)) : Type 0 where
    pub met : List Term
    pub comes : Comes (gathered (plain_program x)) (JudgeFieldsOf (plain_program x)) [] (answer (Ok (in_program x made s.forms)) met)
    pub stands : Stands met s
    pub definitions : rules_in s.forms s.listed ≡ gathered (plain_program x)

  abbrev pub FieldsCome : Result (List (Declaration value_note.Note)) Refusal → Type 0
  FieldsCome (Ok made) = FieldsTyped made
  FieldsCome (Err (refusal.False place c)) = (met : List Term) × Comes (gathered (plain_program x)) (JudgeFieldsOf (plain_program x)) [] (answer (Err (fault c place)) met)
  FieldsCome (Err refusal.Memory) = Unit {0}
