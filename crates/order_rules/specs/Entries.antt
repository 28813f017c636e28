-- Declarations of a list, judged in their order: what they come to, and which names stand in front of the others then.
use Rattle.std.specs.Prelude.{◌≡◌, ℕ, Bool, true, false, List, Result, OnOk, IfSome, Option, Some, None, map, option_map}
use Rattle.mo_types.specs.Sub.{Each}
use Rattle.type_terms.specs.declared.form.Form.{Form}
use Rattle.typing_rules.specs.AbstractSyntax.{Declaration}
use Rattle.typing_rules.specs.Contexts.{with_values}
use Rattle.typing_rules.specs.Expressions.{JudgeOne, JudgeOrder}
use Rattle.typing_rules.specs.Judgements.{Judgement}
use Rattle.typing_rules.specs.Lists as rules
use Rattle.typing_rules.specs.Terms.{Term, unit}
use Rattle.type_definitions.specs.Meanings.{term}
use Rattle.met_types.specs.States.{State, IsReached}
use Rattle.abstract_tree.specs.declared.declarations.Declaration as value
use Rattle.abstract_tree.specs.TreeView.{declaration_form}
use Rattle.type_judgements.specs.declared.refusal.Refusal.{Refusal}
use Rattle.value_scopes.specs.declared.place.Place.{Place}
use Rattle.value_scopes.specs.declared.scopes.Scopes.{Scopes}
use Rattle.value_scopes.specs.Places.{context_in}
use Rattle.value_scopes.specs.Values.{noted, scope_in}
use Rattle.typed_patterns.specs.Binding.{Names}
use Rattle.judging.specs.declared.checker.Checker.{Checker}
use Rattle.judging.specs.declared.site.Site.{Site}
use Rattle.judging.specs.Views.{View, context, definitions, wanted_in}
use Rattle.judging.specs.Answers.{Answers}
use Rattle.scope_judging.specs.Binding.{under}
use Rattle.list_judging.specs.Lists.{seen_list}
use Rattle.order_rules.specs.declared.entries.Entry.{Entry}
use Rattle.order_rules.specs.declared.entries.MadeDeclaration.{MadeDeclaration}
use Rattle.order_rules.specs.declared.entries.MadeRun.{MadeRun}
use Rattle.order_rules.specs.Listing.{option_list}

-- ---- what is judged

-- what is wanted of an expression of a list: of the last one of a list with a value what is wanted of the list, and of the others ()
abbrev pub wanted_of : Site → Bool → View → Option Term
wanted_of x true v = wanted_in v x.wanted
wanted_of x false v = Some unit

abbrev pub judge_one : Site → ℕ → Declaration ℕ → Bool → View → Judgement rules.Entry
judge_one x at d last v = JudgeOne (definitions v) (context v x.place) at d (wanted_of x last v)

abbrev pub judge_order : Site → Bool → List (value.Declaration ℕ) → View → Judgement rules.Run
judge_order x value xs v = JudgeOrder (definitions v) (context v x.place) x.at value (seen_list xs) None (wanted_in v x.wanted)

-- ---- what is given, as it is seen in a table, with these names that are bound besides

abbrev pub made_in : List Form → MadeDeclaration → rules.Made
made_in later m = (noted later m.note, declaration_form (noted later) m.form)

abbrev pub entry_in : Names → Entry → List Form → rules.Entry
entry_in more made later = record {
  scope = scope_in later more;
  value = option_map (term later) made.value;
  made = map (made_in later) (option_list made.made);
}

abbrev pub entry_reached : State → Entry → Type 0
entry_reached s made = IfSome made.value (IsReached s)

-- where these are the names in scope before
abbrev pub run_in : Scopes → Place → Names → MadeRun → List Form → rules.Run
run_in c y more made later = record {
  type = term later made.kind;
  known = with_values (scope_in later more) (context_in later c y);
  made = map (made_in later) made.made;
}

abbrev pub run_reached : State → MadeRun → Type 0
run_reached s made = IsReached s made.kind

-- and the types of the names are met
abbrev pub with_reached : {M : Type 0} → (State → M → Type 0) → Names → State → M → Type 0
with_reached good more s made = Each (λ q. IsReached s q.1.kind) more × good s made

-- From this checker and these names to those. The judgement says itself which names are bound besides; what it comes to is said as if they were taken away again.
module _ {A M : Type 0} (see : Names → M → List Form → A) (good : State → M → Type 0) (j : View → Judgement A) (c : Scopes) (k : Checker) (d : Scopes) (l : Checker) where
  pub record Enters (r : Result M Refusal) : Type 0 where
    pub more : Names
    pub answer : Answers (see more) (with_reached good more) j c k c l r
    pub pushed : OnOk r (d ≡ under more c)
