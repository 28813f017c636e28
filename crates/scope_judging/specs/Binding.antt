-- What functions that bind names come to: what their judgement comes to, and which names stand in front of the others then.
use Rattle.std.specs.Prelude.{◌≡◌, List, ◌++◌, Result, OnOk}
use Rattle.mo_types.specs.Sub.{Each}
use Rattle.type_terms.specs.declared.form.Form.{Form}
use Rattle.typing_rules.specs.Contexts.{Scope}
use Rattle.typing_rules.specs.Judgements.{Judgement}
use Rattle.met_types.specs.States.{State, IsReached}
use Rattle.type_judgements.specs.declared.refusal.Refusal.{Refusal}
use Rattle.value_scopes.specs.declared.scopes.Scopes.{Scopes}
use Rattle.value_scopes.specs.Values.{scope_in}
use Rattle.typed_patterns.specs.Binding.{Names}
use Rattle.judging.specs.declared.checker.Checker.{Checker}
use Rattle.judging.specs.Views.{View}
use Rattle.judging.specs.Answers.{Answers}

-- with these names of values in front of the others
abbrev pub under : Names → Scopes → Scopes
under more c = record c { values = more ++ c.values }

-- the names that are bound, and what is given
abbrev pub bound : {X M : Type 0} → Names → (M → List Form → X) → M → List Form → Scope × X
bound more see made later = (scope_in later more, see made later)

-- the types of the names are met
abbrev pub names_reached : {M : Type 0} → Names → State → M → Type 0
names_reached more s made = Each (λ q. IsReached s q.1.kind) more

-- From this checker and these names to those. The judgement gives the names that are bound besides; what it comes to is said as if they were taken away again.
module _ {X M : Type 0} (see : M → List Form → X) (j : View → Judgement (Scope × X)) (c : Scopes) (k : Checker) (d : Scopes) (l : Checker) where
  pub record Binds (r : Result M Refusal) : Type 0 where
    pub more : Names
    pub answer : Answers (bound more see) (names_reached more) j c k c l r
    pub pushed : OnOk r (d ≡ under more c)
