-- What definitions lead to, as far as following names needs it.
use Rattle.std.specs.Prelude.{◌≡◌, ℕ, ◌<◌, List, [], ◌∷◌, Option, Some, None, length}
use Rattle.type_terms.specs.declared.form.Form.{Form}
use Rattle.type_terms.specs.declared.form.TermId.{TermId}
use Rattle.typing_rules.specs.Terms.{Term}
use Rattle.typing_rules.specs.Terms as t
use Rattle.typing_rules.specs.Definitions.{definition_at, followed, followed_right, reached}
use Rattle.type_definitions.specs.declared.definitions.Definition.{Definition}
use Rattle.type_definitions.specs.declared.chains.Outcome.{Outcome}
use Rattle.type_definitions.specs.declared.chains.Outcome.TheVariants as outcome
use Rattle.type_definitions.specs.declared.chains.Step.{Step}
use Rattle.type_definitions.specs.declared.chains.Step.TheVariants as step
use Rattle.type_definitions.specs.Meanings.{term}
use Rattle.type_definitions.specs.Tables.{Later}
use Rattle.type_definitions.specs.Places.{first_place}
use Rattle.type_definitions.specs.Putting as putting
use Rattle.type_definitions.specs.Definitions.{Listed, at_place, types_in}

abbrev pub outcome_of : Option Term → Outcome
outcome_of None = outcome.Endless
outcome_of (Some (t.Parameter p)) = outcome.Parameter p
outcome_of (Some u) = outcome.Form

abbrev pub or_endless : Option Outcome → Outcome
or_endless None = outcome.Endless
or_endless (Some o) = o

abbrev pub outcome_at : List ℕ → List Outcome → ℕ → Outcome
outcome_at names outcomes at = or_endless (at_place outcomes (first_place names at))

-- the argument that stands in the place of a parameter of a definition
abbrev pub argument_in : Option Definition → List TermId → ℕ → Option TermId
argument_in None ids p = None
argument_in (Some d) ids p = putting.argument_at d.parameters ids p

-- what names lead to, where definitions lead to these
abbrev pub Agree : Listed → List Outcome → (ℕ → Option Term) → Type 0
Agree l outcomes below = (at : ℕ) → outcome_of (below at) ≡ outcome_at l.names outcomes at

module _ (forms : List Form) (l : Listed) (outcomes : List Outcome) where
  abbrev pub Follows : TermId → Outcome → Type 0
  Follows id o = (later : List Form) → Later forms later → (below : ℕ → Option Term) → Agree l outcomes below → outcome_of (followed (types_in later l) below (term later id)) ≡ o

  pub record Leads (id next : TermId) : Type 0 where
    pub less : next.index < id.index
    pub is : (later : List Form) → Later forms later → (below : ℕ → Option Term) → Agree l outcomes below
        → followed (types_in later l) below (term later id) ≡ followed (types_in later l) below (term later next)

  abbrev pub IsStepOf : TermId → Step → Type 0
  IsStepOf id (step.Done o) = Follows id o
  IsStepOf id (step.Next next) = Leads id next

  -- the outcomes of the right sides, one by one
  abbrev pub FollowEach : List Definition → List Outcome → Type 0
  FollowEach [] [] = Unit {0}
  FollowEach (x ∷ xs) (o ∷ os) = Follows x.right o × FollowEach xs os
  FollowEach _ _ = ⊥

  -- the outcomes within one more definition
  pub record IsRound (made : List Outcome) : Type 0 where
    pub many : length made ≡ length l.types
    pub is : (later : List Form) → Later forms later → (below : ℕ → Option Term) → Agree l outcomes below → Agree l made (λ at. followed_right (types_in later l) below (definition_at (types_in later l) at))

-- what each definition leads to
abbrev pub AreOutcomes : List Form → Listed → List Outcome → Type 0
AreOutcomes forms l outcomes = (later : List Form) → Later forms later → Agree l outcomes (reached (types_in later l))
