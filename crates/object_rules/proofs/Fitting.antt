-- A field of one type where one of another is wanted.
use Rattle.std.proofs.Common.{◌≡◌, ℕ, Bool, true, false, List, Ok, Err, refl}
use Rattle.std.specs.Prelude.{Result}
use Rattle.std.specs.Result.{IsErr, IsErrAnd}
use Rattle.type_terms.specs.declared.form.Form.{Form}
use Rattle.type_terms.specs.declared.form.TermId.{TermId}
use Rattle.typing_rules.specs.declared.condition.Condition.TheVariants as condition
use Rattle.typing_rules.specs.Expressions.{field_questions}
use Rattle.typing_rules.specs.Judgements.{Judgement, Fine, IsBelow, Needs, NeedsEach, Part}
use Rattle.type_definitions.specs.Meanings.{term}
use Rattle.type_judgements.specs.Judged.{Judged}
use Rattle.type_judgements.specs.declared.refusal.Refusal.{Refusal}
use Rattle.value_scopes.specs.declared.scopes.Scopes.{Scopes}
use Rattle.judging.specs.declared.checker.Checker.{Checker}
use Rattle.judging.specs.Answers.{Answers}
use Rattle.judging.specs.Parts.{Sound}
use Rattle.judging.specs.Views.{View, no_more, nothing}
use Rattle.judging.proofs.Chains.{given, goes_on, seen_as, stops}
use Rattle.judging.proofs.Steps.{judged_as, needs_then}

module _ (at : ℕ) (id w : TermId) (c : Scopes) (k : Checker) (s : Sound k c) where
  -- the type of the field is below the other
  abbrev pub below : List Form → Judgement (Unit {0})
  below later = Needs condition.Mismatch at (IsBelow (term later id) (term later w)) Fine

  -- and the other is below it
  abbrev pub above : List Form → Judgement (Unit {0})
  above later = Needs condition.Mismatch at (IsBelow (term later w) (term later id)) Fine

  abbrev pub fits : Bool → View → Judgement (Unit {0})
  fits mutable v = NeedsEach condition.Mismatch at (field_questions mutable (term v.later id) (term v.later w)) Fine

  abbrev then_above : Bool → View → Judgement (Unit {0})
  then_above true v = above v.later
  then_above false v = Fine

  by_below : (mutable : Bool) (r : Result (Unit {0}) Refusal) → Answers nothing no_more (λ v. Part (below v.later) (λ _. then_above mutable v)) c k c k r → Answers nothing no_more (fits mutable) c k c k r
  by_below true r h =
      seen_as nothing no_more (fits true) (λ v. Part (below v.later) (λ _. above v.later)) c c k k r (λ later z. needs_then condition.Mismatch at (IsBelow (term later id) (term later w)) (above later)) h
  by_below false r h = seen_as nothing no_more (fits false) (λ v. Part (below v.later) (λ _. Fine)) c c k k r (λ later z. needs_then condition.Mismatch at (IsBelow (term later id) (term later w)) Fine) h

  pub not_below : (mutable : Bool) (e : Refusal) (r : Result (Unit {0}) Refusal) → IsErr r × IsErrAnd r (λ y. y ≡ e) → Judged below k.types k.types nothing (Err e) → Answers nothing no_more (fits mutable) c k c k r
  not_below mutable e r h j =
      by_below mutable r (stops nothing no_more nothing no_more (λ v. below v.later) (λ v _. then_above mutable v) c c k k e r h (judged_as nothing no_more below c k (Err e) s (λ m z. tt) j))

  module _ (j : Judged below k.types k.types nothing (Ok tt)) where
    is_below : Answers nothing no_more (λ v. below v.later) c k c k (Ok tt)
    is_below = judged_as nothing no_more below c k (Ok tt) s (λ m z. tt) j

    pub mutable_fits : (r : Result (Unit {0}) Refusal) → Judged above k.types k.types nothing r → Answers nothing no_more (fits true) c k c k r
    mutable_fits r h = by_below true r (goes_on nothing no_more nothing no_more (λ v. below v.later) (λ v _. above v.later) c c c k k k tt r is_below (judged_as nothing no_more above c k r s (λ m z. tt) h))

    pub constant_fits : Answers nothing no_more (fits false) c k c k (Ok tt)
    constant_fits =
        by_below false (Ok tt)
        (goes_on nothing no_more nothing no_more (λ v. below v.later) (λ v _. Fine) c c c k k k tt (Ok tt) is_below (given nothing no_more (λ v. Fine) c k tt s tt (λ later z. refl)))
