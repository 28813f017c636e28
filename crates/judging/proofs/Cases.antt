-- Rules that go on by whether something is there, or is so.
use Rattle.std.proofs.Common.{◌≡◌, ◌∙◌, ℕ, Bool, true, false, List, Err, Option, Some, None, option_map, refl, ap}
use Rattle.std.specs.Prelude.{Result}
use Rattle.mo_types.specs.declared.node.Node.{Node}
use Rattle.type_terms.specs.declared.form.Form.{Form}
use Rattle.type_terms.specs.declared.form.TermId.{TermId}
use Rattle.typing_rules.specs.declared.condition.Condition.{Condition}
use Rattle.typing_rules.specs.Terms.{Term}
use Rattle.typing_rules.specs.Judgements.{Judgement, Case, Given, Tests}
use Rattle.typing_rules.specs.Ends.{wanted, with_type}
use Rattle.type_definitions.specs.Meanings.{term}
use Rattle.type_definitions.specs.Tables.{Later}
use Rattle.type_definitions.specs.Definitions.{rules_in}
use Rattle.met_types.specs.States.{State}
use Rattle.type_judgements.specs.declared.refusal.Refusal.{Refusal}
use Rattle.type_judgements.specs.declared.refusal.Refusal.TheVariants as refusal
use Rattle.value_scopes.specs.declared.scopes.Scopes.{Scopes}
use Rattle.judging.specs.declared.checker.Checker.{Checker}
use Rattle.judging.specs.Heads.{HeadHas, WantedHas}
use Rattle.judging.specs.Views.{View, view, definitions, wanted_in}
use Rattle.judging.specs.Answers.{Answers}
use Rattle.judging.proofs.Chains.{seen_as, fails}

module _ {A M X : Type 0} (see : M → List Form → A) (good : State → M → Type 0) (o : View → Option X) (c d : Scopes) (k l : Checker) (r : Result M Refusal) where
  module _ (j : View → X → Judgement A) (i : View → Unit {0} → Judgement A) where
    pub case_some : (a : List Form → X) → ((later : List Form) → Later k.types.forms later → o (view later k.types.listed c) ≡ Some (a later)) → Answers see good (λ v. j v (a v.later)) c k d l r
        → Answers see good (λ v. Case (o v) (j v) (i v)) c k d l r
    case_some a e h =
        seen_as see good (λ v. Case (o v) (j v) (i v)) (λ v. j v (a v.later)) c d k l r
        (λ later w. ap (λ (x : Option X). Case x (j (view later k.types.listed c)) (i (view later k.types.listed c))) (e later w)) h

    pub case_none : ((later : List Form) → Later k.types.forms later → o (view later k.types.listed c) ≡ None) → Answers see good (λ v. i v tt) c k d l r → Answers see good (λ v. Case (o v) (j v) (i v)) c k d l r
    case_none e h =
        seen_as see good (λ v. Case (o v) (j v) (i v)) (λ v. i v tt) c d k l r
        (λ later w. ap (λ (x : Option X). Case x (j (view later k.types.listed c)) (i (view later k.types.listed c))) (e later w)) h

  pub given_some : (q : Condition) (place : ℕ) (j : View → X → Judgement A) (a : List Form → X) → ((later : List Form) → Later k.types.forms later → o (view later k.types.listed c) ≡ Some (a later))
      → Answers see good (λ v. j v (a v.later)) c k d l r → Answers see good (λ v. Given q place (o v) (j v)) c k d l r
  given_some q place j a e h =
      seen_as see good (λ v. Given q place (o v) (j v)) (λ v. j v (a v.later)) c d k l r (λ later w. ap (λ (x : Option X). Given q place x (j (view later k.types.listed c))) (e later w)) h

module _ {A M : Type 0} (see : M → List Form → A) (good : State → M → Type 0) (q : Condition) (place : ℕ) where
  pub given_none : {X : Type 0} (o : View → Option X) (c : Scopes) (k : Checker) (j : View → X → Judgement A) → ((later : List Form) → Later k.types.forms later → o (view later k.types.listed c) ≡ None)
      → Answers see good (λ v. Given q place (o v) (j v)) c k c k (Err (refusal.False place q))
  given_none {X} o c k j e = fails see good (λ v. Given q place (o v) (j v)) c k q place (λ later w. ap (λ (x : Option X). Given q place x (j (view later k.types.listed c))) (e later w))

  pub tests_hold : (b : Bool) (j : View → Judgement A) (c d : Scopes) (k l : Checker) (r : Result M Refusal) → b ≡ true → Answers see good j c k d l r → Answers see good (λ v. Tests q place b (j v)) c k d l r
  tests_hold b j c d k l r e h = seen_as see good (λ v. Tests q place b (j v)) j c d k l r (λ later w. ap (λ (x : Bool). Tests q place x (j (view later k.types.listed c))) e) h

  pub tests_fail : (b : Bool) (j : View → Judgement A) (c : Scopes) (k : Checker) → b ≡ false → Answers see good (λ v. Tests q place b (j v)) c k c k (Err (refusal.False place q))
  tests_fail b j c k e = fails see good (λ v. Tests q place b (j v)) c k q place (λ later w. ap (λ (x : Bool). Tests q place x (j (view later k.types.listed c))) e)

-- ---- by what the type that is wanted has

module _ {X Y : Type 0} (of : Node Term → Option X) (s : State) (w : Option TermId) (show : List Form → Y → X) where
  pub wanted_found : (id : TermId) (o : Option Y) → w ≡ Some id → HeadHas of s id (λ later. option_map (show later) o) → WantedHas of s w show (option_map (λ y. (id, y)) o)
  wanted_found id o e h later l =
      ap (λ (x : Option TermId). wanted (rules_in later s.listed) of (option_map (term later) x)) e ∙ (ap (with_type (rules_in later s.listed) (term later id)) (h later l) ∙ by o)
    where
      by : (o : Option Y) → with_type (rules_in later s.listed) (term later id) (option_map (show later) o) ≡ option_map (λ (q : TermId × Y). (term later q.0, show later q.1)) (option_map (λ y. (id, y)) o)
      by None = refl
      by (Some y) = refl

  pub none_wanted : w ≡ None → WantedHas of s w show None
  none_wanted e later l = ap (λ (x : Option TermId). wanted (rules_in later s.listed) of (option_map (term later) x)) e

module _ {A M X Y : Type 0} (see : M → List Form → A) (good : State → M → Type 0) (of : Node Term → Option X) (show : List Form → Y → X) (w : Option TermId) (j : View → Term × X → Judgement A) (i : View → Unit {0} → Judgement A)
    (c d : Scopes) (k l : Checker) (r : Result M Refusal) (o : Option (TermId × Y)) (h : WantedHas of k.types w show o) where
  abbrev by_wanted : View → Judgement A
  by_wanted v = Case (wanted (definitions v) of (wanted_in v w)) (j v) (i v)

  pub as_wanted : (id : TermId) (y : Y) → o ≡ Some (id, y) → Answers see good (λ v. j v (term v.later id, show v.later y)) c k d l r → Answers see good by_wanted c k d l r
  as_wanted id y e g =
      case_some see good (λ v. wanted (definitions v) of (wanted_in v w)) c d k l r j i (λ later. (term later id, show later y)) (λ later z. h later z ∙ ap (option_map (λ (q : TermId × Y). (term later q.0, show later q.1))) e) g

  pub unwanted : o ≡ None → Answers see good (λ v. i v tt) c k d l r → Answers see good by_wanted c k d l r
  unwanted e g = case_none see good (λ v. wanted (definitions v) of (wanted_in v w)) c d k l r j i (λ later z. h later z ∙ ap (option_map (λ (q : TermId × Y). (term later q.0, show later q.1))) e) g
