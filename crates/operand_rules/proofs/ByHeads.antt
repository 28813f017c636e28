-- Rules that go on by whether the head of a type is so.
use Rattle.std.proofs.Common.{◌≡◌, ◌∙◌, ℕ, Bool, true, false, List, Err, ap}
use Rattle.std.specs.Prelude.{Result}
use Rattle.mo_types.specs.declared.node.Node.{Node}
use Rattle.type_terms.specs.declared.form.Form.{Form}
use Rattle.type_terms.specs.declared.form.TermId.{TermId}
use Rattle.typing_rules.specs.declared.condition.Condition.{Condition}
use Rattle.typing_rules.specs.Heads.{head}
use Rattle.typing_rules.specs.Terms.{Term}
use Rattle.typing_rules.specs.Judgements.{Judgement, Tests}
use Rattle.type_definitions.specs.Meanings.{term}
use Rattle.met_types.specs.States.{State}
use Rattle.type_judgements.specs.declared.refusal.Refusal.{Refusal}
use Rattle.type_judgements.specs.declared.refusal.Refusal.TheVariants as refusal
use Rattle.value_scopes.specs.declared.scopes.Scopes.{Scopes}
use Rattle.judging.specs.declared.checker.Checker.{Checker}
use Rattle.judging.specs.Views.{View, view, definitions}
use Rattle.judging.specs.Answers.{Answers}
use Rattle.judging.proofs.Chains.{seen_as, fails}
use Rattle.operand_rules.specs.Heads.{HeadIs}

module _ {A M : Type 0} (see : M → List Form → A) (good : State → M → Type 0) (q : Condition) (at : ℕ) (is : Node Term → Bool) (id : TermId) (j : View → Judgement A) (c : Scopes) (k : Checker) (b : Bool) (h : HeadIs is k.types id b) where
  abbrev by_head : View → Judgement A
  by_head v = Tests q at (is (head (definitions v) (term v.later id))) (j v)

  pub head_holds : (d : Scopes) (l : Checker) (r : Result M Refusal) → b ≡ true → Answers see good j c k d l r → Answers see good by_head c k d l r
  head_holds d l r e g = seen_as see good by_head j c d k l r (λ later z. ap (λ (x : Bool). Tests q at x (j (view later k.types.listed c))) (h later z ∙ e)) g

  pub head_fails : b ≡ false → Answers see good by_head c k c k (Err (refusal.False at q))
  head_fails e = fails see good by_head c k q at (λ later z. ap (λ (x : Bool). Tests q at x (j (view later k.types.listed c))) (h later z ∙ e))
