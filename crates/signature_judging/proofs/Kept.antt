-- Names of types that are as they were afterwards.
use Rattle.std.proofs.Common.{◌≡◌, List, Ok, Err, refl, sym, subst}
use Rattle.std.specs.Prelude.{OnOk, Result}
use Rattle.type_terms.specs.declared.form.Form.{Form}
use Rattle.typing_rules.specs.Contexts.{Scope}
use Rattle.typing_rules.specs.Judgements.{Judgement}
use Rattle.met_types.specs.States.{State}
use Rattle.type_judgements.specs.declared.refusal.Refusal.{Refusal}
use Rattle.type_scopes.specs.Scopes.{Names as TypeNames}
use Rattle.value_scopes.specs.declared.scopes.Scopes.{Scopes}
use Rattle.judging.specs.declared.checker.Checker.{Checker}
use Rattle.judging.specs.declared.site.Site.{Site}
use Rattle.judging.specs.Parts.{Ready}
use Rattle.judging.specs.Views.{View}
use Rattle.judging.specs.Answers.{Answers}
use Rattle.judging.proofs.Steps.{ready_on}
use Rattle.scope_judging.specs.Binding.{Binds}
use Rattle.scope_judging.proofs.Under.{anywhere}
use Rattle.typed_patterns.specs.Binding.{Names}

-- the names in scope, with these of types
abbrev pub typed : Scopes → TypeNames → Scopes
typed c t = record c { types = t }

module _ {A M : Type 0} (see : M → List Form → A) (good : State → M → Type 0) (j : View → Judgement A) (c : Scopes) (k l : Checker) (t : TypeNames) where
  pub answers_kept : (r : Result M Refusal) → OnOk r (t ≡ c.types) → Answers see good j c k c l r → Answers see good j c k (typed c t) l r
  answers_kept (Ok m) e h = subst (λ (u : TypeNames). Answers see good j c k (typed c u) l (Ok m)) (sym e) h
  answers_kept (Err x) e h = anywhere see good j c c (typed c t) k l (Err x) refl h

-- a rule can be applied there afterwards
pub ready_there : {A M : Type 0} (see : M → List Form → A) (good : State → M → Type 0) (j : View → Judgement A) (c d : Scopes) (k l : Checker) (r : Result M Refusal) (x : Site) → Answers see good j c k d l r → Ready k c x → OnOk r (Ready l d x)
ready_there see good j c d k l (Ok m) x h q = ready_on k l c d x q h.outcome.sound h.outcome.goes
ready_there see good j c d k l (Err e) x h q = tt

module _ {X M : Type 0} (see : M → List Form → X) (j : View → Judgement (Scope × X)) (c : Scopes) (k l : Checker) (after : Names) (t : TypeNames) where
  pub binds_kept : (r : Result M Refusal) → OnOk r (t ≡ c.types) → Binds see j c k (record c { values = after }) l r → Binds see j c k (record c { values = after; types = t }) l r
  binds_kept (Ok m) e h = subst (λ (u : TypeNames). Binds see j c k (record c { values = after; types = u }) l (Ok m)) (sym e) h
  binds_kept (Err x) e h = record { more = h.more; answer = h.answer; pushed = tt }
