-- The rule of an expression, by its form.
use Rattle.std.proofs.Common.{◌≡◌, ℕ, sym, subst}
use Rattle.std.specs.Prelude.{Result}
use Rattle.typing_rules.specs.AbstractSyntax as p
use Rattle.type_judgements.specs.declared.refusal.Refusal.{Refusal}
use Rattle.abstract_tree.specs.declared.expressions.Expression.{Expression}
use Rattle.value_scopes.specs.declared.note.Note.{Note}
use Rattle.value_scopes.specs.declared.scopes.Scopes.{Scopes}
use Rattle.judging.specs.declared.checker.Checker.{Checker}
use Rattle.judging.specs.declared.site.Site.{Site}
use Rattle.judging.specs.Views.{rule, typed_in, kind_reached}
use Rattle.judging.specs.Answers.{Answers}

pub of_form : (x : Site) (f g : p.Form ℕ) (c d : Scopes) (k l : Checker) (r : Result (Expression Note) Refusal) → f ≡ g → Answers typed_in kind_reached (rule x g) c k d l r → Answers typed_in kind_reached (rule x f) c k d l r
of_form x f g c d k l r e h = subst (λ (z : p.Form ℕ). Answers typed_in kind_reached (rule x z) c k d l r) (sym e) h
