-- Literals as they are given.
use Rattle.std.proofs.Common.{◌≡◌, ◌∙◌, List, ap, sym, subst}
use Rattle.std.specs.Prelude.{Result}
use Rattle.mo_syntax.specs.declared.literal.Literal.{Literal}
use Rattle.type_terms.specs.declared.form.Form.{Form}
use Rattle.typing_rules.specs.AbstractSyntax as p
use Rattle.typing_rules.specs.Spans.{literal_of}
use Rattle.typing_rules.specs.Literals.{Constant}
use Rattle.type_judgements.specs.declared.refusal.Refusal.{Refusal}
use Rattle.abstract_tree.specs.declared.expressions.Expression as value
use Rattle.abstract_tree.specs.declared.expressions.ExpressionForm.TheVariants as e
use Rattle.value_scopes.specs.declared.note.Note as value_note
use Rattle.value_scopes.specs.declared.scopes.Scopes.{Scopes}
use Rattle.value_scopes.specs.Values.{noted}
use Rattle.judging.specs.declared.checker.Checker.{Checker}
use Rattle.judging.specs.declared.site.Site.{Site}
use Rattle.judging.specs.Views.{definitions, wanted_in, form_in, typed_in, kind_reached}
use Rattle.judging.specs.Answers.{Answers}
use Rattle.judging.proofs.Forms.{seen_Constant}

module _ (l a : Literal) (same : l ≡ a) where
  pub form_is : (copy : Literal) → literal_of copy ≡ literal_of l → (later : List Form) → form_in (e.Constant copy) later ≡ p.Constant (literal_of a)
  form_is copy g later = seen_Constant (noted later) copy ∙ ap p.Constant (g ∙ ap literal_of same)

  pub constant_is : (x : Site) (c : Scopes) (k n : Checker) (r : Result (value.Expression value_note.Note) Refusal)
      → Answers typed_in kind_reached (λ v. Constant (definitions v) x.at (wanted_in v x.wanted) (literal_of a)) c k c n r
      → Answers typed_in kind_reached (λ v. Constant (definitions v) x.at (wanted_in v x.wanted) (literal_of l)) c k c n r
  constant_is x c k n r h = subst (λ (m : Literal). Answers typed_in kind_reached (λ v. Constant (definitions v) x.at (wanted_in v x.wanted) (literal_of m)) c k c n r) (sym same) h
